-- what a reader answers of what it holds and of what follows it
use Rattle.std.proofs.Common.{◌≡◌, ◌≢◌, ◌≤◌, ◌<◌, ◌+◌, ◌++◌, ◌∷◌, ◌⊎◌, inl, inr, ℕ, suc, add-one, List, [], length, take, drop, Option, None, Some, ap, sym, refl, subst, ◌∙◌, arith, append_assoc, append-nil, length-take, length-append}
use Rattle.std.specs.Prelude.{slice_index}
use Rattle.std.proofs.lemmas.Bool.{cases_lt}
use Rattle.std.proofs.lemmas.List.{take-append-drop}
use Rattle.std.proofs.lemmas.List.Elements.{All-same}
use Rattle.std.proofs.Math.Seq.{drop-cons, take-length}
use Rattle.crew_terms.specs.Words.{IsLine, with_feed}
use Rattle.crew_terms.specs.declared.TheConstants.{LONGEST_LINE}
use Rattle.crew_io.proofs.Ranges.{plain_front}
use Rattle.crew_io.specs.Io.{MOST, HasEnded}
use Rattle.crew_io.specs.Lines.{Reader, rest_of, allowance, took_line, IsLineLength, IsPartial, Answers, AnswersTold, Advances, stop_of, handed_out, KeepsLine}
use Rattle.crew_io.specs.declared.lines.Progress.{Progress}
use Rattle.crew_io.specs.declared.lines.Progress.TheVariants.{Line, TooLong, TooMuch, End, ReadFault}

-- a reader that has read on, and handed out nothing
pub record IsSame (old : Reader) (left : Option (List ℕ)) (new : Reader) (later : Option (List ℕ)) : Type 0 where
  pub limit : new.limit ≡ old.limit
  pub handed : new.handed ≡ old.handed
  pub stopped : new.stopped ≡ None
  pub rest : rest_of new later ≡ rest_of old left

-- a reader that has stopped with this answer
pub record IsStopped (old : Reader) (left : Option (List ℕ)) (answer : Progress) (new : Reader) (later : Option (List ℕ)) : Type 0 where
  pub limit : new.limit ≡ old.limit
  pub handed : new.handed ≡ old.handed
  pub line : new.line ≡ []
  pub stopped : new.stopped ≡ Some answer
  pub rest : rest_of new later ≡ rest_of old left

split_line : (xs more : List ℕ) (n : ℕ) → n < length xs → slice_index xs n ≡ 10 → xs ++ more ≡ with_feed (take n xs) ++ (drop (n + 1) xs ++ more)
split_line xs more n h e =
    let d : drop n xs ≡ 10 ∷ drop (n + 1) xs = rw add-one (drop-cons xs n 0 h ∙ ap (λ b. b ∷ drop (suc n) xs) e) in
    ap (λ zs. zs ++ more) (sym (take-append-drop n xs) ∙ ap (λ zs. take n xs ++ zs) d) ∙ simp append_assoc

line_plain : (xs : List ℕ) (n : ℕ) → IsLineLength xs n → n ≤ LONGEST_LINE → IsLine (take n xs)
line_plain xs n f h = record { short = let w = f.within in omega (arith, length-take n xs); whole = f.plain }

told_line : (room : ℕ) (r : Reader) (later : Option (List ℕ)) (n : ℕ) → IsLineLength r.held n → n < length r.held → n ≤ LONGEST_LINE → n < room
    → AnswersTold room (rest_of r later) Line (take n r.held) (rest_of (took_line r n) later)
told_line room r None n f h l w = refl
told_line room r (Some more) n f h l w = (
  drop (n + 1) r.held ++ more,
  refl,
  record {
    plain = line_plain r.held n f l;
    fits = omega (arith, length-take n r.held);
    parts = split_line r.held more n h (f.feed h);
  },
)

told_stop : (room : ℕ) (r : Reader) (later : Option (List ℕ)) (answer : Progress) (line : List ℕ) → ((more : List ℕ) → Answers room (r.held ++ more) answer line (r.held ++ more))
    → AnswersTold room (rest_of r later) answer line (rest_of r later)
told_stop room r None answer line h = refl
told_stop room r (Some more) answer line h = (r.held ++ more, refl, h more)

told_end : (room : ℕ) (r : Reader) (later : Option (List ℕ)) (n : ℕ) → HasEnded later → IsLine r.held → length r.held ≤ room → n ≡ length r.held
    → AnswersTold room (rest_of r later) (End n) [] (rest_of r later)
told_end room r None n e p h l = refl
told_end room r (Some more) n e p h l =
    let s : r.held ++ more ≡ r.held = ap (λ zs. r.held ++ zs) e ∙ append-nil r.held in
    (r.held ++ more, refl, (record { plain = subst IsLine (sym s) p; fits = subst (λ zs. length zs ≤ room) (sym s) h; count = l ∙ ap length (sym s) }, refl))

-- the reader took a line
pub line_advances : (old mid new : Reader) (left later : Option (List ℕ)) (n : ℕ) → IsSame old left mid later → mid.handed ≤ mid.limit → mid.limit ≤ MOST
    → IsLineLength mid.held n → n < length mid.held → n ≤ LONGEST_LINE → n < allowance mid → new ≡ took_line mid n → Advances old left Line new later
line_advances old mid new left later n s w m f h l r e =
    subst (λ k. Advances old left Line k later) (sym e) record {
      limit = s.limit;
      handed = let p = s.handed in let q = f.within in omega (arith, length-append (take n mid.held) (10 ∷ []), length-take n mid.held);
      within = omega arith;
      most = m;
      line = line_plain mid.held n f l;
      stopped = s.stopped;
      rest = subst (λ o. AnswersTold (allowance old) o Line (take n mid.held) (rest_of (took_line mid n) later)) s.rest (told_line (allowance old) mid later n f h l (let p = s.handed in let q = s.limit in omega arith));
      fault = λ is. absurd (cc);
    }

stop_advances : (old mid new : Reader) (left later latest : Option (List ℕ)) (answer : Progress) → IsSame old left mid later → mid.handed ≤ mid.limit → mid.limit ≤ MOST → IsStopped mid later answer new latest
    → stop_of answer ≡ Some answer → handed_out answer [] ≡ [] → KeepsLine answer [] → AnswersTold (allowance mid) (rest_of mid later) answer [] (rest_of mid later)
    → (answer ≡ ReadFault → IsPartial (allowance mid) new.held (length new.held)) → Advances old left answer new latest
stop_advances old mid new left later latest answer s w m t a b k told fault = record {
  limit = t.limit ∙ s.limit;
  handed =
      let e : handed_out answer new.line ≡ [] = ap (handed_out answer) t.line ∙ b in
      let p = s.handed in
      let q = t.handed in
      omega (arith, ap length e);
  within = let p = t.handed in let q = t.limit in omega arith;
  most = let q = t.limit in omega arith;
  line = subst (KeepsLine answer) (sym t.line) k;
  stopped = t.stopped ∙ sym a;
  rest =
      let e : allowance mid ≡ allowance old = let p = s.handed in let q = s.limit in omega arith in
      subst (λ k. AnswersTold k (rest_of old left) answer new.line (rest_of new latest)) e
      (subst (λ o. AnswersTold (allowance mid) o answer new.line (rest_of new latest)) s.rest
      (subst (λ l. AnswersTold (allowance mid) (rest_of mid later) answer l (rest_of new latest)) (sym t.line)
      (subst (λ o. AnswersTold (allowance mid) (rest_of mid later) answer [] o) (sym t.rest) told)));
  fault = λ is.
      let e : allowance mid ≡ allowance old = let p = s.handed in let q = s.limit in omega arith in
      subst (λ k. IsPartial k new.held (length new.held)) e (fault is);
}

-- more bytes were found without an LF than the longest line has
pub long_advances : (old mid new : Reader) (left later : Option (List ℕ)) (n : ℕ) → IsSame old left mid later → mid.handed ≤ mid.limit → mid.limit ≤ MOST
    → IsLineLength mid.held n → LONGEST_LINE < allowance mid → LONGEST_LINE < n → IsStopped mid later TooLong new later → Advances old left TooLong new later
long_advances old mid new left later n s w m f l h t =
    stop_advances old mid new left later later TooLong s w m t refl refl refl (told_stop (allowance mid) mid later TooLong [] (λ more. (
      record {
        large = l;
        more = let q = f.within in omega (arith, length-append mid.held more);
        whole = plain_front mid.held more n 131073 f h;
      },
      refl,
    ))) (λ is. absurd (cc))

-- more bytes were found than may be handed out, with no line among them
pub much_advances : (old mid new : Reader) (left later : Option (List ℕ)) (n : ℕ) → IsSame old left mid later → mid.handed ≤ mid.limit → mid.limit ≤ MOST
    → IsLineLength mid.held n → allowance mid ≤ LONGEST_LINE → allowance mid ≤ n → allowance mid < length mid.held → IsStopped mid later TooMuch new later → Advances old left TooMuch new later
much_advances old mid new left later n s w m f l h r t =
    stop_advances old mid new left later later TooMuch s w m t refl refl refl (told_stop (allowance mid) mid later TooMuch [] (λ more. (
      record {
        small = l;
        more = omega (arith, length-append mid.held more);
        whole = plain_front mid.held more n (allowance mid) f h;
      },
      refl,
    ))) (λ is. absurd (cc))

-- the source has ended
pub end_advances : (old mid new : Reader) (left later latest : Option (List ℕ)) (n k : ℕ) → IsSame old left mid later → mid.handed ≤ mid.limit → mid.limit ≤ MOST
    → IsLineLength mid.held n → n ≡ length mid.held → k ≡ length mid.held → length mid.held ≤ LONGEST_LINE → length mid.held ≤ allowance mid → HasEnded later → IsStopped mid later (End k) new latest → Advances old left (End k) new latest
end_advances old mid new left later latest n k s w m f e q l r z t =
    stop_advances old mid new left later latest (End k) s w m t refl refl refl (told_end (allowance mid) mid later k z record { short = l; whole = All-same (λ b. b ≢ 10) mid.held (take n mid.held) (sym (ap (λ j. take j mid.held) e ∙ take-length mid.held)) f.plain } r q) (λ is. absurd (cc))

-- a read has failed
pub fault_advances : (old mid new : Reader) (left later latest : Option (List ℕ)) (n : ℕ) → IsSame old left mid later → mid.handed ≤ mid.limit → mid.limit ≤ MOST
    → IsLineLength mid.held n → n ≡ length mid.held → length mid.held ≤ LONGEST_LINE → length mid.held ≤ allowance mid → new.held ≡ mid.held → IsStopped mid later ReadFault new latest → Advances old left ReadFault new latest
fault_advances old mid new left later latest n s w m f e q l h t =
    stop_advances old mid new left later latest ReadFault s w m t refl refl refl (told_stop (allowance mid) mid later ReadFault [] (λ more. refl))
    (λ is. subst (λ held. IsPartial (allowance mid) held (length held)) (sym h)
    (record { plain = record { short = q; whole = All-same (λ b. b ≢ 10) mid.held (take n mid.held) (sym (ap (λ j. take j mid.held) e ∙ take-length mid.held)) f.plain }; fits = l; count = refl }))

-- what `stop` leaves, where the reader before it had handed out nothing
pub stopped_after : (mid x new : Reader) (later latest : Option (List ℕ)) (answer : Progress) → x.limit ≡ mid.limit → x.handed ≡ mid.handed → rest_of x latest ≡ rest_of mid later
    → new ≡ record x { line = []; stopped = Some answer } → IsStopped mid later answer new latest
stopped_after mid x new later latest answer l h r e =
    subst (λ k. IsStopped mid later answer k latest) (sym e) record { limit = l; handed = h; line = refl; stopped = refl; rest = r }

-- where the front is neither too long nor too much
pub line_fits : (n held room : ℕ) → ((LONGEST_LINE < room) × (LONGEST_LINE < n) → ⊥) → ((room ≤ LONGEST_LINE) × (room ≤ n) × (room < held) → ⊥) → n < held → (n ≤ LONGEST_LINE) × (n < room)
line_fits n held room long much h =
    by (cases_lt LONGEST_LINE room)
  where
    by : (LONGEST_LINE < room) ⊎ (room ≤ LONGEST_LINE) → (n ≤ LONGEST_LINE) × (n < room)
    by (inl p) = let q : LONGEST_LINE < n → ⊥ = λ q. long (p, q) in (omega arith, omega arith)
    by (inr p) = let q : room ≤ n → ⊥ = λ q. much (p, q, omega arith) in (omega arith, omega arith)

pub end_fits : (held room : ℕ) → ((LONGEST_LINE < room) × (LONGEST_LINE < held) → ⊥) → ((room ≤ LONGEST_LINE) × (room ≤ held) × (room < held) → ⊥) → (held ≤ LONGEST_LINE) × (held ≤ room)
end_fits held room long much =
    by (cases_lt LONGEST_LINE room)
  where
    by : (LONGEST_LINE < room) ⊎ (room ≤ LONGEST_LINE) → (held ≤ LONGEST_LINE) × (held ≤ room)
    by (inl p) = let q : LONGEST_LINE < held → ⊥ = λ q. long (p, q) in (omega arith, omega arith)
    by (inr p) = let q : room < held → ⊥ = λ q. much (p, omega arith, q) in (omega arith, omega arith)
