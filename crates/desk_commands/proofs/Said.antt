-- what is written for the dossiers of an input, one after another
use Rattle.std.proofs.Common.{◌≡◌, ◌≤◌, ◌+◌, ◌++◌, ℕ, List, [], ◌∷◌, length, take, Option, None, Some, ap, subst, sym, refl, ◌∙◌, arith, append-nil, append_assoc}
use Rattle.std.specs.Prelude.{All, IfSome}
use Rattle.std.proofs.lemmas.List.{take-append-le}
use Rattle.std.proofs.lemmas.List.Elements.{All-nil, All-push}
use Rattle.crew_terms.specs.declared.TheConstants.{LONGEST_INPUT}
use Rattle.crew_io.specs.Io.{Appended, AppendedPart}
use Rattle.crew_io.specs.Bytes.{OfBytes, piece_front}
use Rattle.crew_io.specs.Lines.{Reader, fresh_reader, rest_of}
use Rattle.crew_io.specs.Appends.{appended_none, appended_both, take_past}
use Rattle.dossier_terms.specs.declared.Reason.{Reason}
use Rattle.dossier_terms.specs.Dossier.{Dossier}
use Rattle.dossier_terms.specs.Reading.{Form}
use Rattle.dossier_terms.specs.Accepted.{IsAccepted}
use Rattle.cert_checker.specs.Checked.{Checked, IsTrueYes, IsWholeAt, fresh_checker, verdict_of}
use Rattle.cert_checker.specs.declared.checker.Verdict.{Verdict}
use Rattle.dossier_commands.specs.Input.{Front, no_front, IsAcceptedBehind, Fresh, IsBetween, IsNextDossier, CanGoOn, IsRefusal, IsInterrupted, HasRead}
use Rattle.round_changes.specs.Named.{RoundByNames}
use Rattle.desk_commands.specs.Rounds.{begun_text, desk_text, end_of, head_of, kept_behind, kept_of, round_text, rounds_from}
use Rattle.desk_commands.specs.Says.{SaysDone, SaysNo, SaysFront, SaysReadFault}
use Rattle.desk_commands.specs.declared.output.DeskOutput.{DeskOutput}
use Rattle.desk_commands.specs.declared.read.Refusal.{Refusal}

-- ---- one dossier more

rounds_more : (o : DeskOutput) (n : ℕ) (b : Option RoundByNames) (ds : List Dossier) (d : Dossier)
    → rounds_from o n b (ds ++ d ∷ []) ≡ rounds_from o n b ds ++ round_text o (n + length ds) (kept_behind b ds) d
rounds_more o n b [] d = append-nil (round_text o n b d) ∙ ap (λ m. round_text o m b d) (let e : n ≡ n + 0 = omega arith in e)
rounds_more o n b (e ∷ ds) d =
    ap (λ x. round_text o n b e ++ x) (rounds_more o (n + 1) (Some (kept_of e)) ds d)
    ∙ sym (append_assoc (round_text o n b e) (rounds_from o (n + 1) (Some (kept_of e)) ds) (round_text o (n + 1 + length ds) (kept_behind (Some (kept_of e)) ds) d))
    ∙ ap (λ m. (round_text o n b e ++ rounds_from o (n + 1) (Some (kept_of e)) ds) ++ round_text o m (kept_behind (Some (kept_of e)) ds) d)
    (let f : n + 1 + length ds ≡ n + length (e ∷ ds) = omega arith in f)

kept_more : (b : Option RoundByNames) (ds : List Dossier) (d : Dossier) → kept_behind b (ds ++ d ∷ []) ≡ Some (kept_of d)
kept_more b [] d = refl
kept_more b (e ∷ ds) d = kept_more (Some (kept_of e)) ds d

count_more : (ds : List Dossier) (d : Dossier) → length (ds ++ d ∷ []) ≡ length ds + 1
count_more [] d = refl
count_more (e ∷ ds) d = let h = count_more ds d in omega (arith, h)

begun_more : (o : DeskOutput) (ds : List Dossier) (d : Dossier) → begun_text o ds ++ round_text o (length ds + 1) (kept_behind None ds) d ≡ begun_text o (ds ++ d ∷ [])
unfolding begun_text
begun_more o ds d =
    append_assoc (head_of o) (rounds_from o 1 None ds) (round_text o (length ds + 1) (kept_behind None ds) d)
    ∙ ap (λ m. head_of o ++ (rounds_from o 1 None ds ++ round_text o m (kept_behind None ds) d)) (let f : length ds + 1 ≡ 1 + length ds = omega arith in f)
    ∙ ap (λ x. head_of o ++ x) (sym (rounds_more o 1 None ds d))

begun_none : (o : DeskOutput) → begun_text o [] ≡ head_of o
unfolding begun_text
begun_none o = append-nil (head_of o)

-- ---- fronts

-- what stands before a text, and a front of the text
front_past : (xs ys zs : List ℕ) (n : ℕ) → n ≤ length ys → xs ++ take n ys ≡ take (length xs + n) ((xs ++ ys) ++ zs)
front_past xs ys zs n h =
    ap (λ w. xs ++ w) (sym (take-append-le n ys zs h)) ∙ sym (take_past xs (ys ++ zs) n) ∙ ap (take (length xs + n)) (sym (append_assoc xs ys zs))

front_first : (xs zs : List ℕ) → xs ≡ take (length xs + 0) (xs ++ zs)
front_first xs zs = sym (append-nil xs) ∙ sym (take_past xs zs 0)

front_last : (xs ys : List ℕ) (n : ℕ) → xs ++ take n ys ≡ take (length xs + n) (xs ++ ys)
front_last xs ys n = sym (take_past xs ys n)

-- ---- what was read and written

-- these dossiers are read, and their text is written but for its end
pub record HasSaid (output : DeskOutput) (input : List ℕ) (got0 : Option (List ℕ)) (reader : Reader) (left got : Option (List ℕ)) (at : Checked) (rounds : ℕ) (before : Option RoundByNames) : Type 0 where
  pub done : List Dossier
  pub between : IsBetween no_front input done reader left at
  pub count : rounds ≡ length done
  pub kept : before ≡ kept_behind None done
  pub written : Appended got0 got (begun_text output done)
  pub each : All IsTrueYes done

-- where the source tells its bytes
abbrev pub HasSaidOf : DeskOutput → Option (List ℕ) → Option (List ℕ) → Reader → Option (List ℕ) → Option (List ℕ) → Checked → ℕ → Option RoundByNames → Type 0
HasSaidOf output left0 got0 reader left got at rounds before = IfSome left0 (λ input. HasSaid output input got0 reader left got at rounds before)

pub opens : (reader : Reader) (checker : Checked) → reader ≡ fresh_reader LONGEST_INPUT → checker ≡ fresh_checker → CanGoOn reader checker
opens reader checker e f = subst (λ r. CanGoOn r checker) (sym e) (subst (CanGoOn (fresh_reader LONGEST_INPUT)) (sym f) (record {
  going = record { going = refl; limit = refl; within = omega arith; few = omega arith };
  first = Fresh refl;
}))

-- nothing is read yet of an input
none_read : (input : List ℕ) → HasRead no_front input [] [] input Form
none_read input = record { text = refl; within = omega arith; good = All-nil _; each = All-nil _; leads = refl }

accepted_of : (input : List ℕ) (done : List Dossier) → IsAcceptedBehind no_front input done → IsAccepted input done
accepted_of input done behind = subst (λ bytes. IsAccepted bytes done) (sym behind.text) behind.accepted

unseen_of : (reader : Reader) (left : Option (List ℕ)) (rest : List ℕ) → rest_of reader left ≡ Some rest → (unseen : List ℕ) × (left ≡ Some unseen) × (rest ≡ reader.held ++ unseen)
unseen_of reader None rest e = absurd (cc)
unseen_of reader (Some unseen) rest e = (unseen, refl, cc)

-- the front that is no byte
pub front_none : (output : DeskOutput) (left got : Option (List ℕ)) → OfBytes left got got (SaysFront output)
front_none output None got = tt
front_none output (Some input) got = (
  [],
  appended_none got,
  record { dossiers = []; rest = input; read = none_read input; each = All-nil IsTrueYes; length_written = 0; front = refl },
)

-- a front of what comes first
pub front_head : (output : DeskOutput) (left got added : Option (List ℕ)) → AppendedPart got added (head_of output) → OfBytes left got added (SaysFront output)
front_head output None got added wrote = tt
front_head output (Some input) got added wrote =
    let w = piece_front got got added [] (head_of output) (appended_none got) wrote in (
      [] ++ take w.0 (head_of output),
      w.2,
      record {
        dossiers = [];
        rest = input;
        read = none_read input;
        each = All-nil IsTrueYes;
        length_written = w.0;
        front = sym (take-append-le w.0 (head_of output) (end_of output 0) w.1) ∙ ap (λ x. take w.0 (x ++ end_of output 0)) (sym (begun_none output));
      },
    )

-- what comes first is written
pub begins : (output : DeskOutput) (left got added : Option (List ℕ)) (reader : Reader) (checker : Checked) → reader ≡ fresh_reader LONGEST_INPUT → checker ≡ fresh_checker → Appended got added (head_of output)
    → HasSaidOf output left got reader left added checker 0 None
begins output None got added reader checker e f wrote = tt
begins output (Some input) got added reader checker e f wrote =
    subst (λ c. HasSaid output input got reader (Some input) added c 0 None) (sym f) (subst (λ r. HasSaid output input got r (Some input) added fresh_checker 0 None) (sym e) (record {
      done = [];
      between = record { rest = input; is = refl; read = none_read input; handed = refl; number = refl; ended = ((λ ended. absurd ended.1), (λ some. absurd (some refl))) };
      count = refl;
      kept = refl;
      written = subst (Appended got added) (sym (begun_none output)) wrote;
      each = All-nil IsTrueYes;
    }))

-- behind the dossiers whose text is written
module _ (output : DeskOutput) (left0 got0 : Option (List ℕ)) (old : Reader) (left got : Option (List ℕ)) (at : Checked) (rounds : ℕ) (before : Option RoundByNames)
    (so : HasSaidOf output left0 got0 old left got at rounds before) where
  -- what stands in the place of the number of rounds and of what is kept
  round_is : (done : List Dossier) (d : Dossier) → rounds ≡ length done → before ≡ kept_behind None done → round_text output (rounds + 1) before d ≡ round_text output (length done + 1) (kept_behind None done) d
  round_is done d count kept = ap (λ n. round_text output (n + 1) before d) count ∙ ap (λ b. round_text output (length done + 1) b d) kept

  -- one dossier more, and its part
  pub says_one_more : (new : Reader) (later added : Option (List ℕ)) (next : Checked) (verdict : Verdict) (now : RoundByNames)
      → ((front : Front) (input : List ℕ) (done : List Dossier) → IsBetween front input done old left at → IsNextDossier front input done verdict new later next)
      → ((d : Dossier) → IsWholeAt next.at d → now ≡ kept_of d)
      → ((d : Dossier) → IsWholeAt next.at d → verdict ≡ verdict_of d → Appended got added (round_text output (rounds + 1) before d)) → HasSaidOf output left0 got0 new later added next (rounds + 1) (Some now)
  says_one_more new later added next verdict now is_next is_now wrote = by left0 so
    where
      by : (l : Option (List ℕ)) → HasSaidOf output l got0 old left got at rounds before → HasSaidOf output l got0 new later added next (rounds + 1) (Some now)
      by None so = tt
      by (Some input) so =
          let n = is_next no_front input so.done so.between in
          let d = n.dossier in
          let part = subst (Appended got added) (round_is so.done d so.count so.kept) (wrote d n.whole n.says) in
          record {
            done = so.done ++ d ∷ [];
            between = n.between;
            count = ap (λ k. k + 1) so.count ∙ sym (count_more so.done d);
            kept = ap Some (is_now d n.whole) ∙ sym (kept_more None so.done d);
            written = subst (Appended got0 added) (begun_more output so.done d) (appended_both got0 got added (begun_text output so.done) _ so.written part);
            each = All-push IsTrueYes so.done d so.each n.true_yes;
          }

  -- the input has ended behind a dossier, and the end is written
  pub says_done : (added : Option (List ℕ)) → ((front : Front) (input : List ℕ) (done : List Dossier) → IsBetween front input done old left at → IsAcceptedBehind front input done)
      → Appended got added (end_of output rounds) → OfBytes left0 got0 added (SaysDone output)
  says_done added whole wrote = by left0 so
    where
      by : (l : Option (List ℕ)) → HasSaidOf output l got0 old left got at rounds before → OfBytes l got0 added (SaysDone output)
      by None so = tt
      by (Some input) so = (
        desk_text output so.done,
        appended_both got0 got added (begun_text output so.done) (end_of output (length so.done)) so.written (subst (λ n. Appended got added (end_of output n)) so.count wrote),
        record { dossiers = so.done; accepted = accepted_of input so.done (whole no_front input so.done so.between); text = refl; each = so.each },
      )

  -- a line is refused behind these dossiers, and the end is written
  pub says_no : (added : Option (List ℕ)) (told : Refusal)
      → ((front : Front) (input : List ℕ) (done : List Dossier) (number : ℕ) (reason : Reason) (dossiers : List Dossier) → IsRefusal front input done number reason → IsAcceptedBehind front input dossiers → ⊥)
      → ((front : Front) (input : List ℕ) (done : List Dossier) → IsBetween front input done old left at → IsRefusal front input done told.line told.reason)
      → Appended got added (end_of output rounds) → OfBytes left0 got0 added (SaysNo output told)
  says_no added told law refused wrote = by left0 so
    where
      by : (l : Option (List ℕ)) → HasSaidOf output l got0 old left got at rounds before → OfBytes l got0 added (SaysNo output told)
      by None so = tt
      by (Some input) so =
          let refusal = refused no_front input so.done so.between in (
            desk_text output so.done,
            appended_both got0 got added (begun_text output so.done) (end_of output (length so.done)) so.written (subst (λ n. Appended got added (end_of output n)) so.count wrote),
            record {
              not_accepted = λ dossiers yes. law no_front input so.done told.line told.reason dossiers refusal (record { behind = input; text = refl; within = yes.size; accepted = yes });
              before = so.done;
              refusal = refusal;
              text = refl;
              each = so.each;
            },
          )

  -- a front of the end is written
  pub front_end : (added : Option (List ℕ)) → AppendedPart got added (end_of output rounds) → OfBytes left0 got0 added (SaysFront output)
  front_end added wrote = by left0 so
    where
      by : (l : Option (List ℕ)) → HasSaidOf output l got0 old left got at rounds before → OfBytes l got0 added (SaysFront output)
      by None so = tt
      by (Some input) so =
          let end = end_of output (length so.done) in
          let w = piece_front got0 got added (begun_text output so.done) end so.written (subst (λ n. AppendedPart got added (end_of output n)) so.count wrote) in (
            begun_text output so.done ++ take w.0 end,
            w.2,
            record {
              dossiers = so.done;
              rest = so.between.rest;
              read = so.between.read;
              each = so.each;
              length_written = length (begun_text output so.done) + w.0;
              front = front_last (begun_text output so.done) end w.0;
            },
          )

  -- no more was written
  pub front_so_far : OfBytes left0 got0 got (SaysFront output)
  front_so_far = by left0 so
    where
      by : (l : Option (List ℕ)) → HasSaidOf output l got0 old left got at rounds before → OfBytes l got0 got (SaysFront output)
      by None so = tt
      by (Some input) so = (
        begun_text output so.done,
        so.written,
        record {
          dossiers = so.done;
          rest = so.between.rest;
          read = so.between.read;
          each = so.each;
          length_written = length (begun_text output so.done) + 0;
          front = front_first (begun_text output so.done) (end_of output (length so.done));
        },
      )

  -- a read has failed
  pub says_read_fault : (new : Reader) (later : Option (List ℕ)) → ((front : Front) (input : List ℕ) (done : List Dossier) → IsBetween front input done old left at → IsInterrupted front input done new later)
      → OfBytes left0 got0 got (SaysReadFault output later)
  says_read_fault new later stopped = by left0 so
    where
      by : (l : Option (List ℕ)) → HasSaidOf output l got0 old left got at rounds before → OfBytes l got0 got (SaysReadFault output later)
      by None so = tt
      by (Some input) so =
          let i = stopped no_front input so.done so.between in
          let u = unseen_of new later i.rest i.is in (
            begun_text output so.done,
            so.written,
            record {
              dossiers = so.done;
              lines = i.lines;
              due = i.due;
              part = new.held;
              rest = u.0;
              left = u.1;
              read = subst (λ rest. HasRead no_front input so.done i.lines rest i.due) u.2 i.read;
              front = i.part;
              text = refl;
              each = so.each;
            },
          )

  -- a front of one more part was written
  pub front_good : (new : Reader) (later added : Option (List ℕ)) (next : Checked) (verdict : Verdict)
      → ((front : Front) (input : List ℕ) (done : List Dossier) → IsBetween front input done old left at → IsNextDossier front input done verdict new later next)
      → ((d : Dossier) → IsWholeAt next.at d → verdict ≡ verdict_of d → AppendedPart got added (round_text output (rounds + 1) before d)) → OfBytes left0 got0 added (SaysFront output)
  front_good new later added next verdict is_next wrote = by left0 so
    where
      by : (l : Option (List ℕ)) → HasSaidOf output l got0 old left got at rounds before → OfBytes l got0 added (SaysFront output)
      by None so = tt
      by (Some input) so =
          let n = is_next no_front input so.done so.between in
          let d = n.dossier in
          let all = so.done ++ d ∷ [] in
          let begun = begun_text output so.done in
          let part = round_text output (length so.done + 1) (kept_behind None so.done) d in
          let w = piece_front got0 got added begun part so.written (subst (AppendedPart got added) (round_is so.done d so.count so.kept) (wrote d n.whole n.says)) in (
            begun ++ take w.0 part,
            w.2,
            record {
              dossiers = all;
              rest = n.between.rest;
              read = n.between.read;
              each = All-push IsTrueYes so.done d so.each n.true_yes;
              length_written = length begun + w.0;
              front =
                  front_past begun part (end_of output (length all)) w.0 w.1
                  ∙ ap (λ x. take (length begun + w.0) (x ++ end_of output (length all))) (begun_more output so.done d);
            },
          )
