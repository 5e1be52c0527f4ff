-- what a reader finds that stands where a line between dossiers is due
use Rattle.std.proofs.Common.{◌≡◌, ◌≢◌, ◌≤◌, ◌<◌, ◌+◌, ◌++◌, ℕ, zero, suc, List, [], ◌∷◌, length, Option, None, Some, Result, Err, false, ap, subst, sym, refl, ◌∙◌, arith, length-append, append_assoc}
use Rattle.std.specs.Prelude.{flat_map, IsTrue}
use Rattle.std.specs.List.{sum_by}
use Rattle.std.proofs.lemmas.List.Elements.{All-nil}
use Rattle.std.proofs.lemmas.List.Sums.{sum_by-cons}
use Rattle.crew_terms.specs.Instance.{Instance}
use Rattle.crew_terms.specs.Words.{Words, line_of, line_text, words_of, with_feed}
use Rattle.crew_terms.specs.declared.TheConstants.{LONGEST_INPUT, MOST_TASKS}
use Rattle.crew_io.specs.Lines.{Reader, Advances, AnswersTold, Answers as Finds, IsPartial, allowance, rest_of}
use Rattle.crew_io.specs.declared.lines.Progress.{Progress}
use Rattle.crew_io.specs.declared.lines.Progress.TheVariants as progress
use Rattle.dossier_terms.specs.declared.Reason.TheVariants as reasons
use Rattle.dossier_terms.specs.Dossier.{Dossier, IsGood}
use Rattle.dossier_commands.specs.Input.{Stops, LineTooLong, InputTooLong}
use Rattle.line_in.specs.declared.faults.LineFault.{LineFault}
use Rattle.line_in.specs.Faults.{reason_for}
use Rattle.part_terms.specs.Parts.{Part, Restricts}
use Rattle.part_texts.specs.Bundle.{Bundle, HaveTasks}
use Rattle.part_texts.specs.Lines.{lines_in_bundle, text_of_bundle}
use Rattle.parts_reader.specs.Input.{BadLine, Begun, BetweenDossiers, Fresh, HasParts, IsBegun, IsEnd, IsFaultAt, IsLineDue, IsPlace, IsRefusal, NoLine, lines_begun, room_at, text_begun, text_up_to}
use Rattle.parts_reader.specs.Stages.{HaltsAt, halt_of}
use Rattle.parts_reader.specs.declared.reason.BundleReason.{BundleReason}
use Rattle.parts_reader.specs.declared.reason.BundleReason.TheVariants.{Line}
use Rattle.parts_reader.specs.declared.halt.Halt.{Halt}
use Rattle.parts_reader.specs.declared.halt.Halt.TheVariants as halts

-- what is held, and what the source has left
pub unseen_of : (reader : Reader) (left : Option (List ℕ)) (rest : List ℕ) → rest_of reader left ≡ Some rest → (unseen : List ℕ) × (left ≡ Some unseen) × (rest ≡ reader.held ++ unseen)
unseen_of reader None rest e = absurd (cc)
unseen_of reader (Some unseen) rest e = (unseen, refl, cc)

-- a bundle has lines
some_lines : (done : List Bundle) → done ≢ [] → 0 < sum_by lines_in_bundle done
some_lines [] some = absurd (some refl)
some_lines (b ∷ done) some = let e = sum_by-cons lines_in_bundle b done in omega arith

module _ (input : List ℕ) (done : List Bundle) (begun : Begun) (old new : Reader) (left later : Option (List ℕ)) (lines : ℕ)
    (limit : old.limit ≡ LONGEST_INPUT) (p : IsPlace input done begun old left lines) where
  -- what an answer finds of the rest
  found : (answer : Progress) → Advances old left answer new later → (after : List ℕ) × (rest_of new later ≡ Some after) × Finds (room_at done begun) p.rest answer new.line after
  found answer a =
      let room : allowance old ≡ room_at done begun = (let h = p.handed in omega arith) in
      subst (λ n. AnswersTold n (Some p.rest) answer new.line (rest_of new later)) room
      (subst (λ o. AnswersTold (allowance old) o answer new.line (rest_of new later)) p.is a.rest)

  -- the line is of these words, which lead on
  pub goes_on : (words : Words) (next : Begun) → Advances old left progress.Line new later → new.line ≡ line_of words → text_begun next ≡ text_begun begun ++ line_text words
      → lines_begun next ≡ lines_begun begun + 1 → IsBegun next → IsPlace input done next new later (lines + 1)
  goes_on words next a is text count ok =
      let f = found progress.Line a in
      let behind = flat_map text_of_bundle done in
      let before = text_up_to done begun in
      let line = with_feed new.line in
      let whole : text_up_to done next ≡ before ++ line = ap (λ x. behind ++ x) text ∙ sym (append_assoc behind (text_begun begun) (line_text words))
      ∙ ap (λ x. before ++ with_feed x) (sym is) in
      let handed : new.handed ≡ length (text_up_to done next) = a.handed ∙ ap (λ n. n + length line) p.handed ∙ sym (length-append before line) ∙ ap length (sym whole) in
      record {
        rest = f.0;
        is = f.1;
        read = record {
          text = p.read.text ∙ ap (λ x. before ++ x) f.2.parts ∙ sym (append_assoc before line f.0) ∙ ap (λ x. x ++ f.0) (sym whole);
          within = (let w = a.within in let l = a.limit in omega (arith, handed, w, l, limit));
          good = p.read.good;
          begins = ok;
        };
        handed = handed;
        number = (let n = p.number in omega (arith, n, count));
      }

  -- the line has a fault
  pub refuses : (fault : LineFault) → Advances old left progress.Line new later → IsFaultAt begun (words_of new.line) fault → IsRefusal input done (lines + 1) (Line (reason_for fault))
  refuses fault a how =
      let f = found progress.Line a in
      BadLine begun new.line f.0 (record { text = p.read.text ∙ ap (λ x. text_up_to done begun ++ x) f.2.parts; within = p.read.within; good = p.read.good; begins = p.read.begins })
      f.2.plain f.2.fits fault how (let n = p.number in omega (arith, n)) refl

  no_end : 0 < length p.rest → IsEnd done begun p.rest → ⊥
  no_end l e = let n = ap length e.none in absurd (omega (arith, l, n))

  is_over : IsEnd done begun p.rest → 0 < lines
  is_over e = let s = some_lines done e.some in let n = p.number in omega arith

  -- no line comes whole
  pub stops : IsLineDue begun → (answer : Progress) → Advances old left answer new later → (halt : Halt) → halt_of (lines + 1) answer ≡ Some halt
      → (begun ≡ Fresh → 0 < lines → answer ≡ progress.End 0 → ⊥) → HaltsAt input done later halt
  stops due progress.Line a halt is more = absurd (cc)
  stops due progress.TooLong a halt is more =
      let f = found progress.TooLong a in
      let m = f.2.0.more in
      let h : halts.No (lines + 1) (Line reasons.TooLong) ≡ halt = cc in
      subst (HaltsAt input done later) h
      (NoLine begun p.rest p.read due reasons.TooLong (LineTooLong f.2.0 refl) (no_end (omega (arith, m))) (let n = p.number in omega (arith, n)) refl)
  stops due progress.TooMuch a halt is more =
      let f = found progress.TooMuch a in
      let m = f.2.0.more in
      let h : halts.No (lines + 1) (Line reasons.TooMuch) ≡ halt = cc in
      subst (HaltsAt input done later) h
      (NoLine begun p.rest p.read due reasons.TooMuch (InputTooLong f.2.0 refl) (no_end (omega (arith, m))) (let n = p.number in omega (arith, n)) refl)
  stops due (progress.End zero) a halt is more =
      let f = found (progress.End zero) a in
      let h : halts.No (lines + 1) (Line reasons.End) ≡ halt = cc in
      subst (HaltsAt input done later) h
      (NoLine begun p.rest p.read due reasons.End (Stops zero f.2.0 refl) (λ e. more e.between (is_over e) refl) (let n = p.number in omega (arith, n)) refl)
  stops due (progress.End (suc partial)) a halt is more =
      let f = found (progress.End (suc partial)) a in
      let m = f.2.0.count in
      let h : halts.No (lines + 1) (Line reasons.End) ≡ halt = cc in
      subst (HaltsAt input done later) h
      (NoLine begun p.rest p.read due reasons.End (Stops (suc partial) f.2.0 refl) (no_end (omega (arith, m))) (let n = p.number in omega (arith, n)) refl)
  stops due progress.ReadFault a halt is more =
      let f = found progress.ReadFault a in
      let u = unseen_of new later f.0 f.1 in
      let h : halts.ReadFault ≡ halt = cc in
      subst (HaltsAt input done later) h (record {
        part = new.held;
        unseen = u.0;
        rest = u.1;
        read = BetweenDossiers begun (record {
          text = p.read.text ∙ ap (λ x. text_up_to done begun ++ x) (sym f.2 ∙ u.2);
          within = p.read.within;
          good = p.read.good;
          begins = p.read.begins;
        }) due (subst (λ room. IsPartial room new.held (length new.held)) (let h = p.handed in omega arith) (a.fault refl));
      })

-- no part has no tasks
pub none_have : (i : Instance) → HaveTasks i [] []
none_have i = record {
  parts = [];
  instances = refl;
  disjoint = record { each = All-nil (λ (part : Part). Restricts i part.instance part.tasks); once = λ k m d a b. absurd (omega (arith, b)) };
  are = refl;
}

-- behind the line `parts`
pub no_parts_yet : (day : Dossier) (k : ℕ) → IsGood day → k ≤ MOST_TASKS → HasParts day k []
no_parts_yet day k good few = record { good_day = good; few = few; within = omega arith; good = All-nil IsGood; divided = ([], none_have day.instance) }

-- ---- answers of a reader

pub none_of : {X : Type 0} (o : Option X) → ((x : X) → o ≡ Some x → ⊥) → o ≡ None
none_of None none = refl
none_of (Some x) none = absurd (none x refl)

-- where no halt comes a line does
pub none_is_line : (number : ℕ) (answer : Progress) → halt_of number answer ≡ None → answer ≡ progress.Line
none_is_line number progress.Line is = refl
none_is_line number progress.TooLong is = absurd (cc)
none_is_line number progress.TooMuch is = absurd (cc)
none_is_line number (progress.End partial) is = absurd (cc)
none_is_line number progress.ReadFault is = absurd (cc)

pub line_is_no_fault : (answer : Progress) → answer ≡ progress.Line → answer ≡ progress.ReadFault → ⊥
line_is_no_fault answer e f = let g : progress.Line ≡ progress.ReadFault = sym e ∙ f in cc

pub no_is_no_fault : {T : Type 0} (halt : Halt) (number : ℕ) (reason : BundleReason) → halt ≡ halts.No number reason → ◌≡◌ {A = Result T Halt} (Err halt) (Err halts.ReadFault) → ⊥
no_is_no_fault halt number reason is e =
    let f : halt ≡ halts.ReadFault = cc in
    let g : halts.No number reason ≡ halts.ReadFault = sym is ∙ f in
    cc

-- a line of these words
pub line_is : ((line : List ℕ) → line_of (words_of line) ≡ line) → (line shown : List ℕ) (words : Words) → shown ≡ line → words_of shown ≡ words → line ≡ line_of words
line_is law line shown words is e = sym (law line) ∙ ap line_of (ap words_of (sym is) ∙ e)

pub not_true : {P : Type 0} → IsTrue false → P
not_true h = absurd (cc)
