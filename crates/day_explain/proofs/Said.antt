-- what is said of a day that was read
use Rattle.std.proofs.Common.{◌≡◌, ◌≤◌, ◌++◌, ◌∷◌, [], ℕ, List, Option, None, Some, Result, Ok, length, take, drop, ap, subst, sym, refl, ◌∙◌, arith, length-take}
use Rattle.std.specs.Prelude.{IsTrue}
use Rattle.std.proofs.Math.Seq.{take-length}
use Rattle.std.proofs.lemmas.List.{take-append-drop}
use Rattle.crew_terms.specs.declared.TheConstants.{LONGEST_DAY}
use Rattle.crew_io.specs.Io.{Appended, AppendedPart, HasEnded}
use Rattle.crew_io.specs.Text.{ReadsText, TookAtMost}
use Rattle.crew_io.specs.declared.text.Text.TheVariants as text_is
use Rattle.crew_io.specs.Appends.{appended_none}
use Rattle.crew_io.specs.Bytes.{OfBytes, piece_front}
use Rattle.day_faults.specs.declared.faults.FaultyRecord.{FaultyRecord}
use Rattle.day_faults.specs.declared.passes.DayFaults.{DayFaults}
use Rattle.day_explain.specs.Text.{explanation, long_text}
use Rattle.day_explain.specs.Says.{AreTold, IsTooLong, HasFaults, OfFine, OfWrong, SaysAt, SaysFront, Wrote, end_of, is_of_text, is_wrong_or_write_fault}
use Rattle.day_explain.specs.declared.read.Ended.{Ended}
use Rattle.day_explain.specs.declared.read.Ended.TheVariants as ended
use Rattle.day_explain.specs.declared.told.Told.{Told}

pub same_ok : {T E : Type 0} {x y : T} → ◌≡◌ {A = Result T E} (Ok x) (Ok y) → x ≡ y
same_ok e = cc

-- all of a piece is a front of it
pub part_of_all : (got new : Option (List ℕ)) (piece : List ℕ) → Appended got new piece → AppendedPart got new piece
part_of_all None new piece all = all
part_of_all (Some bytes) new piece all = (length piece, omega arith, all ∙ ap (λ p. Some (bytes ++ p)) (sym (take-length piece)))

-- ---- a text that was read

module _ (text : List ℕ) (faults : DayFaults) (told : List Told) (within : length text ≤ LONGEST_DAY) (are : AreTold text faults told) where
  says_of : (records : List FaultyRecord) → faults.records.items ≡ records → SaysAt (end_of records) None text (explanation faults told)
  says_of [] e = record { within = within; faults = faults; told = told; are = are; none = e; text = refl }
  says_of (r ∷ rs) e = HasFaults within faults told are (λ none. let f : r ∷ rs ≡ [] = sym e ∙ none in absurd (cc)) refl

  front_of : (records : List FaultyRecord) → faults.records.items ≡ records → (n : ℕ) → SaysFront text (take n (explanation faults told))
  front_of [] e n = OfFine (explanation faults told) (says_of [] e) n refl
  front_of (r ∷ rs) e n = OfWrong (explanation faults told) (says_of (r ∷ rs) e) n refl

  -- what is told of it was written
  pub told_says : (got new : Option (List ℕ)) → Appended got new (explanation faults told) → Wrote got new (SaysAt (end_of faults.records.items) None text)
  told_says got new all = (explanation faults told, all, says_of faults.records.items refl)

  -- or a front of that
  pub told_front : (got new : Option (List ℕ)) → AppendedPart got new (explanation faults told) → Wrote got new (SaysAt ended.WriteFault None text)
  told_front got new part =
      let whole = explanation faults told in
      let w = piece_front got got new [] whole (appended_none got) part in
      (take w.0 whole, w.2, front_of faults.records.items refl w.0)

-- the end of a text that was told
pub end_of_text : (records : List FaultyRecord) → IsTrue (is_of_text (end_of records))
end_of_text [] = refl
end_of_text (r ∷ rs) = refl

-- where it was told, no write failed
pub end_no_fault : (records : List FaultyRecord) → end_of records ≡ ended.WriteFault → ⊥
end_no_fault [] e = absurd (cc)
end_no_fault (r ∷ rs) e = absurd (cc)

-- ---- the whole input

says_any : (answer : Ended) (unseen : Option (List ℕ)) (input written : List ℕ) → IsTrue (is_of_text answer) → SaysAt answer None input written → SaysAt answer unseen input written
says_any ended.Fine unseen input written of_text s = s
says_any ended.Wrong unseen input written of_text s = s
says_any ended.ReadFault unseen input written of_text s = absurd (cc)
says_any ended.WriteFault unseen input written of_text s = s

-- the input is the text
pub whole_says : (left later got new : Option (List ℕ)) (bytes : List ℕ) (answer : Ended) → ReadsText LONGEST_DAY left (text_is.Whole bytes) later → IsTrue (is_of_text answer)
    → Wrote got new (SaysAt answer None bytes) → OfBytes left got new (SaysAt answer later)
whole_says None later got new bytes answer read of_text wrote = tt
whole_says (Some input) later got new bytes answer read of_text wrote =
    (wrote.0, wrote.1, says_any answer later input wrote.0 of_text (subst (λ x. SaysAt answer None x wrote.0) read.0 wrote.2))

-- and nothing is left
pub whole_ended : (left later : Option (List ℕ)) (bytes : List ℕ) → ReadsText LONGEST_DAY left (text_is.Whole bytes) later → HasEnded later
whole_ended None later bytes read = subst HasEnded (sym read) tt
whole_ended (Some input) later bytes read = subst HasEnded (sym read.1) refl

-- nothing was written
pub none_memory : (left got new : Option (List ℕ)) → new ≡ got → OfBytes left got new (λ input written. written ≡ [])
none_memory None got new same = tt
none_memory (Some input) got new same = ([], subst (λ later. Appended got later []) (sym same) (appended_none got), refl)

-- more bytes come than a day may have
pub long_says : (left later got new : Option (List ℕ)) (answer : Ended) → ReadsText LONGEST_DAY left text_is.TooLong later → (answer ≡ ended.Wrong → Appended got new long_text)
    → AppendedPart got new long_text → IsTrue (is_wrong_or_write_fault answer) → OfBytes left got new (SaysAt answer later)
long_says None later got new answer read all part others = tt
long_says (Some input) later got new ended.Fine read all part others = absurd (cc)
long_says (Some input) later got new ended.ReadFault read all part others = absurd (cc)
long_says (Some input) later got new ended.Wrong read all part others = (long_text, all refl, IsTooLong read.0 refl)
long_says (Some input) later got new ended.WriteFault read all part others =
    let w = piece_front got got new [] long_text (appended_none got) part in
    (take w.0 long_text, w.2, OfWrong long_text (IsTooLong read.0 refl) w.0 refl)

-- a read has failed
pub fault_says : (left later got : Option (List ℕ)) → TookAtMost LONGEST_DAY left later → OfBytes left got got (SaysAt ended.ReadFault later)
fault_says None later got took = tt
fault_says (Some input) later got took = (
  [],
  appended_none got,
  record {
    none = refl;
    read = take took.0 input;
    within = (let a = took.1 in omega (arith, length-take took.0 input));
    rest = drop took.0 input;
    left = took.3;
    parts = sym (take-append-drop took.0 input);
  },
)

pub long_no_read : (answer : Ended) → IsTrue (is_wrong_or_write_fault answer) → answer ≡ ended.ReadFault → ⊥
long_no_read answer others fault = absurd (let f = subst (λ s. IsTrue (is_wrong_or_write_fault s)) fault others in cc)

pub long_not_fine : (answer : Ended) → IsTrue (is_wrong_or_write_fault answer) → answer ≡ ended.Fine → ⊥
long_not_fine answer others fine = absurd (let f = subst (λ s. IsTrue (is_wrong_or_write_fault s)) fine others in cc)

pub text_no_read : (answer : Ended) → IsTrue (is_of_text answer) → answer ≡ ended.ReadFault → ⊥
text_no_read answer others fault = absurd (let f = subst (λ s. IsTrue (is_of_text s)) fault others in cc)
