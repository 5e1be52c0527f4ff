-- what a checker says of a line that ends a sheet
use Rattle.std.proofs.Common.{◌≡◌, ◌+◌, ◌++◌, ℕ, List, [], ◌∷◌, ap, refl, subst, sym}
use Rattle.std.specs.Prelude.{Ok, Err}
use Rattle.crew_terms.specs.Words.{Words}
use Rattle.sheet_terms.specs.Reading.{SheetReading, SheetAnswer, First, More as Goes, Whole as Ends, No as Refuses}
use Rattle.sheet_terms.specs.Sheet.{Sheet}
use Rattle.sheet_terms.specs.Table.{ReachesInSheet, SaysOfSheet}
use Rattle.dossier_terms.specs.declared.Reason.{Reason}
use Rattle.line_in.specs.declared.refusals.Refusal.TheVariants as refusals
use Rattle.sheet_checker.specs.Checked.{Checked, IsJudged, IsReached, IsTrueBound, said_of}
use Rattle.sheet_checker.specs.Due.{Tells}
use Rattle.sheet_checker.specs.Kept.{IsKeptFrom}
use Rattle.sheet_checker.specs.declared.checker.SheetSaid.TheVariants.{More, Whole, No}
use Rattle.sheet_checker.specs.declared.checker.State.TheVariants as states
use Rattle.sheet_checker.specs.declared.due.Due.{Due}
use Rattle.sheet_checker.specs.declared.due.Due.TheVariants.{First as FirstLine}
use Rattle.sheet_checker.specs.declared.due.Step.TheVariants as steps

abbrev pub WholeIsTrue : Type 0
WholeIsTrue = (lines : List Words) (due : SheetReading) (words : Words) (s : Sheet) → ReachesInSheet First lines due → SaysOfSheet due words (Ends s) → IsTrueBound (lines ++ words ∷ []) s.bound

-- the sheet is good, and its bound holds
pub whole_holds : WholeIsTrue → (lines : ℕ) (due : SheetReading) (words : Words) (l : ℕ) (new : Checked) (read : List Words) → ReachesInSheet First read due → IsJudged lines due words (Whole l) new
    → IsTrueBound (read ++ words ∷ []) l
whole_holds law lines due words l new read reached judged = by judged.answer judged.is judged.says
  where
    by : (a : SheetAnswer) → SaysOfSheet due words a → Whole l ≡ said_of (lines + 1) a → IsTrueBound (read ++ words ∷ []) l
    by (Goes next) is e = absurd (cc)
    by (Ends s) is e = let same : l ≡ s.bound = cc in subst (IsTrueBound (read ++ words ∷ [])) (sym same) (law read due words s reached is)
    by (Refuses reason) is e = absurd (cc)

-- ---- a step is what the table says

abbrev pub OneAnswer : Type 0
OneAnswer = (due : SheetReading) (words : Words) (a b : SheetAnswer) → IsReached due → SaysOfSheet due words a → SaysOfSheet due words b → b ≡ a

module _ (one : OneAnswer) (lines : ℕ) (reading : SheetReading) (words : Words) (reached : IsReached reading) where
  pub more_judged : (due : Due) → Tells (SaysOfSheet reading words) (Ok (steps.More due)) → IsJudged lines reading words More (record { lines = lines + 1; at = states.Due due })
  more_judged due t = record { answer = Goes t.0; is = t.1; only = λ other a. one reading words (Goes t.0) other reached t.1 a; says = refl; count = refl; stands = t.2 }

  pub whole_judged : (bound : ℕ) → Tells (SaysOfSheet reading words) (Ok (steps.Whole bound)) → IsJudged lines reading words (Whole bound) (record { lines = lines + 1; at = states.Whole })
  whole_judged bound t = record { answer = Ends t.0; is = t.1; only = λ other a. one reading words (Ends t.0) other reached t.1 a; says = ap Whole t.2; count = refl; stands = refl }

  pub no_judged : (reason : Reason) → Tells (SaysOfSheet reading words) (Err (refusals.No reason))
      → IsJudged lines reading words (No (lines + 1) reason) (record { lines = lines + 1; at = states.Refused (lines + 1) reason })
  no_judged reason t = record { answer = Refuses reason; is = t; only = λ other a. one reading words (Refuses reason) other reached t a; says = refl; count = refl; stands = refl }

-- the first line is due of what is kept where nothing was read
pub first_kept : IsKeptFrom FirstLine
first_kept = (First, ([], refl), refl)
