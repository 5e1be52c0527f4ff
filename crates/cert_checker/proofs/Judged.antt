-- where a checker stands after it judged a line
use Rattle.std.proofs.Common.{◌≡◌, ◌≢◌, ◌+◌, ℕ, [], refl, subst}
use Rattle.std.specs.Prelude.{Result, Ok, Err}
use Rattle.crew_terms.specs.Words.{Words}
use Rattle.dossier_terms.specs.Dossier.{Dossier}
use Rattle.dossier_terms.specs.declared.Reason.{Reason}
use Rattle.dossier_terms.specs.Reading.{Reading, Form, Answer, More as Goes, Whole as Ends, No as Refuses}
use Rattle.dossier_terms.specs.Table.{Says}
use Rattle.head_check.specs.declared.due.HeadDue.TheVariants as heads
use Rattle.cert_checker.specs.Due.{Awaits, IsOfTree, Tells}
use Rattle.cert_checker.specs.Checked.{IsEnded, IsOpen, IsJudged, IsPastTree, IsReached, IsTrueYes, said_of, StandsAfter}
use Rattle.cert_checker.specs.Kept.{IsKeptFrom, IsSettled, kept_state}
use Rattle.cert_checker.specs.Said.{IsSaidAt}
use Rattle.cert_checker.specs.declared.checker.Said.{Said}
use Rattle.cert_checker.specs.declared.checker.State.{State}
use Rattle.cert_checker.specs.declared.checker.State.TheVariants as states
use Rattle.cert_checker.specs.declared.due.Due.{Due}
use Rattle.cert_checker.specs.declared.due.Due.TheVariants.{Head, Pool, Route, Plan, Job, Tree, Node, Why, Share, Spare, Leaf, End}
use Rattle.cert_checker.specs.declared.due.Step.{Step}
use Rattle.cert_checker.specs.declared.due.Step.TheVariants.{More, Whole}

-- the answer of the table, with what it leads to
pub record IsAnswered (reading : Reading) (words : Words) (number : ℕ) (step : Result Step Reason) (said : Said) : Type 0 where
  pub answer : Answer
  pub is : Says reading words answer
  pub says : said ≡ said_of number answer
  pub stands : StandsAfter number answer (kept_state number step)

-- what is told of a step is the answer of the table
pub answered : (reading : Reading) (words : Words) (number : ℕ) (step : Result Step Reason) (said : Said) → Tells (Says reading words) step → IsSaidAt (kept_state number step) said
    → IsAnswered reading words number step said
answered reading words number (Ok (More next)) said tells says = record { answer = Goes tells.0; is = tells.1; says = says; stands = tells.2 }
answered reading words number (Ok (Whole ended)) said tells says = record { answer = Ends tells.0; is = tells.1; says = says tells.0 tells.2; stands = tells.2 }
answered reading words number (Err reason) said tells says = record { answer = Refuses reason; is = tells; says = says; stands = refl }

-- what is kept after a step holds
pub settles : (reading : Reading) (words : Words) (number : ℕ) (step : Result Step Reason) → IsReached reading → Tells (Says reading words) step
    → ((d n : Reading) (ws : Words) → IsReached d → Says d ws (Goes n) → IsReached n)
    → ((d : Reading) (ws : Words) (w : Dossier) → IsReached d → Says d ws (Ends w) → IsTrueYes w)
    → IsSettled (kept_state number step)
settles reading words number (Ok (More next)) reached tells goes ends = (tells.0, goes reading tells.0 words reached tells.1, tells.2)
settles reading words number (Ok (Whole ended)) reached tells goes ends = (tells.0, tells.2, ends reading words tells.0 reached tells.1)
settles reading words number (Err reason) reached tells goes ends = tt

-- what is kept after a step is there
pub not_spent : (number : ℕ) (step : Result Step Reason) → kept_state number step ≢ states.Spent
not_spent number (Ok (More next)) is = cc
not_spent number (Ok (Whole ended)) is = cc
not_spent number (Err reason) is = cc

-- a step is what the table says
pub judged : (lines : ℕ) (reading : Reading) (words : Words) (step : Result Step Reason) (said : Said) → IsReached reading → Tells (Says reading words) step
    → ((d : Reading) (ws : Words) (a b : Answer) → IsReached d → Says d ws a → Says d ws b → b ≡ a)
    → IsSaidAt (kept_state (lines + 1) step) said
    → IsJudged lines reading words said (record { lines = lines + 1; at = kept_state (lines + 1) step })
judged lines reading words step said reached tells one says = let it = answered reading words (lines + 1) step said tells says in record {
  answer = it.answer;
  is = it.is;
  only = λ other a. one reading words it.answer other reached it.is a;
  says = it.says;
  count = refl;
  stands = it.stands;
}

-- the first line is due of what is kept where nothing was read
pub first_kept : IsKeptFrom (Head heads.Form)
first_kept = (Form, ([], refl), (tt, tt, refl))

-- what stands for a line behind the line `tree` is of a tree
pub of_tree : (due : Due) (r : Reading) → Awaits due r → IsPastTree r → IsOfTree due
of_tree (Head heads.Form) r awaits past = subst IsPastTree awaits.2 past
of_tree (Head (heads.Size form)) r awaits past = subst IsPastTree awaits.2 past
of_tree (Head (heads.Place head more)) r awaits past = subst IsPastTree awaits.2 past
of_tree (Head (heads.Travel head more)) r awaits past = subst IsPastTree awaits.2 past
of_tree (Head (heads.Team head more)) r awaits past = subst IsPastTree awaits.2 past
of_tree (Head (heads.Task head more)) r awaits past = subst IsPastTree awaits.2 past
of_tree (Head (heads.Frozen head)) r awaits past = subst IsPastTree awaits.2 past
of_tree (Head (heads.Keep head more from)) r awaits past = subst IsPastTree awaits.2 past
of_tree (Head (heads.Whole base)) r awaits past = subst IsPastTree awaits.2 past
of_tree (Pool base) r awaits past = subst IsPastTree awaits past
of_tree (Route b more) r awaits past = subst IsPastTree awaits.1 past
of_tree (Plan b) r awaits past = subst IsPastTree awaits.1 past
of_tree (Job b more from) r awaits past = subst IsPastTree awaits.1 past
of_tree (Tree b) r awaits past = subst IsPastTree awaits.1 past
of_tree (Node tree) r awaits past = tt
of_tree (Why tree choice) r awaits past = tt
of_tree (Share tree more from) r awaits past = tt
of_tree (Spare tree) r awaits past = tt
of_tree (Leaf tree is_closed) r awaits past = tt
of_tree (End tree seen) r awaits past = tt

-- behind a whole dossier a line is due
pub ended_is_open : (at : State) → IsEnded at → IsOpen at
ended_is_open (states.Due due) e = absurd e.1
ended_is_open (states.Whole ended) e = (Form, refl)
ended_is_open (states.Refused line reason) e = absurd e.1
ended_is_open states.Spent e = absurd e.1
