-- cuts between uses
use Rattle.std.proofs.Common.{◌≤◌, ◌<◌, inl, inr, ℕ, List, Option, None, Some, All, arith, ap}
use Rattle.std.proofs.lemmas.Bool.{cases_lt}
use Rattle.crew_terms.specs.Limits.{Limits, tasks_in}
use Rattle.branch_choice.specs.Ends.{AreEndsAt, AreTogether, IsMiddle}
use Rattle.branch_choice.specs.Rules.{IsLowest, IsUsesCut}
use Rattle.branch_choice.specs.Uses.{BeginsAt, HasTwoStarts, IsPermittedUse}
use Rattle.branch_choice.specs.declared.ends.Ends.{Ends}
use Rattle.branch_choice.specs.declared.uses.Use.{Use}

-- a number of which a fact holds, and of none below it, is the lowest
pub lowest_of : (Holds : ℕ → Type 0) (j : ℕ) → Holds j → ((h : ℕ) → h < j → Holds h → ⊥) → IsLowest Holds j
lowest_of Holds j holds none = record { holds = holds; lowest = λ h x. elim (cases_lt h j) [ inl lt ↦ absurd (none h lt x) | inr ge ↦ ge ] }

module _ (uses : List Use) where
  -- a task whose ends are together does not have uses at two minutes
  pub one_start : (j : ℕ) (o : Option Ends) → AreEndsAt uses j o → AreTogether o → HasTwoStarts uses j → ⊥
  one_start j None none h two = none two.0 two.2
  one_start j (Some e) are h two =
      let a = (are.between two.0 two.2).0 in
      let b = (are.between two.1 two.3).1 in
      let d = two.4 in
      omega arith

  pub cut_between : (j cut : ℕ) (o : Option Ends) → AreEndsAt uses j o → IsMiddle o cut
      → ((h : ℕ) → h < j → HasTwoStarts uses h → ⊥) → IsUsesCut uses j cut
  cut_between j cut None are middle none = absurd middle
  cut_between j cut (Some e) ends middle none = record {
    task = lowest_of (HasTwoStarts uses) j (e.least, e.greatest, ends.first, ends.last, middle.0) none;
    least = e.least;
    greatest = e.greatest;
    ends = ends;
    half = middle.1;
  }

  -- permitted uses are of tasks of the node
  pub are_known : (n : Limits) → All (IsPermittedUse n) uses → (m : ℕ) → tasks_in n ≤ m → All (λ (u : Use). u.task < m) uses
  are_known n all m few = λ i d l. let a = (all i d l).visit.known in omega arith

  pub starts_below : (n : Limits) → All (IsPermittedUse n) uses → (j : ℕ) → HasTwoStarts uses j → j < tasks_in n
  starts_below n all j two = at two.2
    where
      at : BeginsAt uses j two.0 → j < tasks_in n
      at (u, (i, l, e), task, start) = let a = (all i u l).visit.known in let b = ap (λ (v : Use). v.task) e in omega arith
