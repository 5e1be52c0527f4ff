-- the choices are valid, and there is one where the node is not decided
use Rattle.std.proofs.Common.{◌≤◌, ◌<◌, ◌+◌, ◌/◌, ℕ, List, All, arith, ap, subst}
use Rattle.crew_terms.specs.Limits.{Limits, IsPermittedVisit, tasks_in, window_of}
use Rattle.crew_terms.specs.declared.Choice.{Choice}
use Rattle.crew_terms.specs.declared.Choice.TheVariants.{Window, Pair}
use Rattle.crew_terms.specs.Decided.{IsDecided, MayBegin}
use Rattle.search_terms.specs.Choice.{IsValidChoice}
use Rattle.branch_choice.specs.Rules.{IsLowestPair, IsOpenPair, IsUsedPair, IsUsesCut, IsWindowCut, NoneIsOpen, AreOneMinute}
use Rattle.branch_choice.specs.Uses.{BeginsAt, HasUse, IsPermittedUse}
use Rattle.branch_choice.specs.declared.uses.Use.{Use}

-- half a sum of two different numbers lies between them
halfway : (a b : ℕ) → a < b → (a ≤ (a + b) / 2) × ((a + b) / 2 < b)
halfway a b lt = (omega arith, omega arith)

module _ (n : Limits) (uses : List Use) (all : All (IsPermittedUse n) uses) where
  begins : (j t : ℕ) → BeginsAt uses j t → (j < tasks_in n) × ((window_of n j).0 ≤ t) × (t ≤ (window_of n j).1)
  begins j t (u, (i, l, e), task, start) =
      let v = (subst (IsPermittedUse n) e (all i u l)).visit in (
        subst (λ h. h < tasks_in n) task v.known,
        let a = v.early in let b = ap (λ h. (window_of n h).0) task in omega arith,
        let a = v.late in let b = ap (λ h. (window_of n h).1) task in omega arith,
      )

  pub uses_cut_is_valid : (j cut : ℕ) → IsUsesCut uses j cut → IsValidChoice n (Window j cut)
  uses_cut_is_valid j cut is =
      let two = is.task.holds in
      let a = (is.ends.between two.0 two.2).0 in
      let b = (is.ends.between two.1 two.3).1 in
      let lt : is.least < is.greatest = (let x = two.4 in omega arith) in
      let half = halfway is.least is.greatest lt in
      let first = begins j is.least is.ends.first in
      let last = begins j is.greatest is.ends.last in
      let e = is.half in
      record {
        can = record { task = first.0; early = (let x = first.1 in let y = half.0 in omega arith); late = (let x = last.2 in let y = half.1 in omega arith) };
        minute = tt;
      }

  used_may_begin : (k j : ℕ) → HasUse uses k j → MayBegin n k j
  used_may_begin k j (u, (i, l, e), team, task) =
      let v = (subst (IsPermittedUse n) e (all i u l)).visit in
      (u.start, subst (λ h. IsPermittedVisit n k h u.start) task (subst (λ g. IsPermittedVisit n g u.task u.start) team v))

  pub used_pair_is_valid : (k j : ℕ) → IsLowestPair (IsUsedPair n uses) k j → IsValidChoice n (Pair k j)
  used_pair_is_valid k j is = record { can = is.holds.free; minute = used_may_begin k j is.holds.used }

module _ (n : Limits) where
  pub window_cut_is_valid : (j cut : ℕ) → IsWindowCut n j cut → IsValidChoice n (Window j cut)
  window_cut_is_valid j cut is =
      let half = halfway (window_of n j).0 (window_of n j).1 is.task.holds.wide in
      let e = is.half in
      record {
        can = record { task = is.task.holds.task; early = (let x = half.0 in omega arith); late = (let x = half.1 in omega arith) };
        minute = tt;
      }

  pub open_pair_is_valid : (k j : ℕ) → IsLowestPair (IsOpenPair n) k j → IsValidChoice n (Pair k j)
  open_pair_is_valid k j is = record { can = is.holds.free; minute = is.holds.minute }

  pub none_is_decided : AreOneMinute n → NoneIsOpen n → IsDecided n
  none_is_decided windows pairs = record { windows = windows; pairs = λ k j free minute. pairs k j (record { free = free; minute = minute }) }

  -- a node that has a valid choice is not decided
  pub undecided : (choice : Choice) → IsValidChoice n choice → IsDecided n → ⊥
  undecided (Window j cut) valid decided =
      let a = decided.windows j valid.can.task in
      let b = valid.can.early in
      let d = valid.can.late in
      omega arith
  undecided (Pair k j) valid decided = decided.pairs k j valid.can valid.minute
