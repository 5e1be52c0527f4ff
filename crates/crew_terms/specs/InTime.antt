-- laws of windows that end by the last minute
use Rattle.std.proofs.Common.{◌≡◌, ◌≤◌, ◌<◌, ◌+◌, ◌⊎◌, inl, inr, ℕ, length, get_or, set, ap, sym, subst, refl, arith, ◌∙◌, Option, None, Some}
use Rattle.std.proofs.lemmas.Bool.{cases_eq, cases_lt}
use Rattle.std.proofs.lemmas.List.{get_or_past, get_or-set_same, get_or-set_other, length-set}
use Rattle.std.proofs.lemmas.List.FromFn.{length-map-range_with_len}
use Rattle.crew_terms.specs.Instance.{Instance, task_of, no_task}
use Rattle.crew_terms.specs.Rules.{IsInstance}
use Rattle.crew_terms.specs.Plan.{Job, job_of}
use Rattle.crew_terms.specs.Limits.{Limits, window_of, root_limits, root_window}
use Rattle.crew_terms.specs.Nodes.{window_at_root}
use Rattle.crew_terms.specs.Tree.{CanSplit, child, with_window}
use Rattle.crew_terms.specs.declared.Choice.{Choice}
use Rattle.crew_terms.specs.declared.Choice.TheVariants as choices
use Rattle.crew_terms.specs.declared.Side.{Side}
use Rattle.crew_terms.specs.declared.Side.TheVariants.{First, Second}
use Rattle.crew_terms.specs.declared.TheConstants.{LAST_MINUTE}

-- each window ends by the last minute
abbrev pub EndInTime : Limits → Type 0
EndInTime n = (j : ℕ) → (window_of n j).1 ≤ LAST_MINUTE

-- those of the root do
pub root_in_time : (i : Instance) → IsInstance i → EndInTime (root_limits i)
root_in_time i h j = at (cases_lt j (length i.tasks))
  where
    of_job : j < length i.tasks → (o : Option Job) → job_of i.frozen j ≡ o → (root_window (task_of i j) o).1 ≤ LAST_MINUTE
    of_job l None e = let task = h.parts.tasks j no_task l in task.window.day
    of_job l (Some job) e =
        let task = h.parts.tasks j no_task l in let fits = h.frozen.jobs j job e in omega (arith, task.window.day, fits.window.late)

    at : (j < length i.tasks) ⊎ (length i.tasks ≤ j) → (window_of (root_limits i) j).1 ≤ LAST_MINUTE
    at (inl l) = subst (λ w. w.1 ≤ LAST_MINUTE) (sym (window_at_root i j l)) (of_job l (job_of i.frozen j) refl)
    at (inr l) =
        let m = length-map-range_with_len (λ j. root_window (task_of i j) (job_of i.frozen j)) 0 (length i.tasks) in
        let e : window_of (root_limits i) j ≡ (0, 0) = get_or_past (root_limits i).windows j (0, 0) (omega arith) in
        subst (λ w. w.1 ≤ LAST_MINUTE) (sym e) (omega arith)

-- with another window that does they do
window_in_time : (n : Limits) (j a b : ℕ) → EndInTime n → b ≤ LAST_MINUTE → EndInTime (with_window n j a b)
window_in_time n j a b h last i = at (cases_eq i j) (cases_lt j (length n.windows))
  where
    at : (i ≡ j) ⊎ (i ≡ j → ⊥) → (j < length n.windows) ⊎ (length n.windows ≤ j) → (window_of (with_window n j a b) i).1 ≤ LAST_MINUTE
    at (inl e) (inl l) =
        subst (λ w. w.1 ≤ LAST_MINUTE)
        (sym (ap (λ k. get_or (set n.windows j (a, b)) k (0, 0)) e ∙ get_or-set_same n.windows j (a, b) (0, 0) l)) last
    at (inl e) (inr l) =
        let past = get_or_past (set n.windows j (a, b)) i (0, 0) (omega (arith, length-set n.windows j (a, b))) in
        subst (λ w. w.1 ≤ LAST_MINUTE) (sym past) (omega arith)
    at (inr ne) c = subst (λ w. w.1 ≤ LAST_MINUTE) (sym (get_or-set_other n.windows j i (a, b) (0, 0) ne)) (h i)

-- so do those of a child
pub child_in_time : (n : Limits) (choice : Choice) (side : Side) → EndInTime n → CanSplit n choice → EndInTime (child n choice side)
child_in_time n (choices.Window j cut) First h can = let last = h j in window_in_time n j (window_of n j).0 cut h (omega (arith, can.late))
child_in_time n (choices.Window j cut) Second h can = window_in_time n j (cut + 1) (window_of n j).1 h (h j)
child_in_time n (choices.Pair k j) First h can = h
child_in_time n (choices.Pair k j) Second h can = h
