-- the windows of a tree's nodes end within two days
use Rattle.std.proofs.Common.{◌≡◌, ◌<◌, ◌≤◌, ◌+◌, ◌-◌, ℕ, length, arith, Option, None, Some, refl, Bool, true, false, cond, inl, inr, sym, subst}
use Rattle.std.specs.Prelude.{All, min, bit_and, ◌==◌, ◌&&◌}
use Rattle.std.specs.List.{range_with_len}
use Rattle.std.proofs.lemmas.List.Elements.{All-map, All-set, All-weaker}
use Rattle.std.proofs.lemmas.Bool.{cases_lt}
use Rattle.std.proofs.lemmas.List.{get_or_past}
use Rattle.crew_terms.specs.Instance.{Instance, task_of, team_of, minutes_between, no_task}
use Rattle.crew_terms.specs.Minutes.{first_minute, minute_count, is_free_or_required}
use Rattle.crew_terms.specs.Rules.{IsInstance}
use Rattle.crew_terms.specs.Plan.{Job, job_of}
use Rattle.crew_terms.specs.Limits.{Limits, window_of, pair_of, root_limits, root_window}
use Rattle.crew_terms.specs.Tree.{CanSplit, child}
use Rattle.crew_terms.specs.declared.Choice.{Choice}
use Rattle.crew_terms.specs.declared.Choice.TheVariants as choices
use Rattle.crew_terms.specs.declared.Side.{Side}
use Rattle.crew_terms.specs.declared.Side.TheVariants.{First, Second}
use Rattle.crew_terms.specs.declared.TheConstants.{LAST_MINUTE}
use Rattle.crew_terms.specs.Listed.{all_below}

abbrev EndsInTime : ℕ × ℕ → Type 0
EndsInTime w = w.1 ≤ LAST_MINUTE

-- each window of the node does
abbrev pub IsDay : Limits → Type 0
IsDay n = All EndsInTime n.windows

-- so does that of a task
pub last_minute : (n : Limits) (j : ℕ) → IsDay n → (window_of n j).1 ≤ LAST_MINUTE
last_minute n j h = elim (cases_lt j (length n.windows)) [
  | inl l ↦ h j (0, 0) l
  | inr l ↦ subst EndsInTime (sym (get_or_past n.windows j (0, 0) l)) (omega arith)
]

-- those of the root do
pub root_day : (i : Instance) → IsInstance i → IsDay (root_limits i)
root_day i h = All-map EndsInTime (λ j. root_window (task_of i j) (job_of i.frozen j)) (range_with_len 0 (length i.tasks))
    (All-weaker (λ j. j < length i.tasks) (λ j. EndsInTime (root_window (task_of i j) (job_of i.frozen j))) (λ j l. at j l (job_of i.frozen j) refl) (range_with_len 0 (length i.tasks)) (all_below (length i.tasks)))
  where
    at : (j : ℕ) → j < length i.tasks → (o : Option Job) → job_of i.frozen j ≡ o → EndsInTime (root_window (task_of i j) o)
    at j l None e = let task = h.parts.tasks j no_task l in task.window.day
    at j l (Some job) e = let task = h.parts.tasks j no_task l in let fits = h.frozen.jobs j job e in omega (arith, task.window.day, fits.window.late)

-- and those of a child, where those of the node do
pub child_day : (n : Limits) (choice : Choice) (side : Side) → IsDay n → CanSplit n choice → IsDay (child n choice side)
child_day n (choices.Window j cut) First h can = All-set EndsInTime n.windows j _ (let a = last_minute n j h in omega (arith, can.late)) h
child_day n (choices.Window j cut) Second h can = All-set EndsInTime n.windows j _ (last_minute n j h) h
child_day n (choices.Pair k j) First h can = h
child_day n (choices.Pair k j) Second h can = h

-- ---- the minutes at which a team may begin a task

-- a number of minutes that a test may take away
minutes_in : (b : Bool) (first stop : ℕ) → 0 < cond b (stop - first) 0 → first + cond b (stop - first) 0 ≤ stop
minutes_in true first stop l = omega arith
minutes_in false first stop l = absurd (omega arith)

-- such minutes end with the window
pub minutes_end : (n : Limits) (k j : ℕ) → 0 < minute_count n k j → first_minute n k j + minute_count n k j ≤ (window_of n j).1 + 1
minutes_end n k j l =
    let job = (task_of n.instance j).minutes + minutes_between n.instance (task_of n.instance j).place (team_of n.instance k).home in
    let past = (team_of n.instance k).until + 1 - job in
    let a = minutes_in (is_free_or_required (pair_of n k j) && (bit_and (task_of n.instance j).skills (team_of n.instance k).skills == (task_of n.instance j).skills)) (first_minute n k j) (min past ((window_of n j).1 + 1)) l in
    omega arith
