use Rattle.std.proofs.Common.{◌≡◌, ◌≤◌, ◌<◌, ◌+◌, ◌-◌, ℕ, Bool, true, false, arith, ap, sym, ◌∙◌}
use Rattle.std.specs.Prelude.{count_by, find, nat_le}
use Rattle.std.specs.List.{range_with_len}
use Rattle.std.proofs.lemmas.Bool.{le-leb}
use Rattle.crew_terms.specs.Instance.{task_of}
use Rattle.crew_terms.specs.declared.Task.{Task}
use Rattle.why_not.specs.Days.{Planned}
use Rattle.why_not.specs.Fits.{first_fit, free_count, is_free}
use Rattle.why_not.proofs.Rows.{found_here, found_later, minutes_more, minutes_over, not_le}
use Rattle.why_not.proofs.minutes.first_fit_in.Goals as goal

-- enough teams are free at the minute
abbrev test : Planned → ℕ → ℕ → Bool
test s j t = nat_le (task_of s.instance j).teams (free_count s.instance s.plan j t)

pub loop-t-init : goal.loop-t-init
unfolding first_fit
loop-t-init c =
    let s = c.args.days.now in
    let j = c.args.j in
    let same = c.task-task.ensures.task ∙ ap (λ x. task_of x j) c.instance.ensures.instance in
    ap (λ (t : Task). find (test s j) (range_with_len t.earliest ((task_of s.instance j).latest + 1 - t.earliest))) (sym same)

pub returns-then-count_free-task-clause-fit : goal.returns-then-count_free-task-clause-fit
returns-then-count_free-task-clause-fit c =
    let s = c.args.days.now in
    let j = c.args.j in
    let t = c.loop-t.t in
    let same = c.task-task.ensures.task ∙ ap (λ x. task_of x j) c.instance.ensures.instance in
    let late = ap (λ (x : Task). x.latest) same in
    let teams = ap (λ (x : Task). x.teams) same in
    let within : t < (task_of s.instance j).latest + 1 = (let l = c.loop-t-test.true in omega arith) in
    let count : c.count_free.result ≡ free_count s.instance s.plan j t = c.count_free.ensures ∙ ap (count_by is_free) (c.deref.ensures.0 ∙ c.row.ensures.row) in
    let enough : (task_of s.instance j).teams ≤ free_count s.instance s.plan j t = (let l = c.if-count_free-task.true in omega arith) in
    let passes : test s j t ≡ true = le-leb (task_of s.instance j).teams (free_count s.instance s.plan j t) enough in
    sym (c.loop-t.invariant ∙ ap (find (test s j)) (minutes_more t ((task_of s.instance j).latest + 1) within) ∙ found_here (test s j) t _ passes)

pub loop-t-preserved : goal.loop-t-preserved
loop-t-preserved c =
    let s = c.args.days.now in
    let j = c.args.j in
    let t = c.loop-t.t in
    let same = c.task-task.ensures.task ∙ ap (λ x. task_of x j) c.instance.ensures.instance in
    let late = ap (λ (x : Task). x.latest) same in
    let teams = ap (λ (x : Task). x.teams) same in
    let within : t < (task_of s.instance j).latest + 1 = (let l = c.loop-t-test.true in omega arith) in
    let count : c.count_free.result ≡ free_count s.instance s.plan j t = c.count_free.ensures ∙ ap (count_by is_free) (c.deref.ensures.0 ∙ c.row.ensures.row) in
    let few : free_count s.instance s.plan j t < (task_of s.instance j).teams = (let l = c.if-count_free-task.false in omega arith) in
    let fails : test s j t ≡ false = not_le (task_of s.instance j).teams (free_count s.instance s.plan j t) few in
    c.loop-t.invariant ∙ ap (find (test s j)) (minutes_more t ((task_of s.instance j).latest + 1) within) ∙ found_later (test s j) t _ fails

pub returns-clause-fit : goal.returns-clause-fit
returns-clause-fit c =
    let s = c.args.days.now in
    let j = c.args.j in
    let t = c.loop-t.t in
    let same = c.task-task.ensures.task ∙ ap (λ x. task_of x j) c.instance.ensures.instance in
    let late = ap (λ (x : Task). x.latest) same in
    let over : (task_of s.instance j).latest + 1 ≤ t = (let l = c.loop-t-test.false in omega arith) in
    sym (c.loop-t.invariant ∙ ap (find (test s j)) (minutes_over t ((task_of s.instance j).latest + 1) over))
