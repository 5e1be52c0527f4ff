use Rattle.std.proofs.Common.{◌≤◌, ◌+◌, ◌-◌, ◌*◌, ℕ, pos, List, length, get_or, ap, sym, ◌∙◌, subst, arith, inl, inr}
use Rattle.std.proofs.lemmas.Bool.{cases_lt}
use Rattle.std.proofs.lemmas.List.{get_or_past}
use Rattle.std.specs.Prelude.{MatchBool}
use Rattle.crew_num.specs.declared.Mixed.{Mixed}
use Rattle.crew_terms.specs.Instance.{no_task}
use Rattle.crew_terms.specs.Limits.{tasks_in}
use Rattle.crew_terms.specs.Total.{total}
use Rattle.share_terms.specs.Shares.{IsFractional, parts_of, shares_of, unassigned_of, weighed_visits}
use Rattle.share_check.specs.CellSums.{AreSums}
use Rattle.share_check.specs.Summed.{IsLooseChoice}
use Rattle.share_check.proofs.Added.{parts_told}
use Rattle.share_check.proofs.Loose.{too_many, loose_by, either, team_le}
use Rattle.share_check.proofs.sums.ShareSums.is_loose.Goals as goal

pub task_gaps-requires-clause-sums : goal.task_gaps-requires-clause-sums
task_gaps-requires-clause-sums c =
    let s = c.requires.sums in
    (weighed_visits s.0, subst (λ (cells : List Mixed). AreSums c.args.whole cells (weighed_visits s.0)) (sym c.deref.ensures.value) s.1.all.visits)

pub returns-in_default : goal.returns-in_default
returns-in_default c = λ f w u routes h loose.
    let n = c.args.limits.now.limits in
    let some = c.requires.some in
    let visits = subst (λ (cells : List Mixed). AreSums c.args.whole cells (weighed_visits f.shares)) (sym c.deref.ensures.value) h.all.visits in
    let found = c.in_default.ensures.exact f w u visits in
    let many = found.2 in
    too_many n f c.args.now found.0 c.requires.few (omega arith) found.1 (c.instance-instance.ensures.is_instance.parts.tasks found.0 no_task found.1).teams.few (omega arith) loose.loose

pub returns-in_default-pair_gaps : goal.returns-in_default-pair_gaps
returns-in_default-pair_gaps c = λ f w u routes h loose.
    let n = c.args.limits.now.limits in
    let some = c.requires.some in
    let found = c.in_default-pair_gaps.ensures.exact f w h in
    let many = found.3 in
    let all = team_le f.shares found.0 found.1 in
    too_many n f c.args.now found.1 c.requires.few (omega arith) found.2 (c.instance-instance.ensures.is_instance.parts.tasks found.1 no_task found.2).teams.few (omega arith) loose.loose

pub spare_sum-spares-requires-clause-count : goal.spare_sum-spares-requires-clause-count
spare_sum-spares-requires-clause-count c =
    let few = c.instance-instance.ensures.is_instance.parts.few_tasks in
    let count = c.requires.count in
    omega arith

pub returns : goal.returns
returns c = λ f w u routes h.
    let n = c.args.limits.now.limits in
    let whole = c.args.whole in
    let sum = c.mixed_add.result in
    let spares = c.spare_sum-spares.result in
    let g = parts_told sum.whole whole sum.part c.mixed_add.ensures.mixed.not_negative in
    let s = parts_told spares.whole whole spares.part c.spare_sum-spares.ensures.mixed.not_negative in
    let visits = subst (λ (cells : List Mixed). AreSums whole cells (weighed_visits f.shares)) (sym c.deref.ensures.value) h.all.visits in
    let open_sum = sym s.1 ∙ c.spare_sum-spares.ensures.value f u ∙ ap (λ m. total m (λ j. pos (unassigned_of f j))) c.requires.count in
    let tasks = c.in-Some.ensures.exact f w u visits in
    let pairs = c.in-Some-pair_gaps.ensures.exact f w h in
    let by = loose_by n f c.args.now g.0 s.0 _ _ open_sum tasks pairs (sym g.1 ∙ c.mixed_add.ensures.value) in
    let within = subst (λ (m : ℕ). MatchBool c.is_within.result (1000 * (s.0 + 1000000 * g.0) ≤ ((c.args.now - 1) * 1000 + 1) * m) (1000 * (s.0 + 1000000 * g.0) ≤ ((c.args.now - 1) * 1000 + 1) * m → ⊥)) (sym w)
    (c.is_within.ensures g.0 s.0 g.1 s.1) in
    let choice : IsFractional n f = record {
      some = subst (λ (m : ℕ). 1 ≤ m) (sym w) c.requires.some;
      routes = routes;
      most = λ k l. subst (λ (m : ℕ). parts_of (shares_of f.shares k) ≤ m) (sym w) (c.if-not-teams_fit.ensures n f.shares h k l);
      tasks = ap length u ∙ c.requires.count;
      unassigned = λ j. subst (λ (l : List ℕ). get_or l j 0 ≤ f.whole) (sym u) (subst (λ (m : ℕ). get_or c.args.spare.now j 0 ≤ m) (sym w) (c.requires.spares j));
      required = λ j e. ap (λ (l : List ℕ). get_or l j 0) u ∙ elim (cases_lt j (tasks_in n)) [
        | inl l ↦ c.if-not-spares_fit.ensures j l e
        | inr l ↦ get_or_past c.args.spare.now j 0 (let count = c.requires.count in omega arith)
      ];
    } in
    either c.is_within.result _ (IsLooseChoice n f c.args.now) within (λ l. record { choice = choice; loose = by.0 l }) (λ q. by.1 q.loose)
