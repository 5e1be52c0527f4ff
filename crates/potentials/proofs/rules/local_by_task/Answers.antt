use Rattle.std.proofs.Common.{length, ap, arith, refl, w64}
use Rattle.std.specs.Prelude.{FitsSigned}
use Rattle.std.proofs.lemmas.Int.{to_z-of_z}
use Rattle.crew_terms.specs.Leaf.{HoldsLocally, earned}
use Rattle.potentials.specs.Table.{phi}
use Rattle.potentials.proofs.Decided.{refuted}
use Rattle.potentials.proofs.TeamRules.{all_potentials, holds_below_more}
use Rattle.potentials.proofs.rules.local_by_task.Goals as goal

pub loop-task-preserved : goal.loop-task-preserved
loop-task-preserved c = record {
  count = c.loop-task.invariant.count;
  records = c.loop-task.invariant.records;
  rules = holds_below_more c.args.limits.now.limits c.args.k (phi c.args.table.now) (earned c.args.prices.now c.args.k) c.loop-task.task c.loop-task.invariant.rules (c.holds_potential.ensures.0 c.if-not-holds_potential.false);
}

pub returns-then-not-holds_worth-clause-verdict : goal.returns-then-not-holds_worth-clause-verdict
returns-then-not-holds_worth-clause-verdict c =
    let fits : FitsSigned w64 c.args.worth = c.ranges.worth in
    let worth = simp to_z-of_z at c.holds_worth.ensures in (
      all_potentials c.args.limits.now.limits c.args.k (phi c.args.table.now) (earned c.args.prices.now c.args.k) c.loop-task.task c.loop-task.invariant.rules
          (let e = ap (λ i. length i.tasks) c.instance.ensures.instance in let m = c.tasks-task-end.ensures.count in let g = c.loop-task-test.false in omega arith),
      refuted c.holds_worth.result c.if-not-holds_worth.true worth.1,
    )

pub returns : goal.returns
returns c =
    let fits : FitsSigned w64 c.args.worth = c.ranges.worth in
    let worth = simp to_z-of_z at c.holds_worth.ensures in
    let holds : HoldsLocally c.args.limits.now.limits c.args.k (earned c.args.prices.now c.args.k) (phi c.args.table.now) c.args.worth =
    record {
      tasks = all_potentials c.args.limits.now.limits c.args.k (phi c.args.table.now) (earned c.args.prices.now c.args.k) c.loop-task.task c.loop-task.invariant.rules
          (let e = ap (λ i. length i.tasks) c.instance.ensures.instance in let m = c.tasks-task-end.ensures.count in let g = c.loop-task-test.false in omega arith);
      worth_rules = worth.0 c.if-not-holds_worth.false;
    } in
    record { room = c.loop-task.invariant.count; verdict = holds; holds = ((λ e. holds), (λ h. refl)) }

pub holds_potential-requires-clause-records : goal.holds_potential-requires-clause-records
holds_potential-requires-clause-records c = rw c.deref.ensures.value c.loop-task.invariant.records
