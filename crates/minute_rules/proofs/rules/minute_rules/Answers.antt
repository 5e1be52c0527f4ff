use Rattle.std.proofs.Common.{length, ap, arith, w64}
use Rattle.std.specs.Prelude.{FitsSigned}
use Rattle.std.proofs.lemmas.Int.{to_z-of_z}
use Rattle.crew_instance.specs.Draft.{rows_of}
use Rattle.squeeze_terms.specs.MinutePrices.{minute_price}
use Rattle.minute_rules.specs.Rules.{phi_by}
use Rattle.minute_rules.proofs.Decided.{refuted}
use Rattle.minute_rules.proofs.Earned.{all_potentials, holds_below_more}
use Rattle.minute_rules.proofs.rules.minute_rules.Goals as goal

pub loop-task-preserved : goal.loop-task-preserved
loop-task-preserved c =
    let n = c.args.limits.now.limits in record {
      count = c.loop-task.invariant.count;
      found = c.loop-task.invariant.found;
      rules = holds_below_more n c.args.k (phi_by n c.args.k (rows_of c.args.rows.now)) (minute_price n.instance (rows_of c.args.prices.now)) c.loop-task.task c.loop-task.invariant.rules
          (c.holds_potential.ensures.0 c.if-not-holds_potential.false);
    }

pub returns-then-not-holds_worth-clause-verdict : goal.returns-then-not-holds_worth-clause-verdict
returns-then-not-holds_worth-clause-verdict c =
    let n = c.args.limits.now.limits in
    let fits : FitsSigned w64 c.args.worth = c.ranges.worth in
    let worth = simp to_z-of_z at c.holds_worth.ensures in (
      all_potentials n c.args.k (phi_by n c.args.k (rows_of c.args.rows.now)) (minute_price n.instance (rows_of c.args.prices.now)) c.loop-task.task c.loop-task.invariant.rules
          (let e = ap (λ i. length i.tasks) c.instance.ensures.instance in let m = c.tasks-task-end.ensures.count in let g = c.loop-task-test.false in omega arith),
      refuted c.holds_worth.result c.if-not-holds_worth.true worth.1,
    )

pub returns-clause-verdict : goal.returns-clause-verdict
returns-clause-verdict c =
    let n = c.args.limits.now.limits in
    let fits : FitsSigned w64 c.args.worth = c.ranges.worth in
    let worth = simp to_z-of_z at c.holds_worth.ensures in
    record {
      tasks = all_potentials n c.args.k (phi_by n c.args.k (rows_of c.args.rows.now)) (minute_price n.instance (rows_of c.args.prices.now)) c.loop-task.task c.loop-task.invariant.rules
          (let e = ap (λ i. length i.tasks) c.instance.ensures.instance in let m = c.tasks-task-end.ensures.count in let g = c.loop-task-test.false in omega arith);
      worth_rules = worth.0 c.if-not-holds_worth.false;
    }

pub holds_potential-requires-clause-ahead : goal.holds_potential-requires-clause-ahead
holds_potential-requires-clause-ahead c = rw c.deref.ensures.value c.loop-task.invariant.found
