use Rattle.std.proofs.Common.{ltb, ltb-true, rules, arith}
use Rattle.std.proofs.lemmas.Bool.{ltb-false}
use Rattle.std.proofs.lemmas.List.Sorted.{IsPartitionPoint-from_clause, IsPartitionedBy-ltb}
use Rattle.crew_instance.specs.declared.turns.Turn.{Turn}
use Rattle.team_days.proofs.Day.{starts_rise}
use Rattle.team_days.proofs.obstacles.turns_before.Goals as goal

pub returns-clause-cut : goal.returns-clause-cut
returns-clause-cut c = λ p k n are.
    let parted = IsPartitionedBy-ltb (λ (v : Turn). v.start) c.args.turns.now c.args.t (starts_rise p k n c.args.turns.now are) in
    let point = IsPartitionPoint-from_clause (λ (v : Turn). ltb v.start c.args.t) _ _ c.partition_point.ensures.partitioned parted (λ a r q k. search rules) in
    record { below = λ x d l. ltb-true _ _ (point.0 x d (omega arith) l); above = λ x d l m. ltb-false _ _ (point.1 x d l m) }
