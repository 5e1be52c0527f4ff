use Rattle.std.proofs.Common.{◌<◌, ◌∷◌, List, leb, leb-true, rules, arith, ◌∙◌, ap, subst, sym}
use Rattle.std.specs.List.{All, insert}
use Rattle.std.specs.List.Sorted.{IsPermutation}
use Rattle.std.proofs.lemmas.Bool.{leb-false}
use Rattle.std.proofs.lemmas.List.Sorted.{IsPartitionPoint-from_clause, IsPartitionedBy-leb, IsPermutation-insert}
use Rattle.crew_instance.specs.Turns.{IsInOrder}
use Rattle.crew_instance.specs.declared.turns.Turn.{Turn}
use Rattle.crew_instance.proofs.Order.{starts_rise, insert_in_order}
use Rattle.crew_instance.proofs.turns.put_in_order.Goals as goal

pub returns-clause-order : goal.returns-clause-order
returns-clause-order c =
    let same = c.deref.ensures.0 in
    let order : IsInOrder c.deref.result.now = subst IsInOrder (sym same) c.requires.order in
    let last : All (λ (v : Turn). v.task < c.args.turn.task) c.deref.result.now = subst (All (λ (v : Turn). v.task < c.args.turn.task)) (sym same) c.requires.last in
    let parted = IsPartitionedBy-leb (λ (v : Turn). v.start) c.deref.result.now c.args.turn.start (starts_rise c.deref.result.now order) in
    let point = IsPartitionPoint-from_clause (λ (v : Turn). leb v.start c.args.turn.start) _ _ c.partition_point-at.ensures.partitioned parted (λ a r q k. search rules) in
    let new = insert_in_order c.deref.result.now c.partition_point-at.result c.args.turn order last c.partition_point-at.ensures.bound
    (λ k d h. leb-true _ _ (point.0 k d (omega arith) h)) (λ k d h l. leb-false _ _ (point.1 k d h l)) in
    subst IsInOrder (ap (λ (vs : List Turn). insert vs c.partition_point-at.result c.args.turn) same ∙ sym c.insert.ensures.items) new

pub returns-clause-moved : goal.returns-clause-moved
returns-clause-moved c = subst (IsPermutation (c.args.turn ∷ c.args.turns.now.items)) (sym c.insert.ensures.items) (IsPermutation-insert c.args.turns.now.items c.partition_point-at.result c.args.turn)
