use Rattle.std.proofs.Common.{rules}
use Rattle.std.proofs.lemmas.List.Sorted.{IsNonDecreasingBy-from_sort_by_key}
use Rattle.crew_instance.specs.declared.turns.Turn.{Turn}
use Rattle.delay_wave.proofs.Turns.{in_order}
use Rattle.delay_wave.proofs.order.by_start.Goals as goal

pub returns : goal.returns
returns c =
    in_order c.args.plan.now c.in_ok-turns.turns.items c.sort_unstable_by_key.new.self.items c.in_ok-turns.ensures c.sort_unstable_by_key.ensures.permutation
    (IsNonDecreasingBy-from_sort_by_key (λ (v : Turn). v.start) _ c.sort_unstable_by_key.ensures.sorted (λ a r q k. search rules))
