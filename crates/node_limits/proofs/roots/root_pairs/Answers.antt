use Rattle.std.proofs.Common.{arith, ap, map, ◌∙◌}
use Rattle.std.specs.Global.{Vec}
use Rattle.std.proofs.lemmas.List.{map_push}
use Rattle.std.proofs.lemmas.List.FromFn.{map-range_with_len_more}
use Rattle.crew_terms.specs.declared.Pair.{Pair}
use Rattle.node_limits.proofs.roots.root_pairs.Goals as goal

pub loop-k-preserved : goal.loop-k-preserved
loop-k-preserved c =
    let f = λ (row : Vec Pair). row.items in
    let row = c.in_ok-root_row.field-0 in
    let grows = ap (map f) c.in_ok-push.ensures.items ∙ map_push f c.loop-k.rows.items row in
    rw (map-range_with_len_more _ 0 c.loop-k.k c.loop-k.k (omega arith)) (grows ∙ cc (c.loop-k.invariant, c.in_ok-root_row.ensures))
