use Rattle.std.proofs.Common.{◌≡◌, ◌∙◌, ℕ, List, length, ap, arith, Vec, Global}
use Rattle.std.proofs.lemmas.List.{length-map}
use Rattle.crew_instance.specs.Draft.{rows_of}
use Rattle.part_make.specs.Tables.{by_way_of, table_of}
use Rattle.part_make.proofs.KeptRows.{table_again}
use Rattle.part_make.proofs.Ways.{more_ways, straight_ways}
use Rattle.part_make.proofs.tables.shortest.Goals as goal

pub loop-b-init : goal.loop-b-init
loop-b-init c = straight_ways c.args.whole.now c.places-b-end.ensures.limits (rows_of c.in_ok-rows.rows.items) c.in_ok-rows.ensures

pub rows_by-requires-clause-table : goal.rows_by-requires-clause-table
rows_by-requires-clause-table c = rw c.deref.ensures.value (table_again (length c.args.whole.now.places) c.loop-b.rows.items c.loop-b.invariant.times)

pub loop-b-preserved : goal.loop-b-preserved
loop-b-preserved c =
    let vs : List (Vec ℕ Global) = c.loop-b.rows.items in
    let many : length vs ≡ length c.args.whole.now.places = let r = c.loop-b.invariant.times.rows in let m = length-map vs (λ v. v.items) in omega arith in
    more_ways c.args.whole.now c.places-b-end.ensures.limits c.loop-b.b (rows_of vs) (rows_of c.in_ok-rows-2.rows.items) (let t = c.loop-b-test.true in omega (arith, c.places-b-end.ensures.count))
    c.loop-b.invariant
    (c.in_ok-rows-2.ensures
    ∙ ap (λ (ws : List (Vec ℕ Global)). table_of (length ws) (by_way_of (rows_of ws) c.loop-b.b)) c.deref.ensures.value
    ∙ ap (λ n. table_of n (by_way_of (rows_of vs) c.loop-b.b)) many)
