use Rattle.std.proofs.Common.{arith}
use Rattle.column_arena.proofs.Numbers.{number_at}
use Rattle.column_arena.proofs.Legality.{not_legal, ruled_more}
use Rattle.column_arena.proofs.legal.rule_out.Goals as goal

pub index_mut-requires : goal.index_mut-requires
index_mut-requires g c =
    let known = (number_at c.using-id-items.result.now c.loop-id.id-index c.using-id-items.ensures c.loop-id-test.true).known in
    let each = c.loop-id.invariant.each in omega arith

pub loop-id-preserved : goal.loop-id-preserved
loop-id-preserved g c =
    let uses = number_at c.using-id-items.result.now c.loop-id.id-index c.using-id-items.ensures c.loop-id-test.true in
    ruled_more _ _ c.loop-id.marks.items _ c.loop-id.invariant (not_legal _ _ c.args.k c.args.j _ c.requires.forbidden uses)
