use Rattle.std.proofs.Common.{ap, ◌∙◌}
use Rattle.std.specs.Str.{bytes_eq}
use Rattle.indexmap.specs.IndexSet.{insert_key}
use Rattle.column_arena.proofs.Renumbering.{set_more}
use Rattle.column_arena.proofs.names.set_of.Goals as goal

pub loop-name-preserved : goal.loop-name-preserved
loop-name-preserved c =
    c.in_ok-insert.ensures.keys ∙ ap (λ keys. insert_key bytes_eq keys c.name-item.result) c.loop-name.invariant
    ∙ set_more c.args.names.now c.loop-name.name-index c.name-item.result c.requires c.loop-name-test.true c.name-item.is
