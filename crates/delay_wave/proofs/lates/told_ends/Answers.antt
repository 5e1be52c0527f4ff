use Rattle.std.proofs.Common.{refl}
use Rattle.delay_wave.specs.declared.lates.Late.{Late}
use Rattle.delay_wave.proofs.Told.{told_more}
use Rattle.delay_wave.proofs.lates.told_ends.Goals as goal

pub loop-late-preserved : goal.loop-late-preserved
loop-late-preserved c =
    let d : Late = record { task = 0; end = 0 } in
    told_more c.args.lates.now c.loop-late.late-index c.args.tasks _ d c.loop-late-test.true refl
    (c.requires.known c.loop-late.late-index d c.loop-late-test.true) c.requires.differ c.loop-late.ends.items c.loop-late.invariant
