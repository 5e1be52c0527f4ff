use Rattle.std.proofs.Common.{refl}
use Rattle.crew_io.specs.Chains.{puts_done}
use Rattle.cert_write.specs.Given.{given}
use Rattle.cert_write.proofs.Walks.{puts_fails}
use Rattle.cert_write.proofs.dossier.write_dossier.Goals as goal

pub returns-in-Ok : goal.returns-in-Ok
returns-in-Ok g c =
    let d = c.parts_have_one_dossier.ensures.some (given g.C.Columns.columns c.args.parts.now) c.tasks.ensures.limits c.requires in
    record { dossier = d.0; parts = d.1; puts = puts_done g.K.Sink _ _ _ _ _ (c.in-Ok.ensures d.0 d.1) }

pub returns : goal.returns
returns g c =
    let d = c.parts_have_one_dossier.ensures.some (given g.C.Columns.columns c.args.parts.now) c.tasks.ensures.limits c.requires in
    record { dossier = d.0; parts = d.1; puts = puts_fails g.K.Sink _ _ _ _ _ refl (c.in-Err.ensures d.0 d.1) }
