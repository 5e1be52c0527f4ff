use Rattle.std.proofs.Common.{sym}
use Rattle.std.specs.Prelude.{codes}
use Rattle.crew_io.specs.Chains.{puts_same, puts_nothing, puts_done}
use Rattle.dossier_terms.specs.Lines.{do_line}
use Rattle.crew_terms.specs.Plan.{job_of}
use Rattle.crew_instance.specs.Begun.{none_begun}
use Rattle.dossier_out.proofs.JobTexts.{no_job, some_begun, some_job}
use Rattle.dossier_out.proofs.jobs.put_if_begun.Goals as goal

pub returns-in-None : goal.returns-in-None
returns-in-None g c =
    let o = job_of c.args.plan.now c.args.j in
    puts_same g.K.Sink _ _ _ _ _ (no_job do_line c.args.j o (none_begun o (sym c.in-None.ensures)))
    (puts_done g.K.Sink _ _ _ _ _ (puts_nothing g.K.Sink c.args.out.now))

pub returns-in-Some : goal.returns-in-Some
returns-in-Some g c =
    let o = job_of c.args.plan.now c.args.j in
    puts_same g.K.Sink _ _ _ _ _ (some_job (codes "do") c.args.j _ _ o (some_begun o _ _ (sym c.in-Some.ensures) c.teams.ensures)) c.put_counts.ensures
