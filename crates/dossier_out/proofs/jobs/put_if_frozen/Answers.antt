use Rattle.std.specs.Prelude.{codes}
use Rattle.crew_io.specs.Chains.{puts_same, puts_nothing, puts_done}
use Rattle.dossier_terms.specs.Lines.{keep_line}
use Rattle.crew_terms.specs.Plan.{job_of}
use Rattle.dossier_out.proofs.JobTexts.{no_job, some_job}
use Rattle.dossier_out.proofs.jobs.put_if_frozen.Goals as goal

pub returns-in-None : goal.returns-in-None
returns-in-None g c =
    puts_same g.K.Sink _ _ _ _ _ (no_job keep_line c.args.j (job_of c.args.instance.now.frozen c.args.j) c.in-None.ensures)
    (puts_done g.K.Sink _ _ _ _ _ (puts_nothing g.K.Sink c.args.out.now))

pub returns-in-Some : goal.returns-in-Some
returns-in-Some g c =
    puts_same g.K.Sink _ _ _ _ _ (some_job (codes "keep") c.args.j _ _ (job_of c.args.instance.now.frozen c.args.j) c.in-Some.ensures) c.put_counts.ensures
