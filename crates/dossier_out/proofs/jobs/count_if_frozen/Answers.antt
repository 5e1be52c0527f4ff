use Rattle.std.proofs.Common.{length, ap, sym}
use Rattle.dossier_out.specs.Jobs.{job_list}
use Rattle.dossier_out.proofs.jobs.count_if_frozen.Goals as goal

pub returns-in-None-clause-number : goal.returns-in-None-clause-number
returns-in-None-clause-number c = ap (λ o. length (job_list c.args.j o)) (sym c.in-None.ensures)

pub returns-in-Some-clause-number : goal.returns-in-Some-clause-number
returns-in-Some-clause-number c = ap (λ o. length (job_list c.args.j o)) (sym c.in-Some.ensures)
