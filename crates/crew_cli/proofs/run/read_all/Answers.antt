use Rattle.std.proofs.Common.{sym, subst}
use Rattle.dossier_commands.specs.Outputs.{output_of}
use Rattle.crew_cli.specs.Run.{Answers, over_dossiers}
use Rattle.crew_cli.specs.declared.status.Status.{Status}
use Rattle.crew_cli.proofs.Top.{dossiers_answer}
use Rattle.crew_cli.proofs.run.read_all.Goals as goal

pub returns : goal.returns
returns g c = λ word.
    let text = output_of c.args.output in
    subst (λ (s : Status). Answers g.S.Source g.K.Sink (over_dossiers word text) c.args.src.now c.read_dossiers.new.src c.args.out.now c.read_dossiers.new.out s)
    (sym c.of_dossiers.ensures)
    (dossiers_answer g.S.Source g.K.Sink c.args.src.now c.read_dossiers.new.src c.args.out.now c.read_dossiers.new.out word text c.read_dossiers.result c.read_dossiers.ensures)
