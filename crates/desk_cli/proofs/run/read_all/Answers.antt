use Rattle.std.proofs.Common.{sym, subst}
use Rattle.desk_cli.specs.Run.{Answers, over_dossiers}
use Rattle.desk_cli.specs.declared.run.Outcome.{Outcome}
use Rattle.desk_cli.proofs.Top.{dossiers_answer}
use Rattle.desk_cli.proofs.run.read_all.Goals as goal

pub returns : goal.returns
returns g c = λ word.
    let output = c.args.output in
    subst (λ (o : Outcome). Answers g.S.Source g.K.Sink (over_dossiers word output) c.args.src.now c.read_desk.new.src c.args.out.now c.read_desk.new.out o)
    (sym c.of_dossiers.ensures)
    (dossiers_answer g.S.Source g.K.Sink c.args.src.now c.read_desk.new.src c.args.out.now c.read_desk.new.out word output c.read_desk.result c.read_desk.ensures)
