use Rattle.std.proofs.Common.{sym, subst}
use Rattle.desk_cli.specs.Run.{Answers, over_day}
use Rattle.desk_cli.specs.declared.run.Outcome.{Outcome}
use Rattle.desk_cli.proofs.Top.{day_answers}
use Rattle.desk_cli.proofs.run.read_day.Goals as goal

pub returns : goal.returns
returns g c = λ word.
    subst (λ (o : Outcome). Answers g.S.Source g.K.Sink (over_day word) c.args.src.now c.explain.new.src c.args.out.now c.explain.new.out o)
    (sym c.of_day.ensures)
    (day_answers g.S.Source g.K.Sink c.args.src.now c.explain.new.src c.args.out.now c.explain.new.out word c.explain.result c.explain.ensures)
