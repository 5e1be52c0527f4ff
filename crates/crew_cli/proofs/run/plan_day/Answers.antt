use Rattle.std.proofs.Common.{sym, subst}
use Rattle.crew_cli.specs.Run.{Answers, over_days}
use Rattle.crew_cli.specs.declared.status.Status.{Status}
use Rattle.crew_cli.proofs.Top.{day_answers}
use Rattle.crew_cli.proofs.run.plan_day.Goals as goal

pub returns : goal.returns
returns g c = λ word.
    let o = c.args.output in
    subst (λ (s : Status). Answers g.S.Source g.K.Sink (over_days word o) c.args.src.now c.write_rounds.new.src c.args.out.now c.write_rounds.new.out s)
    (sym c.of_day.ensures)
    (day_answers g.S.Source g.K.Sink c.args.src.now c.write_rounds.new.src c.args.out.now c.write_rounds.new.out word o c.write_rounds.result c.write_rounds.ensures)
