use Rattle.std.proofs.Common.{sym, subst}
use Rattle.std.specs.Prelude.{codes}
use Rattle.desk_cli.specs.Run.{Answers, promises_of}
use Rattle.desk_cli.specs.declared.run.Command.{Command}
use Rattle.desk_cli.proofs.run.answer.Goals as goal

pub returns-in-Changes : goal.returns-in-Changes
returns-in-Changes g c =
    subst (λ (a : Command). Answers g.S.Source g.K.Sink (promises_of a) c.args.src.now c.read_all.new.src c.args.out.now c.read_all.new.out c.read_all.result)
    (sym c.in-Changes.is) (c.read_all.ensures (codes "changes"))

pub returns-in-Picture : goal.returns-in-Picture
returns-in-Picture g c =
    subst (λ (a : Command). Answers g.S.Source g.K.Sink (promises_of a) c.args.src.now c.read_all-in-Picture.new.src c.args.out.now c.read_all-in-Picture.new.out c.read_all-in-Picture.result)
    (sym c.in-Picture.is) (c.read_all-in-Picture.ensures (codes "picture"))

pub returns-in-Explain : goal.returns-in-Explain
returns-in-Explain g c =
    subst (λ (a : Command). Answers g.S.Source g.K.Sink (promises_of a) c.args.src.now c.read_day.new.src c.args.out.now c.read_day.new.out c.read_day.result)
    (sym c.in-Explain.is) (c.read_day.ensures (codes "explain"))
