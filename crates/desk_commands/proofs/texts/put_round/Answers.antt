use Rattle.std.proofs.Common.{ap, sym, ◌∙◌}
use Rattle.cert_checker.specs.declared.checker.Verdict.{Verdict}
use Rattle.crew_io.specs.Chains.{puts_same}
use Rattle.desk_commands.specs.Rounds.{changes_since, round_text}
use Rattle.desk_commands.specs.declared.output.DeskOutput.{DeskOutput}
use Rattle.desk_commands.proofs.Outputs.{chart_is}
use Rattle.desk_commands.proofs.texts.put_round.Goals as goal

pub returns-in-Changes : goal.returns-in-Changes
returns-in-Changes g c = λ d whole says.
    puts_same g.K.Sink _ _ _ _ _
    (ap (changes_since c.args.round c.args.before.now) (c.requires.now d whole) ∙ ap (λ (o : DeskOutput). round_text o c.args.round c.args.before.now d) (sym c.in-Changes.is))
    c.put_changes.ensures

pub returns-in-Picture : goal.returns-in-Picture
returns-in-Picture g c = λ d whole says.
    puts_same g.K.Sink _ _ _ _ _
    (chart_is c.args.round c.args.verdict.bound c.args.before.now c.args.now.now c.instance.result.now c.plan.result.now d (ap (λ (v : Verdict). v.bound) says) (c.requires.now d whole)
    (c.instance.ensures d whole) (c.plan.ensures.plan d whole)
    ∙ ap (λ (o : DeskOutput). round_text o c.args.round c.args.before.now d) (sym c.in-Picture.is))
    c.put_chart.ensures
