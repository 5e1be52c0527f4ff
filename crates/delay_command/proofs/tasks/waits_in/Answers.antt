use Rattle.std.proofs.Common.{List, subst, sym, ◌∙◌}
use Rattle.delay_wave.specs.Ends.{AreLates}
use Rattle.delay_wave.specs.declared.lates.Late.{Late}
use Rattle.delay_command.proofs.Named.{are_lates}
use Rattle.delay_command.proofs.tasks.waits_in.Goals as goal

pub wave-requires-clause-lates : goal.wave-requires-clause-lates
wave-requires-clause-lates c =
    let p = c.args.plan.now in
    subst (λ (ls : List Late). AreLates p ls) (sym (c.deref.ensures.value ∙ c.in_ok-lates.ensures.1))
    (are_lates c.args.instance.now p c.requires.legal.feasible.whole c.args.lines.now c.requires.lines c.in_ok-lates.ensures.0)
