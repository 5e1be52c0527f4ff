use Rattle.std.proofs.Common.{sym, ◌∙◌}
use Rattle.crew_laws.specs.Listed.{any_contains, contains_any}
use Rattle.part_match.proofs.taken.has.Goals as goal

pub returns : goal.returns
returns c = (
  λ yes. contains_any c.args.tasks.now c.args.task (sym c.contains.ensures.value ∙ yes),
  λ here. c.contains.ensures.value ∙ any_contains c.args.tasks.now c.args.task here,
)
