use Rattle.crew_instance.specs.Draft.{rows_of}
use Rattle.bundle_write.proofs.Texts.{HasTexts}
use Rattle.bundle_write.proofs.parts.part_texts.Given as goal

abbrev pub invariant-loop-tasks : goal.invariant-loop-tasks
invariant-loop-tasks l = HasTexts l.instance l.nodes (rows_of l.lists) l.tasks-index (rows_of l.texts.items)
