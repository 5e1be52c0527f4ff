use Rattle.crew_instance.specs.Draft.{rows_of}
use Rattle.part_cuts.specs.Divided.{AreLists}
use Rattle.part_cuts.proofs.lists.gathered.Given as goal

abbrev pub invariant-loop-k : goal.invariant-loop-k
invariant-loop-k l = AreLists l.numbers l.k (rows_of l.lists.items)
