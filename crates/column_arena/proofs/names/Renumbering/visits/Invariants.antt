use Rattle.std.proofs.Common.{take}
use Rattle.column_arena.specs.Carried.{AreRenumbered}
use Rattle.column_arena.proofs.names.Renumbering.visits.Given as goal

-- the visits so far
abbrev pub invariant-loop-visit : goal.invariant-loop-visit
invariant-loop-visit l = AreRenumbered l.self (take l.visit-index l.visits) l.new.items
