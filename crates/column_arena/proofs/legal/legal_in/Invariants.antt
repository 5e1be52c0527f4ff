use Rattle.column_arena.proofs.Legality.{AreLegalSoFar}
use Rattle.column_arena.proofs.legal.legal_in.Given as goal

-- the legal columns so far
abbrev pub invariant-loop-id : goal.invariant-loop-id
invariant-loop-id g l = AreLegalSoFar l.limits.limits (g.C.Columns.columns l.columns) l.id l.out.items
