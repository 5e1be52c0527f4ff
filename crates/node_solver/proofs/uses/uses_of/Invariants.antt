use Rattle.std.specs.List.{All}
use Rattle.branch_choice.specs.Uses.{IsPermittedUse}
use Rattle.column_arena.specs.Legal.{IsLegalColumn}
use Rattle.crew_terms.specs.Limits.{Limits}
use Rattle.frac_master.specs.declared.shares.Share.{Share}
use Rattle.node_solver.proofs.uses.uses_of.Given as goal

abbrev pub invariant-loop-share : goal.invariant-loop-share
invariant-loop-share g l = (n : Limits) → All (λ (s : Share). IsLegalColumn n (g.C.Columns.columns l.columns) s.column) l.shares
    → All (IsPermittedUse n) l.uses.items
