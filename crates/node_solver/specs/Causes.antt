-- the causes of splits, as the definitions of the search have them
use Rattle.std.specs.Prelude.{List}
use Rattle.crew_terms.specs.Limits.{Route}
use Rattle.search_terms.specs.Earned.{Why as Cause, Loose as LooseAt, Overflowed, Spent as SpentRun}
use Rattle.master_run.specs.Shares.{fractional_of}
use Rattle.node_solver.specs.declared.step.Why.{Why}
use Rattle.node_solver.specs.declared.step.Why.TheVariants.{Loose, Overflow, Spent}

-- the cause, of the columns that are held
abbrev pub cause_of : List Route → Why → Cause
cause_of columns (Loose den shares left_open) = LooseAt (fractional_of columns den shares left_open)
cause_of columns (Overflow fault) = Overflowed fault
cause_of columns Spent = SpentRun
