use Rattle.std.proofs.Common.{◌<◌, suc, arith}
use Rattle.master_laws.proofs.Opened.{basic_opening, own_one}
use Rattle.master_laws.proofs.Positions.{count, rows_count}
use Rattle.master_laws.proofs.openers_are_ones.Goals as goal

pub returns-clause-basic : goal.returns-clause-basic
returns-clause-basic c = λ n. basic_opening n

pub returns-clause-ones : goal.returns-clause-ones
returns-clause-ones c = λ n h lt. own_one n h (omega (arith, rows_count n))
