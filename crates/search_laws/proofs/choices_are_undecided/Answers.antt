use Rattle.std.proofs.Common.{arith}
use Rattle.crew_terms.specs.Limits.{Limits}
use Rattle.crew_terms.specs.declared.Choice.{Choice}
use Rattle.crew_terms.specs.declared.Choice.TheVariants as choices
use Rattle.search_terms.specs.Choice.{IsValidChoice}
use Rattle.crew_terms.specs.Decided.{IsDecided}
use Rattle.search_laws.proofs.choices_are_undecided.Goals as goal

undecided : (n : Limits) (choice : Choice) → IsValidChoice n choice → IsDecided n → ⊥
undecided n (choices.Window j cut) valid decided = let e = decided.windows j valid.can.task in let a = valid.can.early in let b = valid.can.late in omega arith
undecided n (choices.Pair k j) valid decided = decided.pairs k j valid.can valid.minute

pub returns : goal.returns
returns c = undecided
