use Rattle.std.proofs.Common.{sym, ◌∙◌}
use Rattle.master_laws.proofs.Duality.{differ}
use Rattle.master_laws.proofs.openers_differ.Goals as goal

pub returns : goal.returns
returns c = λ n h i p a b. differ n h i a.known b.known (a.is ∙ sym b.is)
