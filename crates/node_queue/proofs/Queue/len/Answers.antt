use Rattle.std.proofs.Common.{ap, sym, subst, ◌∙◌, ◌≢◌}
use Rattle.std.specs.BTreeMap as tree
use Rattle.std.specs.Prelude.{AllPairs}
use Rattle.node_queue.specs.Waits.{keys_of}
use Rattle.node_queue.proofs.Ages.{are_keys}
use Rattle.node_queue.proofs.Keys.{keys_waits}
use Rattle.node_queue.proofs.Queue.len.Goals as goal

pub returns-clause-differ : goal.returns-clause-differ
returns-clause-differ c =
    let keys = sym (keys_waits c.self.inside.entries (tree.values c.self.inside.ages)) ∙ ap keys_of c.self.view_is in
    subst (AllPairs (λ a b. a ≢ b)) keys (are_keys c.self.inside.entries c.self.inside.ages c.self.invariant.by_age c.self.invariant.ordered).differ
