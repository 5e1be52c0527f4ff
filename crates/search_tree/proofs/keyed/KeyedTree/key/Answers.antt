use Rattle.std.proofs.Common.{◌≡◌, ap}
use Rattle.search_tree.specs.Keyed.{Keyed}
use Rattle.search_tree.proofs.Found.{key_at}
use Rattle.search_tree.proofs.keyed.KeyedTree.key.Goals as goal

pub returns-clause-waits : goal.returns-clause-waits
returns-clause-waits c =
    let same : c.self.inside.queue ≡ c.args.self.now.waits = ap (λ (k : Keyed). k.waits) c.self.view_is in
    let is = key_at c.args.self.now.waits c.args.n c.key.result c.requires (rw same at c.key.ensures) in
    (is.0.item, is.0.bound, is.1)
