use Rattle.std.proofs.Common.{◌≡◌, ap, sym, ◌∙◌, get_or, Some}
use Rattle.std.specs.BTreeMap as tree
use Rattle.std.specs.List.{slice_get}
use Rattle.std.specs.Option.{option_map}
use Rattle.std.proofs.lemmas.Iterator.Consumers.{YieldsList-from_rest, nth_from_yields_List}
use Rattle.std.proofs.lemmas.Option.{get_or_from_slice_get}
use Rattle.node_queue.specs.Waits.{keys_of}
use Rattle.node_queue.proofs.Keys.{keys_waits}
use Rattle.node_queue.proofs.Queue.key.Goals as goal

pub returns : goal.returns
returns c =
    let keys = sym (keys_waits c.self.inside.entries (tree.values c.self.inside.ages)) ∙ ap keys_of c.self.view_is in
    let at : option_map (λ y. y.now) c.nth.result ≡ slice_get (tree.values c.self.inside.ages) c.args.n = nth_from_yields_List c.nth.result c.nth.new.self c.args.n c.nth.ensures.ran (YieldsList-from_rest (tree.values c.self.inside.ages) c.values.ensures.rest) in
    let is : slice_get (tree.values c.self.inside.ages) c.args.n ≡ Some c.unwrap.result.now = sym at ∙ ap (option_map (λ y. y.now)) c.unwrap.ensures in
    sym (get_or_from_slice_get (tree.values c.self.inside.ages) c.args.n c.unwrap.result.now 0 is) ∙ ap (λ xs. get_or xs c.args.n 0) keys
