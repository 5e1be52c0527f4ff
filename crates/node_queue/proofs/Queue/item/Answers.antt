use Rattle.std.proofs.Common.{ap, sym, ◌∙◌}
use Rattle.std.specs.Option.{option_map}
use Rattle.std.specs.BTreeMap as tree
use Rattle.node_queue.specs.Kept.{waiting_of}
use Rattle.node_queue.proofs.Ages.{are_keys}
use Rattle.node_queue.proofs.Keys.{found_is}
use Rattle.node_queue.proofs.Queue.item.Goals as goal

pub returns-in-Some : goal.returns-in-Some
returns-in-Some c =
    let keys = are_keys c.self.inside.entries c.self.inside.ages c.self.invariant.by_age c.self.invariant.ordered in
    let is = found_is c.self.inside.entries (tree.values c.self.inside.ages) c.args.self.now c.args.key keys c.self.view_is in
    ap (option_map (λ waiting. waiting.item)) (ap (option_map waiting_of) c.in-Some.ensures ∙ sym is)

pub returns-in-None : goal.returns-in-None
returns-in-None c =
    let keys = are_keys c.self.inside.entries c.self.inside.ages c.self.invariant.by_age c.self.invariant.ordered in
    let is = found_is c.self.inside.entries (tree.values c.self.inside.ages) c.args.self.now c.args.key keys c.self.view_is in
    ap (option_map (λ waiting. waiting.item)) (ap (option_map waiting_of) c.in-None.ensures ∙ sym is)
