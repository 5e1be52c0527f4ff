use Rattle.std.proofs.Common.{◌≡◌, ◌+◌, ◌-◌, length, drop, ◌∷◌, arith, ap, ◌∙◌}
use Rattle.std.proofs.lemmas.List.{length-reverse}
use Rattle.tree_walk.specs.Way.{Walked}
use Rattle.tree_walk.proofs.Reversed.{reverse-set_last}
use Rattle.tree_walk.proofs.walk.Walk.turn.Goals as goal

pub returns : goal.returns
returns c =
    let items = c.self.inside.above.items in
    let l : length items ≡ c.len-level.result - 1 + 1 = (let v = ap (λ (w : Walked). length w.above) c.self.view_is in omega (arith, length-reverse items)) in
    ap (λ xs. record { above = xs; seen = c.self.inside.seen; depth = c.self.inside.depth }) (reverse-set_last items (c.len-level.result - 1) c.args.to l)
    ∙ ap (λ (w : Walked). record w { above = c.args.to ∷ drop 1 w.above }) c.self.view_is
