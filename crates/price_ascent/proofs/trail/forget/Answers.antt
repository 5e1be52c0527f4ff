use Rattle.std.proofs.lemmas.List.Elements.{All-drop}
use Rattle.price_ascent.specs.Found.{IsFound}
use Rattle.price_ascent.proofs.trail.forget.Goals as goal

pub loop-preserved : goal.loop-preserved
loop-preserved c = λ n all. rw c.pop_front.ensures.rest (All-drop (IsFound n) 1 _ (c.loop.invariant n all))
