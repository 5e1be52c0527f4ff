use Rattle.std.proofs.Common.{false, refl, sym, subst, ◌∙◌}
use Rattle.std.proofs.lemmas.Bool.{both_ways}
use Rattle.node_queue.specs.Waits.{IsLeast}
use Rattle.node_queue.proofs.Least.{least_first, none_first}
use Rattle.node_queue.proofs.Queue.least.Goals as goal

pub returns-in-Some-clause-least : goal.returns-in-Some-clause-least
returns-in-Some-clause-least c =
    subst (λ q. IsLeast q c.in-Some.key.now) c.self.view_is (least_first c.self.inside c.in-Some.field-0-0.now c.in-Some.key.now c.self.invariant c.in-Some.ensures.value c.in-Some.ensures.least)

pub returns-in-None-clause-none : goal.returns-in-None-clause-none
returns-in-None-clause-none c = sym c.self.view_is ∙ none_first c.self.inside c.self.invariant (λ has. both_ways false refl (c.in-None.ensures.variant.1 has))
