use Rattle.std.proofs.Common.{◌∙◌, ap}
use Rattle.search_core.specs.Searching.{state_of, way_to}
use Rattle.search_terms.specs.Search.{best}
use Rattle.search_terms.specs.SearchTree.{SearchTree}
use Rattle.search_terms.specs.Ways.{limits_at, prices_at, replaced}
use Rattle.crew_terms.specs.Limits.{root_limits}
use Rattle.search_core.proofs.laws.key_steps_improve.Goals as goal

pub returns-clause-bound : goal.returns-clause-bound
returns-clause-bound x = λ s t key pivots b c columns more held inst is step old new.
    x.steps_improve.ensures.bound s.instance s.budget (way_to s key) pivots columns more (state_of held s) (state_of held t) b c inst (is.run held)
    (step.step held) old new

pub returns-clause-best : goal.returns-clause-best
returns-clause-best x = λ s t key pivots columns more held step.
    x.steps_improve.ensures.best s.instance (way_to s key) pivots columns more (state_of held s) (state_of held t) (step.step held)

pub returns-clause-decided : goal.returns-clause-decided
returns-clause-decided x = λ s t key pivots columns more held step decided.
    let is = step.step held in
    let closed = x.decided_nodes_are_closed.ensures (best (state_of held t)) pivots more
    (limits_at (root_limits s.instance) (state_of held s).tree (way_to s key)) (prices_at (state_of held s).tree (way_to s key)) is.new decided is.becomes in
    (closed.0, is.tree ∙ ap (λ (u : SearchTree). replaced (state_of held s).tree (way_to s key) u) closed.1)
