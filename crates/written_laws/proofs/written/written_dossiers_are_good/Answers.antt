use Rattle.std.proofs.Common.{sym, subst, ◌∙◌}
use Rattle.crew_terms.specs.Leaf.{earned}
use Rattle.crew_terms.specs.Limits.{root_limits}
use Rattle.crew_terms.specs.Plan.{unassigned_count}
use Rattle.dossier_terms.specs.Dossier.{IsGood}
use Rattle.cert_write.specs.Dossiers.{dossier_is}
use Rattle.potentials.specs.Sums.{rewards_bounded}
use Rattle.written_laws.specs.Proved.{IsProvedTree}
use Rattle.written_laws.proofs.Trees.{tree_good}
use Rattle.written_laws.proofs.Parts.{good_parts}
use Rattle.written_laws.proofs.written.written_dossiers_are_good.Goals as goal

pub returns : goal.returns
returns c g d is proved =
    let root = root_limits g.instance in
    let u = unassigned_count g.plan in
    let t = subst (IsProvedTree root g.bound u) (c.one_tree.ensures proved.tree is.tree.tree (sym proved.nodes ∙ is.tree.nodes)) proved.proved in
    let tree = tree_good (λ n k p. c.earnings_fit.ensures.least n k (earned p k))
    (λ n k p v is range. c.earnings_fit.ensures.worths n k (earned p k) v is (rewards_bounded p k range))
    (λ n k p j t v is range. c.earnings_fit.ensures.bests n k (earned p k) j t v is (rewards_bounded p k range)) c.written_prices_are_in_range.ensures
    c.required_teams_are_listed.ensures c.priced_tasks_are_listed.ensures c.extra_is_written.ensures
    c.minutes_are_permitted.ensures c.open_tasks_may_begin.ensures c.potential_is_written.ensures (λ n k p. c.best_potentials_hold.ensures n k (earned p k)) c.worths_decide.ensures
    root proved.instance g.bound u is.tree.tree d.tree is.tree.same t in
    subst IsGood (sym (dossier_is g d is)) (good_parts g d.tree is.tree proved (c.one_tree.ensures proved.tree is.tree.tree (sym proved.nodes ∙ is.tree.nodes)) tree.0 tree.1)
