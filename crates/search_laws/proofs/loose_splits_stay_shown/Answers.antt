use Rattle.std.proofs.Common.{subst, sym}
use Rattle.crew_terms.specs.Limits.{root_limits}
use Rattle.search_terms.specs.Caused.{AreLooseShown}
use Rattle.search_terms.specs.Search.{best}
use Rattle.search_laws.proofs.Inside.{shape_of}
use Rattle.search_laws.proofs.Shown.{new_shown, shown_replaced}
use Rattle.search_laws.proofs.loose_splits_stay_shown.Goals as goal

pub returns : goal.returns
returns c = record {
  new = λ now pivots columns n own handed split is limits near. new_shown n split own is.found handed (shape_of n limits) is.valid is.on split.cause.why near;
  step = λ i way pivots columns more s t step is own each.
      subst (AreLooseShown (root_limits i)) (sym step.tree)
      (shown_replaced (best t) pivots more (root_limits i) s.tree way step.new (shape_of (root_limits i) (c.root_is_limits.ensures i is)) step.leads step.becomes own each);
}
