use Rattle.std.proofs.lemmas.List.Elements.{All-weaker}
use Rattle.dossier_terms.specs.Dossier.{IsPooled}
use Rattle.route_terms.specs.Named.{IsOfInstance}
use Rattle.replan.proofs.Pools.{kept_pooled, pooled_known}
use Rattle.replan.proofs.laws.pools_are_of_instances.Goals as goal

pub returns : goal.returns
returns x = record {
  kept = λ i handed kept is columns. kept_pooled i handed kept is columns.each;
  known = λ i pool all. All-weaker (IsPooled i) (IsOfInstance i) (pooled_known i) pool all;
}
