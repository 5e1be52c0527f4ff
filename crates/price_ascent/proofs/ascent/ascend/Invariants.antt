use Rattle.std.proofs.Common.{◌≡◌, ◌≤◌, ◌≤ℤ◌, length}
use Rattle.std.specs.List.{All}
use Rattle.crew_terms.specs.Limits.{teams_in}
use Rattle.label_pricing.specs.Pricing.{HasRoom}
use Rattle.price_ascent.specs.Bound.{AreNodePrices, ArePricedAt}
use Rattle.price_ascent.specs.Classes.{AreFirsts}
use Rattle.price_ascent.specs.Found.{IsFound}
use Rattle.price_ascent.proofs.ascent.ascend.Given as goal

abbrev pub invariant-loop-round : goal.invariant-loop-round
invariant-loop-round l = record {
  room : HasRoom l.limits.limits.instance l.sight.pricer;
  firsts : AreFirsts l.limits.limits l.sight.firsts.items;
  count : length l.sight.worths.items ≡ teams_in l.limits.limits;
  routes : All (IsFound l.limits.limits) l.sight.routes.items;
  trial : AreNodePrices l.limits.limits l.trial;
  best : ArePricedAt l.limits.limits l.best l.most;
  rises : l.initial.most ≤ℤ l.most;
  rounds : l.made ≤ l.round;
}
