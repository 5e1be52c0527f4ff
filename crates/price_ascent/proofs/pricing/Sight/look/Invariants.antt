use Rattle.std.proofs.Common.{◌≡◌}
use Rattle.std.specs.List.{All}
use Rattle.price_ascent.specs.Classes.{AreKnownBefore}
use Rattle.price_ascent.specs.Found.{IsFound}
use Rattle.price_ascent.proofs.pricing.Sight.look.Given as goal

abbrev pub invariant-loop-h : goal.invariant-loop-h
invariant-loop-h l = record {
  worths : AreKnownBefore l.limits.limits l.prices l.fn.self.firsts.items l.h l.self.worths.items;
  room : l.self.pricer.places ≡ l.fn.self.pricer.places;
  firsts : l.self.firsts ≡ l.fn.self.firsts;
  routes : All (IsFound l.limits.limits) l.self.routes.items;
}
