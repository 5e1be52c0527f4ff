use Rattle.std.proofs.Common.{◌≡◌}
use Rattle.std.specs.List.{All}
use Rattle.price_ascent.specs.Classes.{AreKnownUpTo}
use Rattle.price_ascent.specs.Found.{IsFound}
use Rattle.price_ascent.proofs.pricing.Sight.look_at.Given as goal

abbrev pub invariant-loop-k : goal.invariant-loop-k
invariant-loop-k l = record {
  worths : AreKnownUpTo l.limits.limits l.prices l.fn.self.firsts.items l.h l.k l.self.worths.items;
  pricer : l.self.pricer ≡ l.initial.self.pricer;
  firsts : l.self.firsts ≡ l.initial.self.firsts;
  routes : All (IsFound l.limits.limits) l.self.routes.items;
}
