use Rattle.std.proofs.Common.{rules, ◌≡◌, ◌<◌, ◌+◌, ℕ, Vec, Global, length, ap, sym, subst, refl, ◌∙◌, arith, to_z, of_z, w64}
use Rattle.std.specs.Prelude.{FitsSigned}
use Rattle.std.proofs.lemmas.Int.{to_z-of_z}
use Rattle.std.proofs.lemmas.List.{get_or_read_under}
use Rattle.crew_terms.specs.Leaf.{IsWorth, earned}
use Rattle.crew_terms.specs.Limits.{IsRoute, teams_in}
use Rattle.label_pricing.specs.Pricing.{Pricing}
use Rattle.price_ascent.specs.Classes.{AreKnownUpTo, first_of}
use Rattle.price_ascent.proofs.Firsts.{of_class, begun, passed, taken}
use Rattle.price_ascent.proofs.pricing.Sight.look_at.Goals.{then-index-h+in_ok-take, else-index-h}
use Rattle.price_ascent.proofs.pricing.Sight.look_at.Goals as goal

pub loop-k-init : goal.loop-k-init
loop-k-init c =
    let n = c.args.limits.now.limits in
    record {
      worths = begun n c.args.prices.now c.args.self.now.firsts.items c.requires.firsts c.args.h c.args.self.now.worths.items c.requires.worths;
      pricer = refl;
      firsts = refl;
      routes = c.requires.routes;
    }

pub loop-k-preserved : goal.loop-k-preserved
loop-k-preserved c =
    let n = c.args.limits.now.limits in
    let p = c.args.prices.now in
    let h = c.args.h in
    let k = c.loop-k.k in
    let is = c.loop-k.invariant in
    let firsts = c.args.self.now.firsts.items in
    let known : k < teams_in n =
    let a = c.loop-k-test.true in let b = c.teams-k-end.ensures.count in let e = ap (λ i. length i.teams) c.instance.ensures.instance in omega arith in
    let same = ap (λ (v : Vec ℕ Global). v.items) is.firsts in
    let inside : k < length firsts = let a = c.requires.firsts.count in omega arith in
    let read : c.index.result.now ≡ first_of firsts k =
    get_or_read_under c.loop-k.self.firsts.items k (length firsts) c.index.result.now 0 c.index.ensures inside (sym (ap length same)) ∙ ap (λ xs. first_of xs k) same in
    elim c.if-index-h.branch [
      | then-index-h+in_ok-take w ↦
          let first : first_of firsts k ≡ h = let a = w.if-index-h.true in omega arith in
          let fits : FitsSigned w64 c.price-worth.result = search rules in
          let worth = to_z w64 (of_z w64 c.price-worth.result) in
          let own = subst (IsWorth n h (earned p h)) (sym (to_z-of_z w64 c.price-worth.result fits)) c.price-worth.ensures.worth in
          let here : IsWorth n k (earned p k) worth =
          of_class n p firsts c.requires.firsts h (λ g. IsWorth n g (earned p g) worth) own (λ g alike. c.alike_teams_earn_alike.ensures.worths n h g p worth alike c.requires.required own) k known first in
          let route : IsRoute n k c.price-worth.new.self.route =
          of_class n p firsts c.requires.firsts h (λ g. IsRoute n g c.price-worth.new.self.route) c.price-worth.ensures.route (λ g alike. c.alike_teams_earn_alike.ensures.routes n h g c.price-worth.new.self.route alike c.price-worth.ensures.route) k known first in
          let routes = w.in_ok-take.ensures.routes n known (subst (λ (a : Pricing). IsRoute n k a.route) (sym is.pricer) route) is.routes in
          let now = subst (λ ws. AreKnownUpTo n p firsts h (k + 1) ws) (sym w.in_ok-take.ensures.worths) (taken n p firsts c.requires.firsts h k c.loop-k.self.worths.items is.worths worth known first here) in
          rw w.self-is (record {
            worths = now;
            pricer = w.in_ok-take.ensures.pricer ∙ is.pricer;
            firsts = w.in_ok-take.ensures.firsts ∙ is.firsts;
            routes = routes;
          })
      | else-index-h w ↦
          let other : first_of firsts k ≡ h → ⊥ = (λ e. w.if-index-h.false (read ∙ e)) in
          rw w.self-is (record {
            worths = passed n p firsts c.requires.firsts h k c.loop-k.self.worths.items is.worths other;
            pricer = is.pricer;
            firsts = is.firsts;
            routes = is.routes;
          })
    ]
