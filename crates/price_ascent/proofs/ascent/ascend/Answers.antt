use Rattle.std.proofs.Common.{rules, ℕ, Vec, Global, ◌∙◌, sym, subst, arith, to_z, of_z}
use Rattle.std.specs.Int.{w128}
use Rattle.std.specs.Prelude.{FitsSigned}
use Rattle.std.specs.List.{All}
use Rattle.std.proofs.lemmas.Int.{ints, to_z-of_z}
use Rattle.crew_terms.specs.Leaf.{AreInRange, IsOnRequired}
use Rattle.crew_terms.specs.ZeroPrices.{zero_on_required}
use Rattle.price_ascent.specs.Bound.{ArePricedAt, IsBoundAt}
use Rattle.price_ascent.specs.Classes.{AreFirsts}
use Rattle.price_ascent.specs.Found.{IsFound}
use Rattle.price_ascent.proofs.Bounds.{in_bits}
use Rattle.price_ascent.proofs.ascent.ascend.Goals as goal

pub loop-round-init : goal.loop-round-init
loop-round-init c =
    let n = c.args.limits.now.limits in
    let range : AreInRange c.args.start = c.in_ok-bound.ensures.range in
    let bound : IsBoundAt n c.args.start c.in_ok-bound.bound = c.in_ok-bound.ensures.bound in
    let fits : FitsSigned w128 c.in_ok-bound.bound = search rules in
    let start : ArePricedAt n c.args.start c.in_ok-bound.bound = record {
      prices = record { of_node = c.requires.prices; on_required = c.requires.required };
      range = range;
      is_bound = bound;
    } in
    record {
      room = c.in_ok-sight.ensures.room ∙ sym c.in_ok-bound.ensures.room;
      firsts = subst (λ (v : Vec ℕ Global). AreFirsts n v.items) (sym c.in_ok-bound.ensures.firsts) c.in_ok-sight.ensures.firsts;
      count = c.in_ok-bound.ensures.count ∙ c.in_ok-sight.ensures.count;
      routes = c.in_ok-bound.ensures.routes;
      trial = record {
        of_node = c.in_ok-trial.ensures.prices;
        on_required = subst (IsOnRequired n) (sym c.in_ok-trial.ensures.zeros) (zero_on_required n);
      };
      best = in_bits n c.args.start c.in_ok-bound.bound fits start;
      rises = search rules;
      rounds = search rules;
    }

pub loop-round-preserved : goal.loop-round-preserved
loop-round-preserved c =
    let n = c.args.limits.now.limits in
    let best = c.loop-round.invariant.best in
    let fits : FitsSigned w128 c.in_ok-bound-2.bound = search rules in
    let kept : FitsSigned w128 c.keep_better-most.result = search rules in
    let here : ArePricedAt n c.write.new.prices c.in_ok-bound-2.bound = record {
      prices = record { of_node = c.write.ensures.prices; on_required = c.write.ensures.required };
      range = c.in_ok-bound-2.ensures.range;
      is_bound = c.in_ok-bound-2.ensures.bound;
    } in
    let trial : ArePricedAt n c.write.new.prices (to_z w128 (of_z w128 c.in_ok-bound-2.bound)) =
    in_bits n c.write.new.prices c.in_ok-bound-2.bound fits here in
    record {
      room = c.loop-round.invariant.room ∙ sym c.in_ok-bound-2.ensures.room;
      firsts = subst (λ (v : Vec ℕ Global). AreFirsts n v.items) (sym c.in_ok-bound-2.ensures.firsts) c.loop-round.invariant.firsts;
      count = c.in_ok-bound-2.ensures.count ∙ c.loop-round.invariant.count;
      routes = c.in_ok-bound-2.ensures.routes;
      trial = c.keep_better-most.ensures.trial n best trial;
      best = in_bits n c.keep_better-most.new.best c.keep_better-most.result kept (c.keep_better-most.ensures.best n best trial);
      rises =
          let a = c.loop-round.invariant.rises in
          let b = c.keep_better-most.ensures.rises in
          let e = to_z-of_z w128 c.keep_better-most.result kept in
          omega (arith, ints);
      rounds = search rules;
    }

pub returns-clause-proved : goal.returns-clause-proved
returns-clause-proved c = c.greater_bounds_prove_more.ensures.count _ _ _ _ c.in_ok-bound.ensures.instance c.loop-round.invariant.best
    (record { most = c.most_proved.ensures.most; proves = c.most_proved.ensures.proves; greatest = c.most_proved.ensures.greatest })

pub returns-clause-as_much : goal.returns-clause-as_much
returns-clause-as_much c =
    let n = c.args.limits.now.limits in
    let range : AreInRange c.args.start = c.in_ok-bound.ensures.range in
    let bound : IsBoundAt n c.args.start c.in_ok-bound.bound = c.in_ok-bound.ensures.bound in
    let fits : FitsSigned w128 c.in_ok-bound.bound = search rules in
    let start : ArePricedAt n c.args.start c.in_ok-bound.bound = record {
      prices = record { of_node = c.requires.prices; on_required = c.requires.required };
      range = range;
      is_bound = bound;
    } in
    c.greater_bounds_prove_more.ensures.more n _ _ _ _ c.in_ok-bound.ensures.instance (in_bits n c.args.start c.in_ok-bound.bound fits start)
    c.loop-round.invariant.best c.loop-round.invariant.rises

pub returns-clause-routes : goal.returns-clause-routes
returns-clause-routes c =
    subst (λ q. All (IsFound c.args.limits.now.limits) q.items) (sym c.into_routes.ensures) c.loop-round.invariant.routes
