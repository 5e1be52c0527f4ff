use Rattle.std.proofs.Common.{◌≡◌, ◌∙◌, ◌++◌, ◌∷◌, [], ℤ, List, pos, length, get_or, w64, ap, sym, subst, rules, arith}
use Rattle.std.specs.Prelude.{FitsSigned}
use Rattle.std.proofs.lemmas.Int.{to_z-of_z}
use Rattle.std.proofs.lemmas.List.{length-append}
use Rattle.crew_terms.specs.Instance.{Instance}
use Rattle.crew_terms.specs.Leaf.{IsWorth, worth_of}
use Rattle.crew_terms.specs.declared.Visit.{Visit}
use Rattle.squeeze_terms.specs.MinutePrices.{minute_price}
use Rattle.squeeze_terms.specs.Run.{IsBestRoute}
use Rattle.price_run.proofs.Pushed.{each_more}
use Rattle.price_run.proofs.evaluated.best_routes.Goals as goal

pub loop-k-preserved : goal.loop-k-preserved
loop-k-preserved c =
    let n = c.args.limits.now.limits in
    let w = minute_price n.instance c.args.prices.now in
    let k = c.loop-k.k in
    let found = c.in_ok-found.found in
    let is = c.loop-k.invariant in
    let fits : FitsSigned w64 found.worth = search rules in
    let worths : c.push.new.self.items ≡ c.loop-k.worths.items ++ found.worth ∷ [] = c.in_ok-push.ensures.items ∙ ap (λ (v : ℤ). c.loop-k.worths.items ++ v ∷ []) (to_z-of_z w64 found.worth fits) in
    let routes : c.push-in-loop-k.new.self.items ≡ c.loop-k.routes.items ++ found.route ∷ [] = c.in_ok-push-2.ensures.items in
    let best : IsBestRoute n k w found.route = c.in_ok-found.ensures.best in
    let worth : IsWorth n k w found.worth = subst (IsWorth n k w) c.in_ok-found.ensures.worth best.most in
    record {
      routes_count = let a = ap length routes in let b = length-append c.loop-k.routes.items (found.route ∷ []) in let d = is.routes_count in omega arith;
      worths_count = let a = ap length worths in let b = length-append c.loop-k.worths.items (found.worth ∷ []) in let d = is.worths_count in omega arith;
      best = λ h l. subst (λ (rs : List (List Visit)). IsBestRoute n h w (get_or rs h [])) (sym routes) (each_more (λ g r. IsBestRoute n g w r) [] c.loop-k.routes.items found.route k is.routes_count is.best best h l);
      worth = λ h l. subst (λ (vs : List ℤ). IsWorth n h w (worth_of vs h)) (sym worths) (each_more (λ g v. IsWorth n g w v) (pos 0) c.loop-k.worths.items found.worth k is.worths_count is.worth worth h l);
      room = c.best_route.ensures.room;
    }

pub returns-clause-worths : goal.returns-clause-worths
returns-clause-worths c =
    let n = c.args.limits.now.limits in
    let w = minute_price n.instance c.args.prices.now in
    let is = c.loop-k.invariant in
    let a = c.teams-teams.ensures.count in
    let b = ap (λ (i : Instance). length i.teams) c.instance.ensures.instance in
    let d = c.loop-k-test.false in
    let e = c.loop-k.auto.k-end in
    let count = is.worths_count in
    record {
      count = omega arith;
      each = λ h l. subst (λ m. IsWorth m h w (worth_of c.loop-k.worths.items h)) c.requires.root (is.worth h (omega arith));
    }
