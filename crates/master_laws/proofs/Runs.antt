-- the rows of a run have the solutions of the opening rows with its routes, and stay feasible
use Rattle.std.proofs.Common.{◌≡◌, ◌+◌, ℕ, List, [], ◌∷◌, ◌++◌, length, refl, ap, sym, arith, ◌∙◌, length-append}
use Rattle.crew_terms.specs.Limits.{Limits, Route}
use Rattle.search_terms.specs.Rows.{Rows, width, HaveSameSolutions, AreBasic, AreFeasible}
use Rattle.search_terms.specs.Opening.{places, opening, entered, all_entered, with_routes}
use Rattle.search_terms.specs.MasterRun.{MasterRun}
use Rattle.search_terms.specs.MasterRun.MasterRun.{Opens, Pivots, Enters}
use Rattle.master_laws.proofs.Solutions.{solves_next, solves_before}
use Rattle.master_laws.proofs.Feasible.{same_width, basic_next, feasible_next}
use Rattle.master_laws.proofs.Entering.{AreWithin, folded, basic_entered, feasible_entered, width_entered, solves_folded, solves_unfolded}

all_entered-last : (n : Limits) (routes : List Route) (r : Route) (t : Rows) → all_entered (places n) (routes ++ r ∷ []) t ≡ entered (places n) r (all_entered (places n) routes t)
all_entered-last n [] r t = refl
all_entered-last n (q ∷ routes) r t = all_entered-last n routes r (entered (places n) q t)

pub feasible_run : (n : Limits) (may : Rows → Type 0) (routes : List Route) (made : ℕ) (t : Rows) → AreFeasible (opening n) → MasterRun n may routes made t → AreFeasible t
feasible_run n may _ _ _ b Opens = b
feasible_run n may _ _ _ b (Pivots {routes} {made} {t} {next} run p) = feasible_next t next (feasible_run n may routes made t b run) p
feasible_run n may _ _ _ b (Enters {routes} {made} {t} r run m) = feasible_entered n r t (feasible_run n may routes made t b run)

-- rows with basic variables, as wide as the opening rows with the routes, and with their solutions
pub record IsOf (n : Limits) (routes : List Route) (t : Rows) : Type 0 where
  pub basic : AreBasic t
  pub all_basic : AreBasic (with_routes n routes)
  pub wide : width t ≡ width (opening n) + length routes
  pub all_wide : width (with_routes n routes) ≡ width (opening n) + length routes
  pub same : HaveSameSolutions t (with_routes n routes)

pub of_run : (n : Limits) (may : Rows → Type 0) (routes : List Route) (made : ℕ) (t : Rows) → AreWithin n (width (opening n)) → AreBasic (opening n)
    → MasterRun n may routes made t → IsOf n routes t
of_run n may _ _ _ known b Opens = record { basic = b; all_basic = b; wide = omega arith; all_wide = omega arith; same = λ x. (λ s. s, λ s. s) }
of_run n may _ _ _ known b (Pivots {routes} {made} {t} {next} run p) =
    let o = of_run n may routes made t known b run in
    record {
      basic = basic_next t next o.basic p;
      all_basic = o.all_basic;
      wide = same_width t next p.v p.h p.pivot o.basic.some ∙ o.wide;
      all_wide = o.all_wide;
      same = λ x. (λ s. (o.same x).0 (solves_before t next x o.basic p s), λ s. solves_next t next x o.basic p ((o.same x).1 s));
    }
of_run n may _ _ _ known b (Enters {routes} {made} {t} r run m) =
    let o = of_run n may routes made t known b run in
    let w = width t in
    let all = with_routes n routes in
    let e : width all ≡ w = o.all_wide ∙ sym o.wide in
    let in' : AreWithin n w = record { each = λ h below. omega (arith, known.each h below, o.wide) } in
    let f = all_entered-last n routes r (opening n) in
    let l = length-append routes (r ∷ []) in
    let one : length (r ∷ []) ≡ 1 = refl in
    record {
      basic = basic_entered n r t o.basic;
      all_basic = rw f (basic_entered n r all o.all_basic);
      wide = omega (arith, width_entered n r t o.basic.some, o.wide);
      all_wide = ap width f ∙ omega (arith, width_entered n r all o.all_basic.some, o.all_wide);
      same = λ x. rw f (
        λ s. solves_unfolded n r all w x in' o.all_basic e ((o.same (folded n r w x)).0 (solves_folded n r t w x in' o.basic refl s)),
        λ s. solves_unfolded n r t w x in' o.basic refl ((o.same (folded n r w x)).1 (solves_folded n r all w x in' o.all_basic e s)),
      );
    }
