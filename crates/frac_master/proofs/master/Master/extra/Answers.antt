use Rattle.std.proofs.Common.{refl, subst}
use Rattle.std.specs.Prelude.{Contains}
use Rattle.crew_terms.specs.Leaf.{rho_of}
use Rattle.search_terms.specs.declared.Place.TheVariants.{Missed}
use Rattle.frac_master.proofs.DualPlaces.{near}
use Rattle.frac_master.proofs.master.Master.extra.Goals as goal

pub returns-clause-near : goal.returns-clause-near
returns-clause-near c = λ n routes made w done.
    let m = c.args.self.now in
    let d = c.duals_stand.ensures n m.rows in
    let o = c.optimal_prices.ensures n routes made m.rows d.0 w.run done d.1 in
    let has = subst (λ l. Contains l (Missed c.args.k c.args.i)) w.places c.requires in
    let lt = (c.places_are.ensures.pairs n c.args.k c.args.i).0 has in
    near m n (Missed c.args.k c.args.i) c.dual_of.result (rho_of d.0 c.args.k c.args.i) w.going w.places has refl (λ h w. d.1.pairs h c.args.k c.args.i w) (o.pairs c.args.k c.args.i lt.0 lt.1) c.dual_of.ensures.dual
