use Rattle.std.proofs.Common.{refl, subst}
use Rattle.std.specs.Prelude.{Contains}
use Rattle.crew_terms.specs.Leaf.{pi_of}
use Rattle.search_terms.specs.declared.Place.TheVariants.{Shortage}
use Rattle.frac_master.proofs.DualPlaces.{near}
use Rattle.frac_master.proofs.master.Master.price.Goals as goal

pub returns-clause-near : goal.returns-clause-near
returns-clause-near c = λ n routes made w done.
    let m = c.args.self.now in
    let d = c.duals_stand.ensures n m.rows in
    let o = c.optimal_prices.ensures n routes made m.rows d.0 w.run done d.1 in
    let has = subst (λ l. Contains l (Shortage c.args.i)) w.places c.requires in
    let lt = (c.places_are.ensures.tasks n c.args.i).0 has in
    near m n (Shortage c.args.i) c.dual_of.result (pi_of d.0 c.args.i) w.going w.places has refl (λ h w. d.1.tasks h c.args.i w) (o.tasks c.args.i lt) c.dual_of.ensures.dual
