-- kept routes are one list
use Rattle.std.proofs.Common.{◌≡◌, List, sym, refl, ◌∙◌}
use Rattle.crew_terms.specs.Limits.{Limits, Route}
use Rattle.crew_terms.specs.Rules.{IsInstance}
use Rattle.route_terms.specs.Kept.{AreKeptIn}
use Rattle.route_terms.specs.Kept.AreKeptIn.{None, Kept, Left}
use Rattle.route_terms.specs.NameLaws.{one_route}
use Rattle.route_terms.specs.Named.{NamedRoute}

pub one_kept : (n : Limits) → IsInstance n.instance → (carried : List NamedRoute) (kept more : List Route) → AreKeptIn n carried kept → AreKeptIn n carried more → kept ≡ more
one_kept n is carried kept more None None = refl
one_kept n is carried kept more (Kept named r a rest) (Kept named' s b rest') =
    let same = one_route n.instance is r s a.exists b.exists (a.names ∙ sym b.names) in
    let others = one_kept n is _ _ _ rest rest' in
    cc
one_kept n is carried kept more (Kept named r a rest) (Left named' none rest') = absurd (none r a)
one_kept n is carried kept more (Left named none rest) (Kept named' s b rest') = absurd (none s b)
one_kept n is carried kept more (Left named none rest) (Left named' none' rest') = one_kept n is _ _ _ rest rest'
