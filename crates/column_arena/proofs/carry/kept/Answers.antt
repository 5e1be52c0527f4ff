use Rattle.std.proofs.Common.{inl, inr, sym, subst}
use Rattle.crew_terms.specs.Limits.{IsRoute}
use Rattle.column_arena.specs.Carried.{AreRenumbered}
use Rattle.column_arena.proofs.Carrying.{no_route}
use Rattle.column_arena.proofs.carry.kept.Goals as goal

pub returns : goal.returns
returns c =
    let n = c.args.limits.now.limits in
    let visits = rw c.in-Some-2.is at c.in_ok-visits.ensures in
    let so = subst (λ vs. AreRenumbered c.args.tasks.now vs c.in-Some-2.visits.items) c.visits.ensures visits in
    let fault = c.in-BadVisit.is in
    no_route n c.instance.ensures.is_instance c.args.teams.now c.args.tasks.now c.requires.teams c.requires.tasks c.args.route.now c.in-Some.team c.in-Some-2.visits.items
    (rw c.team.ensures at c.in-Some.ensures) so
    (λ route.
    let legal = c.check_route.ensures.legal.1 (subst (IsRoute n c.in-Some.team) (sym c.deref.ensures.value) route) in
    elim fault [ inl (x, is) ↦ cc | inr (x, is) ↦ cc ])
