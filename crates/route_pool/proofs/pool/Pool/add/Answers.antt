use Rattle.std.proofs.Common.{Contains, sym, subst, ◌∙◌}
use Rattle.std.proofs.lemmas.Bool.{not-true, not-false}
use Rattle.route_terms.specs.Routes.{IsNew}
use Rattle.route_pool.proofs.Standing.{is_new, stands}
use Rattle.route_pool.proofs.pool.Pool.add.Goals as goal

pub returns-then-not-branch-clause-verdict : goal.returns-then-not-branch-clause-verdict
returns-then-not-branch-clause-verdict c =
    let r = c.args.route in
    let there = not-false _ (sym c.in_ok-insert.ensures.added ∙ c.if-not-branch.true) in
    (c.is_route.ensures.0 c.if-not-is_route.false, subst (λ p. Contains p r) c.self.view_is (stands c.self.inside.routes.keys r there))

pub returns-clause-verdict : goal.returns-clause-verdict
returns-clause-verdict c =
    let r = c.args.route in
    let absent = not-true _ (sym c.in_ok-insert.ensures.added ∙ c.if-not-branch.false) in
    (c.is_route.ensures.0 c.if-not-is_route.false, subst (λ p. IsNew p r) c.self.view_is (is_new c.self.inside.routes.keys r absent))
