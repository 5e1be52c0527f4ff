use Rattle.std.proofs.Common.{◌≡◌, ◌≤◌, ◌<◌, sym, subst, arith}
use Rattle.std.proofs.lemmas.Int.{ints}
use Rattle.std.specs.Prelude.{Ok}
use Rattle.dossier_terms.specs.declared.Reason.TheVariants as reasons
use Rattle.head_check.specs.declared.due.Base.{Base}
use Rattle.dossier_terms.specs.Reading.{No as Refuses, routes_due}
use Rattle.dossier_terms.specs.Table.{Says}
use Rattle.dossier_terms.specs.BodyTable.{begin}
use Rattle.cert_checker.specs.Due.{Awaits, Tells}
use Rattle.cert_checker.specs.declared.due.Step.TheVariants.{More}
use Rattle.cert_checker.proofs.PoolRows.{natural_is, pool_many, pool_more}
use Rattle.cert_checker.proofs.pool.pool_line.Goals as goal

pub returns-then-kept-routes : goal.returns-then-kept-routes
returns-then-kept-routes c = λ reading e.
    let h = c.in_ok-kept.ensures in
    let k = h.2 in let n = h.3 in let more = c.if-kept-routes.true in
    let less : h.1 < h.0 = omega (arith, ints) in
    subst (λ r. Says r c.args.words (Refuses reasons.Pool)) (sym e) (pool_many c.args.base.value.form c.args.base.value.instance c.args.base.value.nodes h.0 h.1 c.args.words h.4 h.5 h.6 less)

pub returns : goal.returns
returns c = λ reading e.
    let h = c.in_ok-kept.ensures in
    let line = c.in_ok-kept.field-0 in
    let k = h.2 in let n = h.3 in let more = c.if-kept-routes.false in
    let form = c.args.base.value.form in
    let i = c.args.base.value.instance in
    let budget = c.args.base.value.nodes in
    let due = c.in_ok-due.due in
    let le : h.0 ≤ h.1 = omega (arith, ints) in
    let kept : c.natural.result ≡ h.0 = natural_is line.kept h.0 c.natural.result k h.4 c.natural.ensures in
    let routes : c.natural-2.result ≡ h.1 = natural_is line.routes h.1 c.natural-2.result n h.5 c.natural-2.ensures in
    let begun = subst (λ (b : Base). Awaits due (routes_due (begin b.form b.instance b.nodes c.natural.result) c.natural-2.result)) c.into_inner-base.ensures c.in_ok-due.ensures in
    let next : Awaits due (routes_due (begin form i budget h.0) h.1) =
    subst (λ m. Awaits due (routes_due (begin form i budget h.0) m)) routes
    (subst (λ m. Awaits due (routes_due (begin form i budget m) c.natural-2.result)) kept begun) in
    subst (λ r. Tells (Says r c.args.words) (Ok (More due))) (sym e)
    (routes_due (begin form i budget h.0) h.1, pool_more form i budget h.0 h.1 c.args.words h.4 h.5 h.6 le, next)
