use Rattle.std.proofs.Common.{◌≡◌, ◌≤◌, ◌<◌, ◌∙◌, true, false, ℕ, List, length, ap, refl, sym, arith}
use borrow.Author.Count.{below_more}
use Rattle.crew_terms.specs.Limits.{Route}
use Rattle.crew_terms.specs.declared.Visit.{Visit}
use Rattle.dossier_terms.specs.Dossier.{Dossier, IsGood}
use Rattle.route_terms.specs.Routes.{route_of}
use Rattle.column_arena.specs.Columns.{column_of}
use Rattle.day_audit.specs.Belongs.{kept_of}
use Rattle.day_audit.proofs.Follows.{not_so}
use Rattle.day_audit.proofs.Pools.{first_at, first_count, first_routes, one_pool}
use Rattle.day_audit.proofs.kept.keeps.Goals as goal

pub returns-then-len-kept : goal.returns-then-len-kept
returns-then-len-kept c = λ d w g.
    not_so (λ e. c.if-len-kept.true (c.len.ensures.count ∙ first_count d.pool c.args.columns.now d.kept g.kept e ∙ sym (c.kept.ensures d w)))

pub loop-id-init : goal.loop-id-init
loop-id-init c = λ d w g k below. absurd (omega (arith, below))

pub route-team-requires-clause-below : goal.route-team-requires-clause-below
route-team-requires-clause-below c = λ d w.
    let o = c.is_between.ensures.true_yes (c.is_between.ensures.ended.1 c.requires) in
    let same : length o.0.pool ≡ length d.pool = ap length (one_pool c.args.checker.now.at o.0 d o.1 w) in
    let most = o.2.good.kept in
    let k = c.kept.ensures o.0 o.1 in
    let n = c.len-id-end.ensures.count in
    let m = c.len.ensures.count in
    let e = c.if-len-kept.false in
    let b = c.loop-id-test.true in
    omega (arith, same, most, k, n, m, e, b)

pub returns-then-team : goal.returns-then-team
returns-then-team c = λ d w g. not_so (λ e.
    let k = c.kept.ensures d w in
    let n = c.len-id-end.ensures.count in
    let m = c.len.ensures.count in
    let f = c.if-len-kept.false in
    let b = c.loop-id-test.true in
    let below : c.loop-id.id < d.kept = omega (arith, k, n, m, f, b) in
    let at = first_at d.pool c.args.columns.now d.kept c.loop-id.id e below in
    c.if-team.true (ap (λ (r : Route). r.team) (c.route-team.ensures d w ∙ sym at) ∙ sym c.team.ensures))

pub returns-then-not-are_same_visits : goal.returns-then-not-are_same_visits
returns-then-not-are_same_visits c = λ d w g. not_so (λ e.
    let k = c.kept.ensures d w in
    let n = c.len-id-end.ensures.count in
    let m = c.len.ensures.count in
    let f = c.if-len-kept.false in
    let b = c.loop-id-test.true in
    let below : c.loop-id.id < d.kept = omega (arith, k, n, m, f, b) in
    let at = first_at d.pool c.args.columns.now d.kept c.loop-id.id e below in
    let t : c.are_same_visits.result ≡ true = c.are_same_visits.ensures.1 (ap (λ (r : Route). r.visits) (c.route-team.ensures d w ∙ sym at) ∙ sym c.visits.ensures) in
    let u : c.are_same_visits.result ≡ false = c.if-not-are_same_visits.true in
    cc)

pub loop-id-preserved : goal.loop-id-preserved
loop-id-preserved c = λ d w g.
    let own : Route = column_of c.args.columns.now c.loop-id.id in
    let team : own.team ≡ c.route-team.result.0 = sym c.team.ensures ∙ sym c.if-team.false in
    let visits : own.visits ≡ c.route-team.result.1.now = sym c.visits.ensures ∙ sym (c.are_same_visits.ensures.0 c.if-not-are_same_visits.false) in
    let here : own ≡ column_of d.pool c.loop-id.id =
    ap (λ k. route_of k own.visits) team ∙ ap (route_of c.route-team.result.0) visits ∙ c.route-team.ensures d w in
    below_more (λ k. column_of c.args.columns.now k ≡ column_of d.pool k) c.loop-id.id (c.loop-id.invariant d w g) here

pub returns : goal.returns
returns c = λ d w g.
    let k = c.kept.ensures d w in
    let n = c.len-id-end.ensures.count in
    let m = c.len.ensures.count in
    let e = c.if-len-kept.false in
    let f = c.loop-id-test.false in
    let most : d.kept ≤ c.loop-id.id = omega (arith, k, n, m, e, f) in
    let count : length c.args.columns.now ≡ d.kept = sym m ∙ e ∙ k in
    (λ _. first_routes d.pool c.args.columns.now d.kept c.loop-id.id count g.kept most (c.loop-id.invariant d w g), λ _. refl)
