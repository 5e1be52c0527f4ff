use Rattle.std.proofs.Common.{◌≡◌, length, ap, sym, subst, refl, ◌∙◌, arith}
use Rattle.std.proofs.lemmas.Result.{err_from_is_err_and}
use Rattle.crew_terms.specs.Limits.{root_limits, Route}
use Rattle.dossier_terms.specs.Reading.{Routes}
use Rattle.dossier_terms.specs.Ranges.{IsRouteLine}
use Rattle.dossier_terms.specs.Table.{Says}
use Rattle.node_limits.specs.Rest.{trail_over}
use Rattle.route_pool.specs.Numbers.{AreNumbersOf}
use Rattle.route_pool.specs.Verdict.{IsPoolVerdict, pool_after}
use Rattle.cert_checker.specs.Due.{IsBegun, IsRoot, IsStep, Tells, draft_of}
use Rattle.cert_checker.specs.declared.due.BegunDossier.{BegunDossier}
use Rattle.cert_checker.specs.declared.due.Due.TheVariants.{Route as RouteDue}
use Rattle.cert_checker.proofs.PoolRows.{rest_is_root, root_woke, route_numbers, route_judged}
use Rattle.cert_checker.proofs.pool.route_line.Goals as goal
use Rattle.cert_checker.proofs.pool.route_line.Goals.{After-judge_route}

pub judge_route-requires : goal.judge_route-requires
judge_route-requires c =
    let b = c.deref_mut-held.result.now in
    let i = b.base.instance in
    let begun = subst IsBegun (sym c.deref_mut-held.ensures.value) c.requires.1.0 in
    let woke : c.wake-limits.result ≡ trail_over i b.limits = c.wake-limits.ensures ∙ ap (trail_over i) c.take.ensures.taken in
    let root = root_woke i b.limits c.wake-limits.result begun.root woke in record {
      plan = begun.plan;
      root = rest_is_root i c.wake-limits.result c.rest.result root.0 root.1 c.rest.ensures.same c.rest.ensures.over;
    }

-- what is said of the route
told : (c : After-judge_route) → IsStep (RouteDue c.args.draft c.args.more) c.args.words c.judge_route.result
told c = λ reading kept.
    let h = c.in_ok-team.ensures in
    let route : Route = record { team = c.in_ok-team.field-0.team; visits = h.0 } in
    let b = c.deref_mut-held.result.now in
    let same : b ≡ c.args.draft.value = c.deref_mut-held.ensures.value in
    let root : IsRoot b.base.instance b.limits = subst (λ (d : BegunDossier). IsRoot d.base.instance d.limits) (sym same) kept.0.root in
    let due : reading ≡ Routes (draft_of b) c.args.more = kept.1 ∙ ap (λ (d : BegunDossier). Routes (draft_of d) c.args.more) (sym same) in
    let i = b.base.instance in
    let count = c.tasks-tasks.ensures.count in
    let few = c.tasks-tasks.ensures.limits.parts.few_tasks in
    let numbers = subst (AreNumbersOf h.0) (sym h.1) (route_numbers c.teams-teams.result c.tasks-tasks.result route (omega arith) h.2) in
    let read : c.in_ok-route.route ≡ route = c.in_ok-route.ensures h.0 numbers in
    let fits = subst (λ m. IsRouteLine m (length i.tasks) route) c.teams-teams.ensures.count (subst (λ n. IsRouteLine c.teams-teams.result n route) count h.2) in
    let woke : c.wake-limits.result ≡ trail_over i b.limits = c.wake-limits.ensures ∙ ap (trail_over i) c.take.ensures.taken in
    let limits = (root_woke i b.limits c.wake-limits.result root woke).0 in
    let verdict : IsPoolVerdict (root_limits i) b.pool route c.in_ok-verdict.verdict =
    subst (λ r. IsPoolVerdict (root_limits i) b.pool r c.in_ok-verdict.verdict) read
    (subst (λ n. IsPoolVerdict n b.pool c.in_ok-route.route c.in_ok-verdict.verdict) limits c.in_ok-verdict.ensures.verdict) in
    let pool : pool_after b.pool route c.add.new.self c.in_ok-verdict.verdict =
    subst (λ r. pool_after b.pool r c.add.new.self c.in_ok-verdict.verdict) read c.in_ok-verdict.ensures.pool in
    let after : BegunDossier = record b { limits = c.rest.result; pool = c.add.new.self } in
    subst (λ r. Tells (Says r c.args.words) c.judge_route.result) (sym due)
    (route_judged (draft_of b) c.args.more c.args.words route c.add.new.self c.in_ok-verdict.verdict after c.judge_route.result fits h.3 verdict pool refl c.judge_route.ensures)

pub returns-in_err-judge_route : goal.returns-in_err-judge_route
returns-in_err-judge_route d =
    let c = (goal.at.returns-in_err-judge_route d).After-judge_route in
    let p = err_from_is_err_and d.from_residual-in_err-judge_route.result d.from_residual-in_err-judge_route.ensures.1 in
    rw (p.1, p.2) (subst (IsStep (RouteDue d.args.draft d.args.more) d.args.words) d.in_err-judge_route.was (told c))

pub returns : goal.returns
returns d =
    let c = (goal.at.returns d).After-judge_route in
    subst (IsStep (RouteDue d.args.draft d.args.more) d.args.words) d.in_ok-judge_route.was (told c)
