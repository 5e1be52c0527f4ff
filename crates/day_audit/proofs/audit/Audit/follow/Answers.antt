use Rattle.std.proofs.Common.{◌≡◌, ◌∙◌, List, ap, map, subst, sym}
use Rattle.std.proofs.lemmas.Result.{IfOk-from_err}
use Rattle.std.specs.Prelude.{All}
use Rattle.crew_laws.specs.Faultless.{legal_is_plan}
use Rattle.crew_terms.specs.Instance.{Instance}
use Rattle.crew_terms.specs.Legal.{IsLegal}
use Rattle.crew_terms.specs.Limits.{Route}
use Rattle.crew_terms.specs.Plan.{Plan}
use Rattle.crew_terms.specs.Verdict.{IsPlanOf}
use Rattle.day_terms.specs.Instances.{day_instance}
use Rattle.day_terms.specs.Work.{jobs_by_names}
use Rattle.route_terms.specs.Named.{IsOfInstance, by_names}
use Rattle.day_audit.specs.Audited.{Audited}
use Rattle.day_audit.proofs.Follows.{followed}
use Rattle.day_audit.proofs.Pools.{pooled_known}
use Rattle.day_audit.proofs.audit.Audit.follow.Goals as goal

pub take-requires : goal.take-requires
take-requires c =
    let o = c.is_between.ensures.true_yes (c.is_between.ensures.ended.1 c.requires.whole) in
    let i = o.0.instance in
    let known : All (IsOfInstance i) o.0.pool = λ k r l. pooled_known i _ (o.2.good.pool k r l) in
    let pool : c.in_ok-pool.pool ≡ o.0.pool = c.in_ok-pool.ensures o.0 o.1 o.2.good in
    subst (λ (x : Instance). All (IsOfInstance x) c.in_ok-pool.pool) (sym (c.instance.ensures o.0 o.1)) (subst (λ (p : List Route). All (IsOfInstance i) p) (sym pool) known)

pub of-requires : goal.of-requires
of-requires c =
    let o = c.is_between.ensures.true_yes (c.is_between.ensures.ended.1 c.requires.whole) in
    subst (λ (x : Instance). IsPlanOf x c.plan.result.now) (sym (c.instance-2.ensures o.0 o.1))
    (subst (λ (p : Plan). IsPlanOf o.0.instance p) (sym (c.plan.ensures.plan o.0 o.1)) (legal_is_plan o.0.instance o.0.plan o.2.legal))

pub planned-requires : goal.planned-requires
planned-requires c =
    let o = c.is_between.ensures.true_yes (c.is_between.ensures.ended.1 c.requires.whole) in
    let desk = c.self.inside.desk in
    let same : o.0.instance ≡ day_instance desk = c.requires.instance o.0 o.1 o.2.good ∙ ap (λ (x : Audited). day_instance x.day) (sym c.self.view_is) in
    record {
      legal = (
        o.0.plan,
        subst (λ (x : Instance). IsLegal x o.0.plan) same o.2.legal,
        c.in_ok-jobs.ensures ∙ ap (λ (x : Instance). jobs_by_names x c.plan.result.now) (c.instance-2.ensures o.0 o.1 ∙ same) ∙ ap (jobs_by_names (day_instance desk)) (c.plan.ensures.plan o.0 o.1),
      );
    }

pub returns-clause-ok : goal.returns-clause-ok
returns-clause-ok c = λ d w g.
    let desk = c.self.inside.desk in
    let same : d.instance ≡ day_instance desk = c.requires.instance d w g ∙ ap (λ (x : Audited). day_instance x.day) (sym c.self.view_is) in
    let jobs : c.in_ok-jobs.jobs ≡ jobs_by_names (day_instance desk) d.plan =
    c.in_ok-jobs.ensures ∙ ap (λ (x : Instance). jobs_by_names x c.plan.result.now) (c.instance-2.ensures d w ∙ same) ∙ ap (jobs_by_names (day_instance desk)) (c.plan.ensures.plan d w) in
    let handed : c.in_ok-carry.carry ≡ map (by_names d.instance) d.pool =
    c.in_ok-carry.ensures ∙ ap (λ (x : Instance). map (by_names x) c.in_ok-pool.pool) (c.instance.ensures d w) ∙ ap (λ (p : List Route). map (by_names d.instance) p) (c.in_ok-pool.ensures d w g) in
    followed c.self.inside c.args.self.now c.self.view_is c.planned.new.self c.in_ok-jobs.jobs c.in_ok-carry.carry d c.planned.ensures jobs handed

pub returns-in_err-pool-clause-ok : goal.returns-in_err-pool-clause-ok
returns-in_err-pool-clause-ok c = λ d w g. IfOk-from_err c.from_residual.result _ c.from_residual.ensures.0

pub returns-in_err-carry-clause-ok : goal.returns-in_err-carry-clause-ok
returns-in_err-carry-clause-ok c = λ d w g. IfOk-from_err c.from_residual-in_err-carry.result _ c.from_residual-in_err-carry.ensures.0

pub returns-in_err-jobs-clause-ok : goal.returns-in_err-jobs-clause-ok
returns-in_err-jobs-clause-ok c = λ d w g. IfOk-from_err c.from_residual-in_err-jobs.result _ c.from_residual-in_err-jobs.ensures.0
