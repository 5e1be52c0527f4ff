use Rattle.std.proofs.Common.{◌≡◌, ◌≤◌, ◌<◌, ◌+◌, ◌⊎◌, inl, inr, ℕ, length, arith, subst, sym, ap, ◌∙◌, eqb-true}
use Rattle.std.specs.List.{All}
use Rattle.std.proofs.lemmas.Bool.{cases_lt}
use Rattle.std.proofs.lemmas.List.Elements.{All-contains}
use Rattle.crew_terms.specs.Plan.{Plan, job_of, Does}
use Rattle.crew_terms.specs.Nodes.{job_known}
use Rattle.crew_instance.specs.Teams.{job_teams}
use Rattle.crew_fixtures.proofs.plans.is_plan_of.Goals as goal

known_more : (p : Plan) (n m : ℕ) → ((k j t : ℕ) → j < m → Does p k j t → k < n) → All (λ k. k < n) (job_teams (job_of p m)) → (k j t : ℕ) → j < m + 1 → Does p k j t → k < n
known_more p n m before here k j t l (job, e, s, c) = at (cases_lt j m)
  where
    at : (j < m) ⊎ (m ≤ j) → k < n
    at (inl h) = before k j t h (job, e, s, c)
    at (inr h) =
        let f : m ≡ j = omega arith in
        let all : All (λ x. x < n) job.teams = subst (All (λ x. x < n)) (ap (λ i. job_teams (job_of p i)) f ∙ ap job_teams e) here in
        All-contains (λ x. x < n) job.teams k all c

pub loop-j-preserved : goal.loop-j-preserved
loop-j-preserved c =
    let all : All (λ k. k < length c.args.instance.now.teams) c.teams.result.now =
    subst (λ n. All (λ k. k < n) c.teams.result.now) c.teams-in-loop-j.ensures.count (c.are_below.ensures.0 c.if-not-are_below.false) in
    known_more c.args.plan.now (length c.args.instance.now.teams) c.loop-j.j c.loop-j.invariant (subst (All (λ k. k < length c.args.instance.now.teams)) c.teams.ensures all)

pub returns : goal.returns
returns c = λ e. record {
  whole = sym c.len.ensures.count ∙ eqb-true c.len.result c.tasks.result e ∙ c.tasks.ensures.count;
  known = λ k j t (job, at, s, h). c.loop-j.invariant k j t (let a = job_known c.args.plan.now j job at in let b = c.loop-j-test.false in let d = c.len-j-end.ensures.count in omega arith) (job, at, s, h);
}
