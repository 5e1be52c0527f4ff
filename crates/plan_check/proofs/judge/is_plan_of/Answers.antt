use Rattle.std.proofs.Common.{◌≡◌, ◌≤◌, ◌<◌, ◌+◌, ◌⊎◌, inl, inr, ℕ, length, get_or, arith, refl, subst, sym, ap, ◌∙◌, eqb-true, eq-eqb, Option, None, Some}
use Rattle.std.specs.List.{All}
use Rattle.std.proofs.lemmas.Bool.{cases_lt}
use Rattle.std.proofs.lemmas.List.Elements.{All-contains, Contains-get_or}
use Rattle.crew_terms.specs.Instance.{Instance}
use Rattle.crew_terms.specs.Plan.{Plan, Job, job_of, Does}
use Rattle.crew_terms.specs.Nodes.{job_known}
use Rattle.crew_terms.specs.Verdict.{IsPlanOf}
use Rattle.crew_instance.specs.Teams.{job_teams}
use Rattle.plan_check.proofs.judge.is_plan_of.Goals as goal

-- one more task whose teams are known
known_more : (p : Plan) (n m : ℕ) → ((k j t : ℕ) → j < m → Does p k j t → k < n) → All (λ k. k < n) (job_teams (job_of p m)) → (k j t : ℕ) → j < m + 1 → Does p k j t → k < n
known_more p n m before here k j t l (job, e, s, c) = at (cases_lt j m)
  where
    at : (j < m) ⊎ (m ≤ j) → k < n
    at (inl h) = before k j t h (job, e, s, c)
    at (inr h) =
        let f : m ≡ j = omega arith in
        let all : All (λ x. x < n) job.teams = subst (All (λ x. x < n)) (ap (λ i. job_teams (job_of p i)) f ∙ ap job_teams e) here in
        All-contains (λ x. x < n) job.teams k all c

-- the teams of a plan are known
all_known : (i : Instance) (p : Plan) (j : ℕ) → IsPlanOf i p → (o : Option Job) → job_of p j ≡ o → All (λ k. k < length i.teams) (job_teams o)
all_known i p j of None e k d l = absurd (omega arith)
all_known i p j of (Some job) e k d l = of.known (get_or job.teams k d) j job.start (job, e, refl, Contains-get_or job.teams k d l)

pub loop-j-preserved : goal.loop-j-preserved
loop-j-preserved c =
    let all : All (λ k. k < length c.args.instance.now.teams) c.teams.result.now =
    subst (λ n. All (λ k. k < n) c.teams.result.now) c.teams-in-loop-j.ensures.count (c.are_below.ensures.0 c.if-not-are_below.false) in
    known_more c.args.plan.now (length c.args.instance.now.teams) c.loop-j.j c.loop-j.invariant (subst (All (λ k. k < length c.args.instance.now.teams)) c.teams.ensures all)

pub returns-then-not-are_below : goal.returns-then-not-are_below
returns-then-not-are_below c = (
  (λ t. cc),
  (λ of.
      let i = c.args.instance.now in
      let j = c.loop-j.j in
      let all = all_known i c.args.plan.now j of (job_of c.args.plan.now j) refl in
      let these : All (λ k. k < length i.teams) c.teams.result.now = subst (All (λ k. k < length i.teams)) (sym c.teams.ensures) all in
      let below = c.are_below.ensures.1 (subst (λ n. All (λ k. k < n) c.teams.result.now) (sym c.teams-in-loop-j.ensures.count) these) in
      let false' = c.if-not-are_below.true in
      cc),
)

pub returns : goal.returns
returns c = (
  (λ e. record {
    whole = sym c.len.ensures.count ∙ eqb-true c.len.result c.tasks.result e ∙ c.tasks.ensures.count;
    known = λ k j t (job, at, s, h). c.loop-j.invariant k j t (let a = job_known c.args.plan.now j job at in let b = c.loop-j-test.false in let d = c.len-j-end.ensures.count in omega arith) (job, at, s, h);
  }),
  (λ of. eq-eqb c.len.result c.tasks.result (c.len.ensures.count ∙ of.whole ∙ sym c.tasks.ensures.count)),
)
