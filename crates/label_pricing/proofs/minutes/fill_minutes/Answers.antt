use Rattle.std.proofs.Common.{◌≡◌, ◌≢◌, ◌<◌, ◌+◌, ℕ, ◌⊎◌, inl, inr, length, ap, sym, subst, arith}
use Rattle.std.proofs.lemmas.Bool.{cases_eq}
use Rattle.crew_terms.specs.Limits.{IsPermittedVisit}
use Rattle.label_pricing.specs.Best.{IsBest}
use Rattle.potentials.specs.Table.{phi}
use Rattle.label_pricing.proofs.minutes.fill_minutes.Goals as goal

pub loop-j-preserved : goal.loop-j-preserved
loop-j-preserved g c = record {
  table = c.fill_task_minutes.ensures.table;
  best = λ i t l visit. by i t l visit (cases_eq i c.loop-j.j);
}
  where
    by : (i t : ℕ) → i < c.loop-j.j + 1 → IsPermittedVisit c.args.limits.now.limits c.args.k i t → (i ≡ c.loop-j.j) ⊎ (i ≡ c.loop-j.j → ⊥)
        → IsBest c.args.limits.now.limits c.args.k (g.R.Rewards.earned c.args.limits.now.limits c.args.prices.now c.args.k) i t (phi c.fill_task_minutes.new.table i t)
    by i t l visit (inl e) =
        subst (λ h. IsBest c.args.limits.now.limits c.args.k (g.R.Rewards.earned c.args.limits.now.limits c.args.prices.now c.args.k) h t (phi c.fill_task_minutes.new.table h t)) (sym e)
        (c.fill_task_minutes.ensures.here t (subst (λ h. IsPermittedVisit c.args.limits.now.limits c.args.k h t) e visit))
    by i t l visit (inr d) =
        let before : i < c.loop-j.j = let ne : i ≢ c.loop-j.j = d in omega arith in
        subst (IsBest c.args.limits.now.limits c.args.k (g.R.Rewards.earned c.args.limits.now.limits c.args.prices.now c.args.k) i t) (sym (c.fill_task_minutes.ensures.others i t before)) (c.loop-j.invariant.best i t before visit)

pub returns-clause-best : goal.returns-clause-best
returns-clause-best g c j t visit =
    let known = visit.known in
    let a = c.loop-j-test.false in
    let b = c.tasks-j-end.ensures.count in
    let e = ap (λ i. length i.tasks) c.instance.ensures.instance in
    c.loop-j.invariant.best j t (omega arith) visit
