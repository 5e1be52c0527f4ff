use Rattle.std.proofs.Common.{◌≡◌, ◌≢◌, ◌<◌, ◌≤◌, ◌+◌, ℕ, ◌⊎◌, inl, inr, sym, subst, refl, ◌∙◌, arith, rules, w64}
use Rattle.std.specs.Prelude.{FitsSigned}
use Rattle.std.proofs.lemmas.Bool.{cases_eq}
use Rattle.std.proofs.lemmas.Int.{to_z-of_z}
use Rattle.crew_terms.specs.Limits.{IsPermittedVisit}
use Rattle.label_pricing.specs.Best.{IsBest}
use Rattle.potentials.specs.Table.{phi}
use Rattle.label_pricing.proofs.minutes.fill_task_minutes.Goals as goal

pub loop-t-init : goal.loop-t-init
loop-t-init g c = record {
  table = c.requires.table;
  here = λ t l visit. let m = (c.requires.turn.each t).0 visit in let a = m.0 in absurd (omega arith);
  others = λ h t l. refl;
}

pub label_at-value-requires-clause-visit : goal.label_at-value-requires-clause-visit
label_at-value-requires-clause-visit g c = (c.requires.turn.each c.loop-t.t).1 (omega arith, c.loop-t-test.true)

pub label_at-value-requires-clause-cells : goal.label_at-value-requires-clause-cells
label_at-value-requires-clause-cells g c q u l from to =
    let visit = (c.requires.turn.each c.loop-t.t).1 (omega arith, c.loop-t-test.true) in
    c.requires.cells q u l (let a = c.requires.start c.args.j c.loop-t.t visit in omega arith) to

pub loop-t-preserved : goal.loop-t-preserved
loop-t-preserved g c = record {
  table = c.set.ensures.table c.args.limits.now.limits.instance c.loop-t.invariant.table;
  here = λ s l visit. by s l visit (cases_eq s c.loop-t.t);
  others = λ h s l. c.set.ensures.others h s (λ e. absurd (omega arith)) ∙ c.loop-t.invariant.others h s l;
}
  where
    by : (s : ℕ) → s < c.loop-t.t + 1 → IsPermittedVisit c.args.limits.now.limits c.args.k c.args.j s → (s ≡ c.loop-t.t) ⊎ (s ≡ c.loop-t.t → ⊥)
        → IsBest c.args.limits.now.limits c.args.k (g.R.Rewards.earned c.args.limits.now.limits c.args.prices.now c.args.k) c.args.j s (phi c.set.new.self c.args.j s)
    by s l visit (inl e) =
        let fits : FitsSigned w64 c.label_at-value.result.value = search rules in
        let value = simp to_z-of_z at c.set.ensures.value in
        subst (λ u. IsBest c.args.limits.now.limits c.args.k (g.R.Rewards.earned c.args.limits.now.limits c.args.prices.now c.args.k) c.args.j u (phi c.set.new.self c.args.j u)) (sym e)
        (subst (IsBest c.args.limits.now.limits c.args.k (g.R.Rewards.earned c.args.limits.now.limits c.args.prices.now c.args.k) c.args.j c.loop-t.t) (sym value) c.label_at-value.ensures.best)
    by s l visit (inr d) =
        let ne : s ≢ c.loop-t.t = d in
        let before : s < c.loop-t.t = omega arith in
        subst (IsBest c.args.limits.now.limits c.args.k (g.R.Rewards.earned c.args.limits.now.limits c.args.prices.now c.args.k) c.args.j s) (sym (c.set.ensures.others c.args.j s (λ e. ne)))
        (c.loop-t.invariant.here s before visit)

pub returns-clause-here : goal.returns-clause-here
returns-clause-here g c t visit =
    let m = (c.requires.turn.each t).0 visit in
    let a = m.1 in
    let b = c.loop-t-test.false in
    c.loop-t.invariant.here t (omega arith) visit
