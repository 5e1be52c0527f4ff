use Rattle.std.proofs.Common.{◌≡◌, ◌-◌, ◌*◌, length, ap, sym, ◌∙◌, subst, arith, w64, to_z, of_z}
use Rattle.std.specs.Prelude.{FitsSigned, ◌+ℤ◌, ◌≤ℤ◌, pos}
use Rattle.std.proofs.lemmas.Int.{ints, to_z-of_z}
use Rattle.crew_terms.specs.declared.TheConstants.{MOST_PRICE}
use Rattle.crew_terms.specs.Instance.{Instance}
use Rattle.label_pricing.specs.Cells.{IsGrid}
use Rattle.label_pricing.specs.Best.{IsBest, IsAfter}
use Rattle.potentials.specs.Sums.{IsBoundedBy}
use Rattle.label_pricing.proofs.Best.{best_from_after}
use Rattle.label_pricing.proofs.Onward.{small_after, task_is}
use Rattle.label_pricing.proofs.after.label_at.Given.{Over}
use Rattle.label_pricing.proofs.after.label_at.Goals as goal

pub after-next-requires : goal.after-next-requires
after-next-requires g c =
    let n = c.args.limits.now.limits in
    let task = task_is n.instance c.args.j c.instance.ensures.is_instance c.requires.visit.known in
    let same = ap (λ (i : Instance). length i.places) c.instance.ensures.instance in
    let a = task.place in
    let b = task.window.some_minutes in
    let d = task.window.minutes in
    let e = c.requires.turn.place in
    let f = c.requires.turn.minutes in
    let g = c.requires.end c.args.j c.args.t c.requires.visit in
    let h = c.requires.day in
    let i = c.requires.grid in
    let few = i.few in
    record {
      place = omega arith;
      some_minutes = omega arith;
      minutes = omega arith;
      minute = omega arith;
      end = omega arith;
      grid = subst (λ P. IsGrid P c.args.grid.now) (sym same) i;
    }

module _ (g : Over) (c : goal.After-struct_told-1 g) where
  next : IsAfter c.args.limits.now.limits c.args.k (g.R.Rewards.earned c.args.limits.now.limits c.args.prices.now c.args.k) c.args.j c.args.t c.after-next.result
  next = c.after-next.ensures c.args.limits.now.limits c.args.k (g.R.Rewards.earned c.args.limits.now.limits c.args.prices.now c.args.k) (sym c.instance.ensures.instance) c.requires.turn c.requires.end c.requires.cells

  small : c.after-next.result.value ≤ℤ pos ((2880 - c.args.t) * (2 * MOST_PRICE))
  small = small_after c.args.limits.now.limits c.args.k (g.R.Rewards.earned c.args.limits.now.limits c.args.prices.now c.args.k) c.reward.ensures.range c.instance.ensures.is_instance c.args.end c.requires.end c.requires.day c.args.j c.args.t c.after-next.result
      c.requires.visit.known (c.requires.end c.args.j c.args.t c.requires.visit) next

  earned_bounded : IsBoundedBy (2 * MOST_PRICE) c.reward.result
  earned_bounded = subst (IsBoundedBy (2 * MOST_PRICE)) (sym c.reward.ensures.reward) (c.reward.ensures.range c.args.j c.args.t)

  earned_fits : FitsSigned w64 c.reward.result
  earned_fits = let a = earned_bounded.least in let b = earned_bounded.most in omega (arith, ints)

  next_fits : FitsSigned w64 c.after-next.result.value
  next_fits = let a = small in let b = next.label.least in omega (arith, ints)

  sum_fits : FitsSigned w64 (c.reward.result +ℤ c.after-next.result.value)
  sum_fits = let a = small in let b = next.label.least in let d = earned_bounded.least in let e = earned_bounded.most in omega (arith, ints)

  inner : to_z w64 (of_z w64 c.reward.result) +ℤ to_z w64 (of_z w64 c.after-next.result.value) ≡ c.reward.result +ℤ c.after-next.result.value
  inner = let a = to_z-of_z w64 c.reward.result earned_fits in let b = to_z-of_z w64 c.after-next.result.value next_fits in cc

pub overflow_add-result : goal.overflow_add-result
overflow_add-result g c = subst (FitsSigned w64) (sym (inner g c)) (sum_fits g c)

pub returns-clause-best : goal.returns-clause-best
returns-clause-best g c =
    subst (IsBest c.args.limits.now.limits c.args.k (g.R.Rewards.earned c.args.limits.now.limits c.args.prices.now c.args.k) c.args.j c.args.t)
    (sym (ap (λ v. to_z w64 (of_z w64 v)) (inner g c) ∙ to_z-of_z w64 (c.reward.result +ℤ c.after-next.result.value) (sum_fits g c) ∙ ap (λ v. v +ℤ c.after-next.result.value) c.reward.ensures.reward))
    (best_from_after c.args.limits.now.limits c.args.k (g.R.Rewards.earned c.args.limits.now.limits c.args.prices.now c.args.k) c.args.j c.args.t c.after-next.result c.requires.visit (next g c))
