use Rattle.std.proofs.Common.{◌≡◌, ap, sym, ◌∙◌, arith, inl, inr}
use Rattle.std.proofs.lemmas.Bool.{cases_lt}
use Rattle.leaf_check.specs.Keys.{has_minutes}
use Rattle.leaf_check.proofs.keys.next_open.Goals as goal

pub loop-j-preserved : goal.loop-j-preserved
loop-j-preserved c = λ i a b. elim (cases_lt i c.loop-j.j) [
  | inl l ↦ c.loop-j.invariant i a l
  | inr l ↦ (let e : i ≡ c.loop-j.j = omega arith in ap (has_minutes c.args.limits.now.limits c.args.k) e ∙ sym c.is_open.ensures ∙ c.if-is_open.false)
]
