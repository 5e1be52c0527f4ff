use Rattle.std.proofs.Common.{◌≡◌, ◌<◌, ◌+◌, ◌⊎◌, inl, inr, ℕ, arith}
use Rattle.std.proofs.lemmas.Bool.{cases_lt}
use Rattle.plan_builder.proofs.Filled.{filled_more}
use Rattle.plan_builder.proofs.schedule.Schedule.pass.Goals as goal

last_or_before : (j h : ℕ) → h < j + 1 → (h < j) ⊎ (h ≡ j)
last_or_before j h l = elim (cases_lt h j) [ inl m ↦ inl m | inr m ↦ inr (omega arith) ]

pub loop-j-preserved : goal.loop-j-preserved
loop-j-preserved c =
    filled_more c.args.self.now c.loop-j.self c.place.new.self (λ h. h < c.loop-j.j) (λ h. h ≡ c.loop-j.j) (λ h. h < c.loop-j.j + 1)
    (last_or_before c.loop-j.j) c.loop-j.invariant c.in_ok-place.ensures
