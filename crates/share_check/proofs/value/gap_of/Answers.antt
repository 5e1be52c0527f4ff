use Rattle.std.proofs.Common.{◌≡◌, ◌*◌, pos, ap, ◌∙◌, arith}
use Rattle.std.proofs.lemmas.Int.{ints}
use Rattle.std.specs.Prelude.{◌-ℤ◌, ◌*ℤ◌, unsigned_abs}
use Rattle.crew_num.specs.Mixed.{value}
use Rattle.share_check.proofs.Parts.{distance_is, times_is}
use Rattle.share_check.proofs.value.gap_of.Goals as goal

pub returns-clause-exact : goal.returns-clause-exact
returns-clause-exact c = λ n h.
    let whole = c.args.whole in
    let share = c.args.share in
    let needed = c.args.needed in
    let below = c.if-sum-ge-MANY.false in
    let exact = h.exact (omega (arith, ints)) in
    let wanted : value c.mixed_times-wanted.result whole ≡ pos (needed * share) = c.mixed_times-wanted.ensures.value ∙ ap (λ z. z *ℤ pos needed) c.share_of.ensures.value ∙ times_is share needed in
    c.mixed_gap.ensures.value ∙ ap (λ z. pos (unsigned_abs (z -ℤ value c.args.sum whole))) wanted ∙ ap (λ z. pos (unsigned_abs (pos (needed * share) -ℤ z))) exact
    ∙ ap pos (distance_is (needed * share) n)

pub returns-clause-mixed : goal.returns-clause-mixed
returns-clause-mixed c =
    let mixed = c.mixed_gap.ensures.mixed in
    let times = c.mixed_times-wanted.ensures.mixed in
    let one = c.share_of.ensures.mixed in
    let low = c.requires.sum.1.mixed in
    record { not_negative = mixed.not_negative; at_most = grind (arith, ints, mixed, times, one, low); below = mixed.below }
