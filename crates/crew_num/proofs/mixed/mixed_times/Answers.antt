use Rattle.std.proofs.Common.{◌≡◌, ◌≤◌, ◌*◌, ℕ, arith, to_z, of_z}
use Rattle.std.specs.Prelude.{ℤ, pos, ◌*ℤ◌, ◌≤ℤ◌}
use Rattle.std.specs.Int.{w64}
use Rattle.std.proofs.lemmas.Int.{ints}
use Rattle.crew_num.specs.declared.mixed.TheConstants.{MOST_FACTOR, MOST_WHOLE}
use Rattle.crew_num.specs.Ring.{not_negative, sum_times}
use Rattle.crew_num.proofs.Parts.{carried}
use Rattle.crew_num.proofs.Products.{product_at_most}
use Rattle.crew_num.proofs.mixed.mixed_times.Goals as goal

-- the product of the wholes, as the code makes it, and its bounds
record IsProduct (a : ℤ) (by : ℕ) : Type 0 where
  is : to_z w64 (of_z w64 (to_z w64 (of_z w64 a) *ℤ to_z w64 by)) ≡ a *ℤ pos by
  least : pos 0 ≤ℤ (a *ℤ pos by)
  most : (a *ℤ pos by) ≤ℤ pos (1099511627776 * 1000000)

made : (a : ℤ) (by : ℕ) → pos 0 ≤ℤ a → a ≤ℤ MOST_WHOLE → by ≤ MOST_FACTOR → IsProduct a by
made a by h k l =
    let least = not_negative a (pos by) h (omega (arith, ints)) in
    let most = product_at_most a by 1099511627776 1000000 h k l in
    let e : to_z w64 (of_z w64 a) ≡ a = omega (arith, ints) in
    let f : to_z w64 by ≡ pos by = omega (arith, ints) in
    record { is = rw (e, f) (omega (arith, ints)); least = least; most = most }

pub overflow_add-result : goal.overflow_add-result
overflow_add-result c =
    let wholes = made c.args.a.whole c.args.by c.requires.a.not_negative c.requires.a.at_most c.requires.by in
    rw wholes.is (omega (arith, ints))

pub returns-clause-value : goal.returns-clause-value
returns-clause-value c =
    let wholes = made c.args.a.whole c.args.by c.requires.a.not_negative c.requires.a.at_most c.requires.by in
    carried _ c.args.a.whole c.args.q c.args.a.part c.args.by _ _ (omega (arith, ints)) c.times_part-parts.ensures.exact

pub returns-clause-mixed : goal.returns-clause-mixed
returns-clause-mixed c =
    let wholes = made c.args.a.whole c.args.by c.requires.a.not_negative c.requires.a.at_most c.requires.by in
    let sum = sum_times c.args.a.whole (pos 1) (pos c.args.by) in
    record { not_negative = omega (arith, ints); at_most = omega (arith, ints); below = c.times_part-parts.ensures.rest }
