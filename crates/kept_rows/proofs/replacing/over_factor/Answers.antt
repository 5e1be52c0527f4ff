use Rattle.std.proofs.Common.{◌<◌, subst, sym, arith, pos, FitsSigned}
use Rattle.std.specs.Int.{w128, ◌∣◌}
use Rattle.std.specs.Prelude.{◌<ℤ◌}
use Rattle.std.proofs.lemmas.Int.{to_z-of_z}
use Rattle.std.proofs.lemmas.Nat.Gcd.{le_of_dvd}
use Rattle.kept_rows.proofs.CommonFactor.{divisor_some}
use Rattle.kept_rows.proofs.NewRow.{start_some, start_fits}
use Rattle.kept_rows.proofs.replacing.over_factor.Goals as goal

pub quotient-requires-clause-some : goal.quotient-requires-clause-some
quotient-requires-clause-some c =
    let p : FitsSigned w128 c.args.p = c.ranges.p in
    let q : FitsSigned w128 c.args.e = c.ranges.e in
    let a = simp to_z-of_z at c.unsigned_abs.ensures.value in
    let up : pos 0 <ℤ c.args.p = c.requires in
    let g = subst (λ x. x ∣ c.unsigned_abs.result) (sym c.of-factor.ensures) c.gcd_of.ensures.0 in
    divisor_some c.of-factor.result.value c.unsigned_abs.result g (subst (λ x. 0 < x) (sym a) (start_some c.args.p up))

pub quotient-requires-clause-fits : goal.quotient-requires-clause-fits
quotient-requires-clause-fits c =
    let p : FitsSigned w128 c.args.p = c.ranges.p in
    let a = simp to_z-of_z at c.unsigned_abs.ensures.value in
    let up : pos 0 <ℤ c.args.p = c.requires in
    let g = subst (λ x. x ∣ c.unsigned_abs.result) (sym c.of-factor.ensures) c.gcd_of.ensures.0 in
    let some = subst (λ x. 0 < x) (sym a) (start_some c.args.p up) in
    let le = le_of_dvd some g in
    let f = start_fits c.args.p up p in
    omega (arith, le, f, a)

pub quotient-requires-clause-factor : goal.quotient-requires-clause-factor
quotient-requires-clause-factor c =
    let a = c.unsigned_abs.ensures.value in
    subst (λ y. c.of-factor.result.value ∣ y) a (subst (λ x. x ∣ c.unsigned_abs.result) (sym c.of-factor.ensures) c.gcd_of.ensures.0)

pub quotient-requires-2-clause-fits : goal.quotient-requires-2-clause-fits
quotient-requires-2-clause-fits c =
    let p : FitsSigned w128 c.args.p = c.ranges.p in
    let a = simp to_z-of_z at c.unsigned_abs.ensures.value in
    let up : pos 0 <ℤ c.args.p = c.requires in
    let g = subst (λ x. x ∣ c.unsigned_abs.result) (sym c.of-factor.ensures) c.gcd_of.ensures.0 in
    let some = subst (λ x. 0 < x) (sym a) (start_some c.args.p up) in
    let le = le_of_dvd some g in
    let f = start_fits c.args.p up p in
    omega (arith, le, f, a)

pub quotient-requires-2-clause-factor : goal.quotient-requires-2-clause-factor
quotient-requires-2-clause-factor c =
    let a = c.unsigned_abs-2.ensures.value in
    subst (λ y. c.of-factor.result.value ∣ y) a (subst (λ x. x ∣ c.unsigned_abs-2.result) (sym c.of-factor.ensures) c.gcd_of.ensures.1)
