use Rattle.std.proofs.Common.{◌<◌, ◌^◌, rules, arith, FitsSigned, subst, sym, pos, get_or, unsigned_abs}
use Rattle.std.specs.Int.{w128, ◌∣◌}
use Rattle.std.proofs.lemmas.Int.{to_z-of_z}
use Rattle.std.proofs.lemmas.Nat.Gcd.{le_of_dvd}
use Rattle.kept_rows.proofs.CommonFactor.{divided_all, divisor_some}
use Rattle.kept_rows.proofs.factors.divide.Goals as goal

pub quotient-requires-clause-some : goal.quotient-requires-clause-some
quotient-requires-clause-some c =
    let d = c.requires.covered c.factor_of.result c.factor_of.ensures.divides in
    subst (λ g. 0 < g) (sym c.of-factor.ensures) (divisor_some c.factor_of.result c.args.start d c.requires.some)

pub quotient-requires-clause-fits : goal.quotient-requires-clause-fits
quotient-requires-clause-fits c =
    let d = c.requires.covered c.factor_of.result c.factor_of.ensures.divides in
    let le = le_of_dvd c.requires.some d in
    subst (λ g. g < 2 ^ 127) (sym c.of-factor.ensures) (omega (arith, le, c.requires.fits))

pub quotient-requires-clause-factor : goal.quotient-requires-clause-factor
quotient-requires-clause-factor c =
    let a : FitsSigned w128 (get_or c.loop-j.row c.loop-j.j (pos 0)) = search rules in
    let same = c.loop-j.invariant.kept c.loop-j.j (omega arith) in
    let d = subst (λ y. c.factor_of.result ∣ unsigned_abs y) (sym same) (c.factor_of.ensures.divides c.loop-j.j (omega arith)) in
    rw (to_z-of_z w128 (get_or c.loop-j.row c.loop-j.j (pos 0)) a) (subst (λ g. g ∣ unsigned_abs (get_or c.loop-j.row c.loop-j.j (pos 0))) (sym c.of-factor.ensures) d)

pub returns : goal.returns
returns c =
    let d = c.requires.covered c.factor_of.result c.factor_of.ensures.divides in
    divided_all c.args.row.now c.loop-j.row c.factor_of.result c.of-factor.result.value c.loop-j.j c.of-factor.ensures (divisor_some c.factor_of.result c.args.start d c.requires.some)
    c.factor_of.ensures (search rules) (omega arith) c.loop-j.invariant
