use Rattle.std.proofs.Common.{FitsSigned, subst, sym, unsigned_abs}
use Rattle.std.specs.Int.{w128, IsGcd}
use Rattle.std.proofs.lemmas.Int.{to_z-of_z}
use Rattle.kept_rows.proofs.quotients.Factor.with.Goals as goal

pub returns : goal.returns
returns c =
    let a : FitsSigned w128 c.args.a = c.ranges.a in
    let e = simp to_z-of_z at c.unsigned_abs.ensures.value in
    subst (λ v. IsGcd c.args.self.value (unsigned_abs c.args.a) v) (sym c.of.ensures)
    (subst (λ y. IsGcd c.args.self.value y c.gcd_of.result) e c.gcd_of.ensures)
