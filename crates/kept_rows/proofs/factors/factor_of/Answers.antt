use Rattle.std.proofs.Common.{◌≡◌, ◌+◌, length, rules, arith, FitsSigned, subst, sym, pos, get_or}
use Rattle.std.specs.Int.{w128}
use Rattle.std.proofs.lemmas.Int.{to_z-of_z}
use Rattle.kept_rows.proofs.CommonFactor.{IsFactorTo, factor_more, factor_none, factor_one, factor_all}
use Rattle.kept_rows.proofs.factors.factor_of.Goals as goal

pub loop-a-init : goal.loop-a-init
loop-a-init c = subst (λ g. IsFactorTo c.args.row.now c.args.start 0 g) (sym c.of-factor.ensures) (factor_none c.args.row.now c.args.start)

pub loop-a-preserved : goal.loop-a-preserved
loop-a-preserved c =
    let a : FitsSigned w128 (get_or c.args.row.now c.loop-a.a-index (pos 0)) = search rules in
    let e = simp to_z-of_z at c.with-factor.ensures in
    factor_more c.args.row.now c.args.start c.loop-a.a-index c.loop-a.factor.value c.with-factor.result.value c.loop-a.invariant e

pub returns-then-factor-eq1 : goal.returns-then-factor-eq1
returns-then-factor-eq1 c =
    let a : FitsSigned w128 (get_or c.args.row.now c.loop-a.a-index (pos 0)) = search rules in
    let e = simp to_z-of_z at c.with-factor.ensures in
    let h = factor_more c.args.row.now c.args.start c.loop-a.a-index c.loop-a.factor.value c.with-factor.result.value c.loop-a.invariant e in
    factor_one c.args.row.now c.args.start (c.loop-a.a-index + 1) (omega arith) (subst (λ g. IsFactorTo c.args.row.now c.args.start (c.loop-a.a-index + 1) g) c.if-factor-eq1.true h) c.requires

pub returns : goal.returns
returns c =
    let e : c.loop-a.a-index ≡ length c.args.row.now = omega arith in
    factor_all c.args.row.now c.args.start c.loop-a.factor.value (subst (λ k. IsFactorTo c.args.row.now c.args.start k c.loop-a.factor.value) e c.loop-a.invariant) c.requires
