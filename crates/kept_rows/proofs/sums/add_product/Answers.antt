use Rattle.std.proofs.Common.{◌≡◌, ◌∙◌, inr, ap, FitsSigned, ℤ, ◌*ℤ◌, to_z, of_z}
use Rattle.std.proofs.lemmas.Result.{err_from_is_err_and}
use Rattle.std.proofs.lemmas.Int.{to_z-of_z}
use Rattle.std.specs.Int.{w128}
use Rattle.crew_num.specs.declared.Op.TheVariants.{Add}
use Rattle.crew_num.specs.declared.Overflow.{Overflow}
use Rattle.crew_num.specs.Exact.{FitsI128, IsOverflow, fault}
use Rattle.kept_rows.specs.Sums.{IsAddFault}
use Rattle.kept_rows.proofs.sums.add_product.Goals as goal

at_sum : (sum a b x : ℤ) (f : Overflow) → x ≡ a *ℤ b → FitsI128 (a *ℤ b) → f ≡ fault Add sum (to_z w128 (of_z w128 x)) → IsOverflow f → IsAddFault sum a b f
at_sum sum a b x f e h is leaves = record {
  leaves = leaves;
  how = inr (is ∙ ap (fault Add sum) (ap (λ z. to_z w128 (of_z w128 z)) e ∙ to_z-of_z w128 (a *ℤ b) h), h);
}

pub returns-in_err-more : goal.returns-in_err-more
returns-in_err-more c =
    let q = err_from_is_err_and c.from_residual-in_err-more.result c.from_residual-in_err-more.ensures.1 in
    let fs : FitsSigned w128 c.args.sum = c.ranges.sum in
    let fa : FitsSigned w128 c.args.a = c.ranges.a in
    let fb : FitsSigned w128 c.args.b = c.ranges.b in
    let x = simp to_z-of_z at c.in_ok-product.ensures in
    let y = rw (to_z-of_z w128 c.args.sum fs) at c.in_err-more.ensures in
    rw (q.1, q.2) (at_sum c.args.sum c.args.a c.args.b c.in_ok-product.product c.in_err-more.field-0.0 x.0 x.1 y.0 y.1)
