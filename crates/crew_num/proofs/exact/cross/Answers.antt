use Rattle.std.proofs.Common.{◌≡◌, ◌∙◌, ap, FitsSigned, ℤ, ◌*ℤ◌, to_z, of_z}
use Rattle.std.proofs.lemmas.Result.{err_from_is_err_and}
use Rattle.std.proofs.lemmas.Int.{to_z-of_z}
use Rattle.std.specs.Int.{w128}
use Rattle.crew_num.specs.declared.exact.Op.TheVariants.{Sub}
use Rattle.crew_num.specs.declared.exact.Overflow.{Overflow}
use Rattle.crew_num.specs.Exact.{IsFirstOf, FitsI128, IsOverflow, fault}
use Rattle.crew_num.specs.Exact.IsFirstOf.{Rest}
use Rattle.crew_num.proofs.exact.cross.Goals as goal

at_difference : (p a e b x y : ℤ) (f : Overflow) → x ≡ p *ℤ a → FitsI128 (p *ℤ a) → y ≡ e *ℤ b → FitsI128 (e *ℤ b)
    → f ≡ fault Sub (to_z w128 (of_z w128 x)) (to_z w128 (of_z w128 y)) → IsOverflow f → IsOverflow f × IsFirstOf p a e b f
at_difference p a e b x y f ex h ey k is leaves =
    let one : to_z w128 (of_z w128 x) ≡ p *ℤ a = ap (λ z. to_z w128 (of_z w128 z)) ex ∙ to_z-of_z w128 (p *ℤ a) h in
    let two : to_z w128 (of_z w128 y) ≡ e *ℤ b = ap (λ z. to_z w128 (of_z w128 z)) ey ∙ to_z-of_z w128 (e *ℤ b) k in
    (leaves, Rest h k (is ∙ ap (λ z. fault Sub z (to_z w128 (of_z w128 y))) one ∙ ap (fault Sub (p *ℤ a)) two))

pub returns-in_err-rest : goal.returns-in_err-rest
returns-in_err-rest c =
    let q = err_from_is_err_and c.from_residual-in_err-rest.result c.from_residual-in_err-rest.ensures.1 in
    let fp : FitsSigned w128 c.args.p = c.ranges.p in
    let fa : FitsSigned w128 c.args.a = c.ranges.a in
    let fe : FitsSigned w128 c.args.e = c.ranges.e in
    let fb : FitsSigned w128 c.args.b = c.ranges.b in
    let x = simp to_z-of_z at c.in_ok-raised.ensures in
    let y = simp to_z-of_z at c.in_ok-taken.ensures in
    rw (q.1, q.2) (at_difference c.args.p c.args.a c.args.e c.args.b c.in_ok-raised.raised c.in_ok-taken.taken c.in_err-rest.field-0.0
    x.0 x.1 y.0 y.1 c.in_err-rest.ensures.0 c.in_err-rest.ensures.1)
