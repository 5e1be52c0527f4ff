use Rattle.std.proofs.Common.{ℤ, sym, subst, ◌∙◌, rules, to_z, of_z}
use Rattle.std.specs.Int.{w128}
use Rattle.std.specs.Prelude.{FitsSigned}
use Rattle.std.proofs.lemmas.Int.{to_z-of_z}
use Rattle.crew_num.specs.Exact.{IsExact}
use Rattle.cert_checker.proofs.CauseRows.{overflow_is}
use Rattle.cert_checker.proofs.cause.overflows.Goals as goal

pub returns : goal.returns
returns c =
    let f = c.args.fault in
    let first : FitsSigned w128 f.a = search rules in
    let second : FitsSigned w128 f.b = search rules in
    let exact : IsExact c.exactly.result f.op f.a f.b =
    subst (λ (z : ℤ). IsExact c.exactly.result f.op z f.b) (to_z-of_z w128 f.a first)
    (subst (λ (z : ℤ). IsExact c.exactly.result f.op (to_z w128 (of_z w128 f.a)) z) (to_z-of_z w128 f.b second) c.exactly.ensures) in
    let h = overflow_is c.exactly.result f exact in
    (λ e. h.0 (sym c.is_err.ensures.value ∙ e), λ leaves. c.is_err.ensures.value ∙ h.1 leaves)
