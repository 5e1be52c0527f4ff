use Rattle.std.proofs.Common.{ℤ, sym, subst, rules}
use Rattle.std.specs.Int.{w128}
use Rattle.std.specs.Prelude.{FitsSigned}
use Rattle.std.proofs.lemmas.Int.{to_z-of_z}
use Rattle.std.proofs.lemmas.Result.{err_from_is_err_and}
use Rattle.cert_format.specs.declared.kinds.Expect.{Expect}
use Rattle.cert_format.specs.declared.kinds.Expect.TheVariants.{Share, Spare}
use Rattle.cert_format.specs.Lines.{IsFaultOf}
use Rattle.cert_format.proofs.read_line.Goals as goal

pub returns-in_err-read_share-in-Share : goal.returns-in_err-read_share-in-Share
returns-in_err-read_share-in-Share c =
    let whole = c.in-Share.whole in
    let fault = c.in_err-read_share-in-Share.field-0.0 in
    let fit : FitsSigned w128 whole = search rules in
    let p = err_from_is_err_and c.from_residual-in_err-read_share-in-Share.result c.from_residual-in_err-read_share-in-Share.ensures.1 in
    rw (p.1, p.2)
    (subst (λ (e : Expect). IsFaultOf e c.args.words fault) (sym c.in-Share.is)
    (subst (λ (z : ℤ). IsFaultOf (Share c.in-Share.columns z) c.args.words fault) (to_z-of_z w128 whole fit) c.in_err-read_share-in-Share.ensures))

pub returns-in_err-read_spare-in-Spare : goal.returns-in_err-read_spare-in-Spare
returns-in_err-read_spare-in-Spare c =
    let whole = c.in-Spare.whole in
    let fault = c.in_err-read_spare-in-Spare.field-0.0 in
    let fit : FitsSigned w128 whole = search rules in
    let p = err_from_is_err_and c.from_residual-in_err-read_spare-in-Spare.result c.from_residual-in_err-read_spare-in-Spare.ensures.1 in
    rw (p.1, p.2)
    (subst (λ (e : Expect). IsFaultOf e c.args.words fault) (sym c.in-Spare.is)
    (subst (λ (z : ℤ). IsFaultOf (Spare c.in-Spare.tasks z) c.args.words fault) (to_z-of_z w128 whole fit) c.in_err-read_spare-in-Spare.ensures))
