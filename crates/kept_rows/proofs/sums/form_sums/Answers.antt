use Rattle.std.proofs.Common.{◌<◌, ◌≤◌, ◌∙◌, [], ap, sym, subst, rules, arith, FitsSigned, length, below_more}
use Rattle.std.specs.Int.{w128}
use Rattle.std.proofs.lemmas.List.{get_or-map, get_or_default, length-map}
use Rattle.std.proofs.lemmas.Result.{err_from_is_err_and}
use Rattle.crew_num.specs.Exact.{FitsI128}
use Rattle.kept_rows.specs.Clearing.{at_row}
use Rattle.kept_rows.specs.Forming.{IsRunningFault, sum_of}
use Rattle.kept_rows.specs.Table.{rows_of}
use Rattle.kept_rows.proofs.Listed.{all_at, forming_at}
use Rattle.kept_rows.proofs.sums.form_sums.Goals as goal

pub running_sum-requires : goal.running_sum-requires
running_sum-requires c =
    let a = all_at (λ row. length c.args.numbers.now ≤ length row) c.args.rows.now c.loop-row.row-index c.row-item.result (omega arith) c.row-item.is c.requires in
    subst (λ row. length c.args.numbers.now ≤ length row) (sym c.deref.ensures.value) a

pub returns-in_err-_sum : goal.returns-in_err-_sum
returns-in_err-_sum c =
    let q = err_from_is_err_and c.from_residual.result c.from_residual.ensures.1 in
    let f = subst (λ row. IsRunningFault row c.args.numbers.now c.in_err-_sum.field-0.0) c.deref.ensures.value c.in_err-_sum.ensures in
    rw (q.1, q.2) (forming_at c.args.rows.now c.args.numbers.now c.loop-row.row-index c.row-item.result c.in_err-_sum.field-0.0 (omega arith) c.row-item.is f)

pub loop-row-preserved : goal.loop-row-preserved
loop-row-preserved c =
    let numbers = c.args.numbers.now in
    let rows = c.args.rows.now in
    let i = c.loop-row.row-index in
    let z : FitsSigned w128 c.in_ok-_sum._sum = search rules in
    let lt : i < length rows = omega arith in
    let row = get_or-map (λ row. row.items) rows i c.row-item.result [] lt ∙ ap (λ row. row.items) (sym c.row-item.is) ∙ sym c.deref.ensures.value in
    below_more (λ k. FitsI128 (sum_of (length numbers) (at_row (rows_of rows) k) numbers)) i c.loop-row.invariant
    (subst FitsI128 (c.in_ok-_sum.ensures ∙ ap (λ row. sum_of (length numbers) row numbers) (sym row)) z)

pub returns : goal.returns
returns c = λ k d lt.
    let numbers = c.args.numbers.now in
    let in' : k < length c.args.rows.now = omega (arith, length-map c.args.rows.now (λ row. row.items)) in
    subst (λ row. FitsI128 (sum_of (length numbers) row numbers)) (get_or_default (rows_of c.args.rows.now) k [] d lt) (c.loop-row.invariant k (omega arith))
