use Rattle.std.proofs.Common.{rules, arith, FitsSigned, below_more}
use Rattle.std.specs.Int.{w128}
use Rattle.std.proofs.lemmas.Int.{to_z-of_z}
use Rattle.std.proofs.lemmas.Result.{err_from_is_err_and}
use Rattle.crew_num.specs.Exact.{StepsFit}
use Rattle.search_terms.specs.Rows.{number}
use Rattle.kept_rows.specs.Columns.{full}
use Rattle.kept_rows.proofs.Formed.{formed_fits, formed_steps, formed_fault}
use Rattle.kept_rows.proofs.clearing.form_all.Goals as goal

pub entry-requires-clause-fits : goal.entry-requires-clause-fits
entry-requires-clause-fits c = formed_fits c.args.columns.now c.args.row.now c.loop-column.column-index c.column-item.result (omega arith) c.column-item.is c.requires.row.fits

pub entry-requires-in-loop-column-clause-fits : goal.entry-requires-in-loop-column-clause-fits
entry-requires-in-loop-column-clause-fits c = formed_fits c.args.columns.now c.args.pivot.now c.loop-column.column-index c.column-item.result (omega arith) c.column-item.is c.requires.pivot.fits

pub returns-in_err-_number : goal.returns-in_err-_number
returns-in_err-_number c =
    let p : FitsSigned w128 c.args.p = c.ranges.p in
    let e : FitsSigned w128 c.args.e = c.ranges.e in
    let x : FitsSigned w128 c.entry.result = search rules in
    let y : FitsSigned w128 c.entry-in-loop-column.result = search rules in
    let q = err_from_is_err_and c.from_residual.result c.from_residual.ensures.1 in
    let h = rw (to_z-of_z w128 c.args.p p, to_z-of_z w128 c.args.e e, to_z-of_z w128 c.entry.result x, to_z-of_z w128 c.entry-in-loop-column.result y) at c.in_err-_number.ensures in
    rw (q.1, q.2) (formed_fault c.args.columns.now c.args.row.now c.args.pivot.now c.args.v c.args.p c.args.e c.entry.result c.entry-in-loop-column.result
    c.loop-column.column-index c.column-item.result c.in_err-_number.field-0.0 (omega arith) c.column-item.is c.entry.ensures c.entry-in-loop-column.ensures
    c.requires.p c.requires.e (rw (to_z-of_z w128 c.args.p p, to_z-of_z w128 c.args.e e) at c.loop-column.invariant) h.0 h.1)

pub loop-column-preserved : goal.loop-column-preserved
loop-column-preserved c =
    let p : FitsSigned w128 c.args.p = c.ranges.p in
    let e : FitsSigned w128 c.args.e = c.ranges.e in
    let x : FitsSigned w128 c.entry.result = search rules in
    let y : FitsSigned w128 c.entry-in-loop-column.result = search rules in
    let h = rw (to_z-of_z w128 c.args.p p, to_z-of_z w128 c.args.e e, to_z-of_z w128 c.entry.result x, to_z-of_z w128 c.entry-in-loop-column.result y) at c.in_ok-_number.ensures in
    rw (to_z-of_z w128 c.args.p p, to_z-of_z w128 c.args.e e)
    (below_more (λ j. StepsFit c.args.p (number (full c.args.columns.now c.args.row.now) j) c.args.e (number (full c.args.columns.now c.args.pivot.now) j)) c.loop-column.column-index
    (rw (to_z-of_z w128 c.args.p p, to_z-of_z w128 c.args.e e) at c.loop-column.invariant)
    (formed_steps c.args.columns.now c.args.row.now c.args.pivot.now c.args.p c.args.e c.entry.result c.entry-in-loop-column.result
    c.loop-column.column-index c.column-item.result (omega arith) c.column-item.is c.entry.ensures c.entry-in-loop-column.ensures h.1))

pub returns : goal.returns
returns c =
    let p : FitsSigned w128 c.args.p = c.ranges.p in
    let e : FitsSigned w128 c.args.e = c.ranges.e in
    let inv = rw (to_z-of_z w128 c.args.p p, to_z-of_z w128 c.args.e e) at c.loop-column.invariant in
    λ j lt. inv j (omega arith)
