use Rattle.std.proofs.Common.{refl, arith}
use Rattle.std.proofs.lemmas.Int.{ints}
use Rattle.std.specs.Prelude.{codes}
use Rattle.cert_format.specs.Lines.{WindowShape}
use Rattle.line_in.proofs.Accepted.{none_read, line_of_row, last_below}
use Rattle.cert_format.proofs.Wrong.{below_fields, window_wrong}
use Rattle.cert_format.proofs.nodes.read_window.Goals as goal

pub returns : goal.returns
returns c = λ teams. (
  WindowShape c.if-not-has_shape.ensures,
  tt,
  window_wrong teams c.args.tasks c.args.words _ (last_below c.args.tasks (omega arith)) (omega arith) c.if-not-has_shape.ensures
      (none_read _ c.args.words c.in-Err-fields.fault c.in-Err-fields.ensures.back),
)

pub returns-2 : goal.returns-2
returns-2 c = λ teams.
    let row = line_of_row (below_fields _) (codes "window") c.args.words c.in-Ok-fields.field-0 (refl, omega (arith, ints), (refl, omega (arith, ints), tt)) c.if-not-has_shape.ensures c.in-Ok-fields.ensures.exact in
    let task = row.0.2 in
    let cut = row.0.4.2 in
    let tasks = last_below c.args.tasks (omega arith) in
    (omega (arith, ints), omega (arith, ints), row.1)
