use Rattle.std.proofs.Common.{refl, arith}
use Rattle.std.proofs.lemmas.Int.{ints}
use Rattle.std.specs.Prelude.{codes}
use Rattle.line_in.proofs.Accepted.{none_read, longer_line_of_row, last_below}
use Rattle.cert_format.proofs.Wrong.{below_fields, job_wrong}
use Rattle.cert_format.proofs.body.read_job.Goals as goal

pub returns : goal.returns
returns c = (
  c.if-not-has_shape_from.ensures,
  tt,
  job_wrong c.args.teams c.args.tasks c.args.words _ (last_below c.args.tasks (omega arith)) (omega arith) (none_read _ c.args.words c.in-Err-fields.fault c.in-Err-fields.ensures.back),
)

pub returns-2 : goal.returns-2
returns-2 c =
    let rest = c.in_ok-teams.ensures in
    let row = longer_line_of_row (below_fields _) (codes "do") c.args.words c.in-Ok-fields.field-0 rest.0 (refl, omega (arith, ints), (refl, omega (arith, ints), tt)) c.if-not-has_shape_from.ensures c.in-Ok-fields.ensures.exact rest.2.spelled in
    let task = row.0.2 in
    let start = row.0.4.2 in
    let tasks = last_below c.args.tasks (omega arith) in
    (rest.0, rest.1, record { task = omega (arith, ints); start = omega (arith, ints); teams = rest.2.below }, row.1)
