use Rattle.std.proofs.Common.{refl, arith}
use Rattle.std.proofs.lemmas.Int.{ints}
use Rattle.std.specs.Prelude.{codes}
use Rattle.line_in.proofs.Accepted.{none_read, line_of_row}
use Rattle.cert_format.proofs.Wrong.{size_fields, size_wrong}
use Rattle.cert_format.proofs.head.read_size.Goals as goal

pub returns : goal.returns
returns c = (c.if-not-has_shape.ensures, tt, size_wrong c.args.words (none_read size_fields c.args.words c.in-Err-fields.fault c.in-Err-fields.ensures.back))

pub returns-2 : goal.returns-2
returns-2 c =
    let row = line_of_row size_fields (codes "size") c.args.words c.in-Ok-fields.field-0 (refl, omega (arith, ints), (refl, omega (arith, ints), (refl, omega (arith, ints), (refl, omega (arith, ints), tt)))) c.if-not-has_shape.ensures c.in-Ok-fields.ensures.exact in
    let teams = row.0.2 in
    let tasks = row.0.4.2 in
    let places = row.0.4.4.2 in
    let nodes = row.0.4.4.4.2 in
    (record { teams = omega (arith, ints); tasks = omega (arith, ints); places = omega (arith, ints); nodes = omega (arith, ints) }, row.1)
