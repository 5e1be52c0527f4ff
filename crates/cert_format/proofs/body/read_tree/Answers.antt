use Rattle.std.proofs.Common.{refl, arith}
use Rattle.std.proofs.lemmas.Int.{ints}
use Rattle.std.specs.Prelude.{codes}
use Rattle.line_in.proofs.Accepted.{none_read, line_of_row}
use Rattle.cert_format.proofs.Wrong.{tree_fields, tree_wrong}
use Rattle.cert_format.proofs.body.read_tree.Goals as goal

pub returns : goal.returns
returns c = (c.if-not-has_shape.ensures, tt, tree_wrong c.args.words (none_read tree_fields c.args.words c.in-Err-fields.fault c.in-Err-fields.ensures.back))

pub returns-2 : goal.returns-2
returns-2 c =
    let row = line_of_row tree_fields (codes "tree") c.args.words c.in-Ok-fields.field-0 (refl, omega (arith, ints), (refl, omega (arith, ints), (refl, omega (arith, ints), (refl, omega (arith, ints), tt)))) c.if-not-has_shape.ensures c.in-Ok-fields.ensures.exact in
    let splits = row.0.2 in
    let closed = row.0.4.2 in
    let left_open = row.0.4.4.2 in
    let depth = row.0.4.4.4.2 in
    (record { splits = omega (arith, ints); closed = omega (arith, ints); left_open = omega (arith, ints); depth = omega (arith, ints) }, row.1)
