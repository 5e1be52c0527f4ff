use Rattle.std.proofs.Common.{refl, arith, ◌∷◌, []}
use Rattle.std.proofs.lemmas.Int.{ints}
use Rattle.std.specs.Prelude.{codes}
use Rattle.cert_format.specs.Lines.{PairShape}
use Rattle.line_in.proofs.Accepted.{number_field, none_read, line_of_row, last_below}
use Rattle.cert_format.proofs.Wrong.{pair_wrong}
use Rattle.cert_format.proofs.nodes.read_pair.Goals as goal

pub returns : goal.returns
returns c = (
  PairShape c.if-not-has_shape.ensures,
  tt,
  pair_wrong c.args.teams c.args.tasks c.args.words _ _ (last_below c.args.teams (omega arith)) (last_below c.args.tasks (omega arith)) (omega arith) (omega arith) c.if-not-has_shape.ensures
      (none_read _ c.args.words c.in-Err-fields.fault c.in-Err-fields.ensures.back),
)

pub returns-2 : goal.returns-2
returns-2 c =
    let row = line_of_row (number_field 0 _ ∷ number_field 0 _ ∷ []) (codes "pair") c.args.words c.in-Ok-fields.field-0 (refl, omega (arith, ints), (refl, omega (arith, ints), tt)) c.if-not-has_shape.ensures c.in-Ok-fields.ensures.exact in
    let team = row.0.2 in
    let task = row.0.4.2 in
    let teams = last_below c.args.teams (omega arith) in
    let tasks = last_below c.args.tasks (omega arith) in
    (omega (arith, ints), omega (arith, ints), row.1)
