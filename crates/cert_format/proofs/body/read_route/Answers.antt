use Rattle.std.proofs.Common.{arith}
use Rattle.std.proofs.lemmas.Int.{ints}
use Rattle.line_in.proofs.Accepted.{none_read, last_below}
use Rattle.cert_format.proofs.LeafLines.{pairs_after_team, route_team, route_line_of, team_wrong}
use Rattle.cert_format.proofs.body.read_route.Goals as goal

pub returns : goal.returns
returns c = (
  c.if-not-has_pairs.ensures,
  tt,
  team_wrong c.args.teams c.args.tasks c.args.words _ (last_below c.args.teams (omega arith)) (omega arith) (none_read _ c.args.words c.in-Err-fields.fault c.in-Err-fields.ensures.back),
)

pub read_visits-requires : goal.read_visits-requires
read_visits-requires c = record { pairs = pairs_after_team c.args.words c.if-not-has_pairs.ensures.1 }

pub returns-2 : goal.returns-2
returns-2 c =
    let row = route_team c.args.words c.in-Ok-fields.field-0 _ c.if-not-has_pairs.ensures.1 c.in-Ok-fields.ensures.exact in
    let known = row.1 in
    let teams = last_below c.args.teams (omega arith) in
    let vs = c.in_ok-visits.ensures.0 in
    let line = route_line_of c.args.teams c.args.tasks _ c.args.words vs c.if-not-has_pairs.ensures.0 c.if-not-has_pairs.ensures.1 (omega (arith, ints)) row.2 c.in_ok-visits.ensures.2 in
    (vs, c.in_ok-visits.ensures.1, line.0, line.1)
