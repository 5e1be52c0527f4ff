use Rattle.std.proofs.Common.{ap, ◌∙◌, arith, map, pos, refl}
use Rattle.std.specs.List.{flat_map}
use Rattle.std.specs.Str.Parse.{signed_digits_value}
use Rattle.line_in.specs.Fields.{visit_numbers}
use Rattle.line_in.proofs.Accepted.{last_of, last_below}
use Rattle.line_in.proofs.Rests.{values_back}
use Rattle.line_in.proofs.Pairs.{visits_of, pairs_of_visits}
use Rattle.line_in.proofs.Visits.{visits_signed, visits_fit}
use Rattle.line_in.proofs.numbers.read_visits.Goals as goal

pub returns-then-not-are_pairs : goal.returns-then-not-are_pairs
returns-then-not-are_pairs c = (refl, λ vs s. c.if-not-are_pairs.ensures (pairs_of_visits c.args.tasks c.args.from _ c.args.words vs (last_below c.args.tasks (omega arith)) (omega arith) s))

pub invariant_of-result : goal.invariant_of-result
invariant_of-result c =
    let there = c.requires.pairs.1 in
    let count = c.count.ensures in
    let spelled = visits_of c.args.tasks c.args.from c.requires.pairs.0 (last_of c.args.tasks) c.args.words (last_below c.args.tasks (omega arith)) there c.if-not-are_pairs.ensures in
    record {
      whole = omega arith;
      small = omega arith;
      numbers = map pos (flat_map visit_numbers spelled.0);
      fit = visits_fit c.args.tasks spelled.0 (omega arith) spelled.1.known spelled.1.starts;
      spelled = spelled.1.spelled ∙ visits_signed spelled.0;
    }

pub returns : goal.returns
returns c =
    let found = visits_of c.args.tasks c.args.from c.requires.pairs.0 (last_of c.args.tasks) c.args.words (last_below c.args.tasks (omega arith)) c.requires.pairs.1 c.if-not-are_pairs.ensures in
    let vs = found.0 in
    let spelled = found.1 in
    (vs, ap (map (signed_digits_value 10)) (spelled.spelled ∙ visits_signed vs) ∙ values_back (map pos (flat_map visit_numbers vs)) (visits_fit c.args.tasks vs (omega arith) spelled.known spelled.starts), spelled)
