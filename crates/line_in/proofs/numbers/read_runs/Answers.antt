use Rattle.std.proofs.Common.{ap, ◌∙◌, arith, map, refl}
use Rattle.std.specs.List.{flat_map}
use Rattle.std.specs.Str.Parse.{signed_digits_value}
use Rattle.line_in.specs.Fields.{run_numbers}
use Rattle.line_in.proofs.Rests.{values_back}
use Rattle.line_in.proofs.Runs.{runs_of_pairs, pairs_of_runs, runs_signed, runs_fit}
use Rattle.line_in.proofs.numbers.read_runs.Goals as goal

pub returns-then-not-are_pairs : goal.returns-then-not-are_pairs
returns-then-not-are_pairs c = (refl, λ runs s. c.if-not-are_pairs.ensures (pairs_of_runs c.args.from c.args.words runs s))

pub invariant_of-result : goal.invariant_of-result
invariant_of-result c =
    let there = c.requires.pairs.1 in
    let count = c.count.ensures in
    let spelled = runs_of_pairs c.args.from c.requires.pairs.0 c.args.words there c.if-not-are_pairs.ensures in
    record {
      whole = omega arith;
      small = omega arith;
      numbers = flat_map run_numbers spelled.0;
      fit = runs_fit spelled.0 spelled.1.minutes spelled.1.numbers;
      spelled = spelled.1.spelled ∙ runs_signed spelled.0;
    }

pub returns : goal.returns
returns c =
    let found = runs_of_pairs c.args.from c.requires.pairs.0 c.args.words c.requires.pairs.1 c.if-not-are_pairs.ensures in
    let runs = found.0 in
    let spelled = found.1 in
    (runs, ap (map (signed_digits_value 10)) (spelled.spelled ∙ runs_signed runs) ∙ values_back (flat_map run_numbers runs) (runs_fit runs spelled.minutes spelled.numbers), spelled)
