use Rattle.std.proofs.Common.{ap, sym, subst, ◌∙◌, arith, map, drop, List, ℕ}
use Rattle.std.specs.Str.Parse.{digits_value}
use Rattle.line_in.specs.Fields.{SpellBelow}
use Rattle.line_in.proofs.WideWords.{values_back, small}
use Rattle.line_in.proofs.wides.read_naturals.Goals as goal

pub invariant_of-result : goal.invariant_of-result
invariant_of-result c =
    let there = c.requires.place in
    let count = c.count.ensures in
    let spelled = c.if-not-are_naturals.ensures in
    record {
      whole = omega arith;
      short = omega arith;
      numbers = spelled.0;
      small = small c.args.past spelled.0 c.requires.past spelled.1.below;
      spelled = spelled.1.spelled;
    }

pub returns : goal.returns
returns c =
    let spelled = c.if-not-are_naturals.ensures in
    let back = ap (map (digits_value 10)) spelled.1.spelled ∙ values_back spelled.0 (small c.args.past spelled.0 c.requires.past spelled.1.below) in
    subst (λ (ks : List ℕ). SpellBelow c.args.past ks (drop c.args.from c.args.words)) (sym back) spelled.1
