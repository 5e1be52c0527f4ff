use Rattle.std.proofs.Common.{ap, sym, subst, ◌∙◌, arith, map, drop, List, ℤ}
use Rattle.std.specs.Str.Parse.{signed_digits_value}
use Rattle.line_in.specs.Fields.{SpellIn}
use Rattle.line_in.proofs.Rests.{values_back}
use Rattle.line_in.proofs.Fields.{each_fits}
use Rattle.line_in.proofs.numbers.read_rest.Goals as goal

pub invariant_of-result : goal.invariant_of-result
invariant_of-result c =
    let there = c.requires.within in
    let count = c.count.ensures in
    let spelled = c.if-not-are_in.ensures in
    record {
      whole = omega arith;
      small = omega arith;
      numbers = spelled.0;
      fit = each_fits c.args.field spelled.0 spelled.1.each;
      spelled = spelled.1.spelled;
    }

pub returns : goal.returns
returns c =
    let spelled = c.if-not-are_in.ensures in
    let back = ap (map (signed_digits_value 10)) spelled.1.spelled ∙ values_back spelled.0 (each_fits c.args.field spelled.0 spelled.1.each) in
    subst (λ (ns : List ℤ). SpellIn c.args.field ns (drop c.args.from c.args.words)) (sym back) spelled.1
