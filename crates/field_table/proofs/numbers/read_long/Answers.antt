use Rattle.std.proofs.Common.{◌≡◌, ◌+◌, arith, take, true, subst}
use Rattle.std.proofs.lemmas.List.{take_all}
use Rattle.field_table.proofs.Digits.{not_digit, not_more, decimal_read, digits_more, value_more}
use Rattle.std.specs.Str.{all_ascii_digits}
use Rattle.field_table.proofs.Digits.{read_on}
use Rattle.field_table.proofs.numbers.read_long.Goals as goal

pub returns-then-not-is_ascii_digit : goal.returns-then-not-is_ascii_digit
returns-then-not-is_ascii_digit c = λ m le. let t = c.requires.most in not_digit c.args.bytes.now c.loop-b.b-index m c.loop-b-test.true (grind arith) (omega arith)

pub returns-then-more-most : goal.returns-then-more-most
returns-then-more-most c = λ m le.
    let v = value_more c.args.bytes.now c.loop-b.b-index c.loop-b.n c.loop-b-test.true c.loop-b.invariant.value in
    let t = c.if-more-most.true in
    let s = c.requires.most in
    not_more c.args.bytes.now (c.loop-b.b-index + 1) m c.args.most (omega arith) le (omega arith)

pub loop-b-preserved : goal.loop-b-preserved
loop-b-preserved c = record {
  small = omega arith;
  value = value_more c.args.bytes.now c.loop-b.b-index c.loop-b.n c.loop-b-test.true c.loop-b.invariant.value;
  digits = digits_more c.args.bytes.now c.loop-b.b-index c.loop-b-test.true c.loop-b.invariant.digits (grind arith);
}

pub returns : goal.returns
returns c =
    let all : take c.loop-b.b-index c.args.bytes.now ≡ c.args.bytes.now = take_all c.loop-b.b-index c.args.bytes.now (let t = c.loop-b-test.false in omega arith) in
    let most = c.requires.most in (
      c.loop-b.invariant.small,
      decimal_read c.args.bytes.now c.loop-b.n (subst (λ w. all_ascii_digits w ≡ true) all c.loop-b.invariant.digits) c.requires.some c.requires.plain
          (subst (λ w. read_on 0 w ≡ c.loop-b.n) all c.loop-b.invariant.value) (omega arith),
    )
