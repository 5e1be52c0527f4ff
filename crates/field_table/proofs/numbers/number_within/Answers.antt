use Rattle.std.proofs.Common.{arith, false, refl}
use Rattle.std.proofs.lemmas.Bool.{both_ways}
use Rattle.field_table.proofs.Digits.{front_number, read_further, short_value}
use Rattle.field_table.proofs.numbers.number_within.Goals as goal

pub returns-then-not-is_ascii_digit : goal.returns-then-not-is_ascii_digit
returns-then-not-is_ascii_digit c =
    let count = c.loop-count.count in
    let long = c.requires in
    let test = c.loop-count-test.true in
    let none = c.if-count-eq0.false in
    front_number c.args.bytes.now count c.loop-count.value c.loop-count.invariant (omega arith) (omega arith) (omega arith) (λ zero. both_ways false refl (c.if-has_leading_zero.ensures.1 zero))
    (λ _. c.if-b-ne32.false)

pub overflow_mul-value : goal.overflow_mul-value
overflow_mul-value c =
    let small = short_value c.args.bytes.now c.loop-count.count c.loop-count.value c.loop-count.invariant (let test = c.loop-count-test.true in omega arith) in
    omega arith

pub overflow_add-value : goal.overflow_add-value
overflow_add-value c =
    let small = short_value c.args.bytes.now c.loop-count.count c.loop-count.value c.loop-count.invariant (let test = c.loop-count-test.true in omega arith) in
    grind arith

pub loop-count-preserved : goal.loop-count-preserved
loop-count-preserved c =
    let long = c.requires in
    let test = c.loop-count-test.true in
    read_further c.args.bytes.now c.loop-count.count c.loop-count.value c.loop-count.invariant (omega arith) (grind arith) (grind arith)
