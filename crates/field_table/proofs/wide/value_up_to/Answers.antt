use Rattle.std.proofs.Common.{◌<◌, ◌+◌, ◌-◌, Some, get_or, ap, sym, ◌∙◌, arith}
use Rattle.std.proofs.lemmas.List.{take_all}
use Rattle.field_table.proofs.Digits.{read_on, value_more}
use Rattle.field_table.proofs.LongDigits.{short_enough, wide_digit, wide_over, wide_value, past_tenth}
use Rattle.field_table.proofs.wide.value_up_to.Goals as goal
use Rattle.field_table.proofs.wide.value_up_to.Goals.{then-not-is_ascii_digit-via-then-not-is_ascii_digit, then-not-is_ascii_digit-via-else-not-is_ascii_digit+then-n-most}

pub returns-then-not-is_ascii_digit-clause-is : goal.returns-then-not-is_ascii_digit-clause-is
returns-then-not-is_ascii_digit-clause-is c = λ m le is.
    let small = short_enough m c.args.most le c.requires in
    let value = value_more c.args.digits.now c.loop-b.b-index c.loop-b.n c.loop-b-test.true c.loop-b.invariant.value in
    elim c.then-not-is_ascii_digit.branch [
      | then-not-is_ascii_digit-via-then-not-is_ascii_digit w ↦
          absurd (wide_digit c.args.digits.now c.loop-b.b-index m c.loop-b-test.true (grind arith) small is)
      | then-not-is_ascii_digit-via-else-not-is_ascii_digit+then-n-most w ↦
          let over = past_tenth c.loop-b.n (get_or c.args.digits.now c.loop-b.b-index 0 - 48) c.args.most w.if-n-most.true in
          absurd (wide_over c.args.digits.now (c.loop-b.b-index + 1) m c.args.most (omega arith) le small is)
    ]

pub loop-b-preserved : goal.loop-b-preserved
loop-b-preserved c =
    let within = c.if-n-most.false in
    let digit : get_or c.args.digits.now c.loop-b.b-index 0 - 48 < 10 = grind arith in
    record {
      small = omega arith;
      value = value_more c.args.digits.now c.loop-b.b-index c.loop-b.n c.loop-b-test.true c.loop-b.invariant.value;
    }

pub returns-then-n-most-2-clause-is : goal.returns-then-n-most-2-clause-is
returns-then-n-most-2-clause-is c = λ m le is.
    let small = short_enough m c.args.most le c.requires in
    let over = c.if-n-most-2.true in
    let value = c.loop-b.invariant.value in
    absurd (wide_over c.args.digits.now c.loop-b.b-index m c.args.most (omega arith) le small is)

pub returns-clause-is : goal.returns-clause-is
returns-clause-is c = λ m le is.
    let small = short_enough m c.args.most le c.requires in
    let all = take_all c.loop-b.b-index c.args.digits.now (let t = c.loop-b-test.false in omega arith) in
    ap Some (sym c.loop-b.invariant.value ∙ ap (read_on 0) (all ∙ is) ∙ wide_value m small)
