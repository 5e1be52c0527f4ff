use Rattle.std.proofs.Common.{◌≡◌, ◌<◌, length, arith, get_or, false, refl}
use Rattle.std.proofs.lemmas.Bool.{both_ways}
use Rattle.field_table.proofs.Digits.{front_number, read_further, short_value, some_digits}
use Rattle.field_table.proofs.numbers.short_number.Goals as goal
use Rattle.field_table.proofs.numbers.short_number.Goals.{then-count-bytes-via-then-count-bytes, then-count-bytes-via-else-count-bytes+then-bytes-count-eq32}

pub returns-then-count-bytes : goal.returns-then-count-bytes
returns-then-count-bytes c =
    let bytes = c.args.bytes.now in
    let count = c.loop-count.count in
    let held = c.loop-count.invariant in
    let test = c.loop-count-test.true in
    let ended : count < length bytes → get_or bytes count 0 ≡ 32 =
    elim c.then-count-bytes.branch [
      | then-count-bytes-via-then-count-bytes w ↦ λ l. let all = w.if-count-bytes.true in absurd (omega arith)
      | then-count-bytes-via-else-count-bytes+then-bytes-count-eq32 w ↦ λ l. w.if-bytes-count-eq32.true
    ] in
    let some : 0 < count = some_digits bytes count (let filled = c.if-is_empty.false in grind arith) (grind arith) ended in
    front_number bytes count c.loop-count.value held.read held.within (omega arith) some (λ zero. both_ways false refl (c.if-has_leading_zero.ensures.1 zero)) ended

pub overflow_mul-value : goal.overflow_mul-value
overflow_mul-value c =
    let small = short_value c.args.bytes.now c.loop-count.count c.loop-count.value c.loop-count.invariant.read (let test = c.loop-count-test.true in omega arith) in
    omega arith

pub overflow_add-value : goal.overflow_add-value
overflow_add-value c =
    let small = short_value c.args.bytes.now c.loop-count.count c.loop-count.value c.loop-count.invariant.read (let test = c.loop-count-test.true in omega arith) in
    grind arith

pub loop-count-preserved : goal.loop-count-preserved
loop-count-preserved c =
    let count = c.loop-count.count in
    let held = c.loop-count.invariant in
    let inside = held.within in
    let other = c.if-count-bytes.false in
    record {
      within = omega arith;
      read = read_further c.args.bytes.now count c.loop-count.value held.read (omega arith) (grind arith) (grind arith);
    }
