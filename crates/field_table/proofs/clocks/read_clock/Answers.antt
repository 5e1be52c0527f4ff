use Rattle.std.proofs.Common.{◌+◌, ◌*◌, arith, rules}
use Rattle.std.proofs.lemmas.Int.{ints}
use Rattle.field_table.proofs.ClockTexts.{text_of_five}
use Rattle.field_table.proofs.clocks.read_clock.Goals as goal

pub returns-clause-exact : goal.returns-clause-exact
returns-clause-exact c =
    let bytes = c.args.bytes.now in
    let hours = c.in_ok-hours.hours in
    let minutes = c.in_ok-minutes.minutes in (
      60 * hours + minutes,
      omega (arith, c.in_ok-hours.ensures.0),
      omega (arith, ints),
      text_of_five bytes hours minutes (omega arith) (search rules) (omega arith) c.in_ok-hours.ensures.1 c.in_ok-minutes.ensures.1,
    )
