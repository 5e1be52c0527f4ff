use Rattle.std.proofs.Common.{◌+◌, ◌*◌, ap, arith}
use Rattle.std.specs.List.{flat_map, range_with_len}
use Rattle.each_out.specs.Laws.{puts_as}
use Rattle.plan_chart.specs.RowTexts.{hour_line}
use Rattle.plan_chart.proofs.drawings.put_hours.Goals as goal

pub put_numbered-requires : goal.put_numbered-requires
put_numbered-requires g c = λ k within. let count = c.saturating_sub-count.ensures in let last = c.requires in omega (arith, within, count, last)

pub returns : goal.returns
returns g c =
    let hours = c.args.hours in
    puts_as g.K.Sink _ _ _ _ _ c.put_numbered.ensures (ap (λ n. flat_map (λ k. hour_line c.args.bottom ((hours.first + k) * 60)) (range_with_len 0 n)) c.saturating_sub-count.ensures)
