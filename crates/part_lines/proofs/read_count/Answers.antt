use Rattle.std.proofs.Common.{rules}
use Rattle.part_lines.specs.Faults.{IsCountFault, OutOfRange}
use Rattle.part_lines.proofs.ReadWords.{out_of_range}
use Rattle.part_lines.proofs.read_count.Goals as goal

pub returns-in_err-count : goal.returns-in_err-count
returns-in_err-count c =
    let e = c.in_err-count.ensures in
    let ws = c.args.words.now in
    let fault : IsCountFault ws c.in_err-count.field-0.0 = OutOfRange c.if-not-has_shape.ensures (out_of_range ws e.1) e.0 in
    search (rules, fault)
