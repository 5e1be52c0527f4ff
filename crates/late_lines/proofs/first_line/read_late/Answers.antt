use Rattle.std.proofs.Common.{rules}
use Rattle.late_lines.specs.Lines.{IsWordFault, OutOfRange}
use Rattle.late_lines.proofs.Words.{out_of_range}
use Rattle.late_lines.proofs.first_line.read_late.Goals as goal

pub returns-in_err-end : goal.returns-in_err-end
returns-in_err-end c =
    let e = c.in_err-end.ensures in
    let fault : IsWordFault c.args.words.now c.in_err-end.field-0.0 = OutOfRange c.in_ok-name.ensures.0 (out_of_range _ e.1) e.0 in
    search (rules, fault)
