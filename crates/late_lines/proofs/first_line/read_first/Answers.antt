use Rattle.std.proofs.Common.{◌≡◌, false, true, refl}
use Rattle.late_lines.specs.Lines.{Repeated}
use Rattle.late_lines.proofs.first_line.read_first.Goals as goal

pub returns-then-not-is_new : goal.returns-then-not-is_new
returns-then-not-is_new c =
    let read = c.in_ok-line.ensures in
    Repeated c.if-before-ge-MOST_LATES.false c.in_ok-line.line read.0 read.1 (λ all. let e : false ≡ true = c.if-not-is_new.ensures.1 all in cc) refl
