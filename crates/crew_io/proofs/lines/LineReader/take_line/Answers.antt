use Rattle.std.proofs.Common.{◌≡◌, ◌<◌, ◌+◌, subst, sym, arith, refl, length}
use Rattle.std.specs.Prelude.{slice_range}
use Rattle.crew_io.specs.Lines.{Reader, took_line}
use Rattle.crew_io.proofs.Ranges.{line_taken, length_range}
use Rattle.crew_io.proofs.lines.LineReader.take_line.Goals as goal

pub returns : goal.returns
returns c =
    let a = c.self.inside in
    let i = c.self.invariant in
    let n : c.args.front < length (slice_range a.buf.items a.at a.end) = subst (λ (r : Reader). c.args.front < length r.held) (sym c.self.view_is) c.requires.ended in
    subst (λ (r : Reader). record { limit = a.limit; handed = a.handed + (c.args.front + 1); held = slice_range a.buf.items (a.at + (c.args.front + 1)) a.end; line = slice_range a.buf.items a.at (a.at + c.args.front); stopped = a.stopped } ≡ took_line r c.args.front) c.self.view_is
    (line_taken record { limit = a.limit; handed = a.handed; held = slice_range a.buf.items a.at a.end; line = slice_range a.buf.items a.line_from a.line_to; stopped = a.stopped } a.buf.items a.at c.args.front a.end (let h = i.held in let s = i.searched in let r = i.room in let e = i.within in omega (arith, length_range a.buf.items a.at a.end (omega arith) (omega arith))) refl)
