use Rattle.std.proofs.Common.{arith}
use Rattle.std.specs.Vec.{with_items}
use Rattle.std.proofs.lemmas.Grind.{common_steps}
use Rattle.crew_io.proofs.Ranges.{plain_moved}
use Rattle.crew_io.proofs.lines.LineReader.fill.Goals as goal

pub invariant_of-self : goal.invariant_of-self
invariant_of-self g c =
    let a = c.self.inside in
    let i = c.self.invariant in
    record {
      room = grind (arith, common_steps);
      line = omega arith;
      line_in = omega arith;
      held = omega arith;
      searched = let s = i.searched in omega arith;
      within = let s = i.within in omega arith;
      plain = plain_moved a.buf.items (with_items a.buf c.refill-read.new.room).items a.at a.searched a.end i.held i.searched (grind (arith, common_steps)) i.plain;
      handed = i.handed;
    }

pub invariant_of-self-2 : goal.invariant_of-self-2
invariant_of-self-2 g c =
    let a = c.self.inside in
    let i = c.self.invariant in
    record {
      room = grind (arith, common_steps);
      line = omega arith;
      line_in = omega arith;
      held = omega arith;
      searched = let s = i.searched in omega arith;
      within = grind (arith, common_steps);
      plain = plain_moved a.buf.items (with_items a.buf c.refill-read.new.room).items a.at a.searched a.end i.held i.searched (grind (arith, common_steps)) i.plain;
      handed = i.handed;
    }
