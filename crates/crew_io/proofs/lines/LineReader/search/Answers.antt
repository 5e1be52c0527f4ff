use Rattle.std.proofs.Common.{◌≤◌, subst, arith, List, ℕ, ◌-◌, ◌+◌}
use Rattle.std.specs.Prelude.{slice_range}
use Rattle.crew_io.specs.Lines.{Reader, IsLineLength}
use Rattle.crew_io.proofs.Ranges.{plain_more, front_held, length_range}
use Rattle.crew_io.proofs.lines.LineReader.search.Goals as goal

pub invariant_of-self : goal.invariant_of-self
invariant_of-self c =
    let a = c.self.inside in
    let i = c.self.invariant in
    let f : IsLineLength (slice_range a.buf.items a.searched a.end) c.first_feed.result = subst (λ (b : List ℕ). IsLineLength (slice_range b a.searched a.end) c.first_feed.result) c.deref.ensures.value c.first_feed.ensures in
    let n : a.searched + c.first_feed.result ≤ a.end = let w = f.within in let r = i.room in let e = i.within in let s = i.searched in omega (arith, length_range a.buf.items a.searched a.end i.searched (omega arith)) in
    record {
      room = i.room;
      line = i.line;
      line_in = i.line_in;
      held = let h = i.held in omega arith;
      searched = n;
      within = i.within;
      plain = plain_more a.buf.items a.at a.searched c.first_feed.result a.end i.held n i.plain f.plain;
      handed = i.handed;
    }

pub returns-clause-front : goal.returns-clause-front
returns-clause-front c =
    let a = c.self.inside in
    let i = c.self.invariant in
    let f : IsLineLength (slice_range a.buf.items a.searched a.end) c.first_feed.result = subst (λ (b : List ℕ). IsLineLength (slice_range b a.searched a.end) c.first_feed.result) c.deref.ensures.value c.first_feed.ensures in
    subst (λ (r : Reader). IsLineLength r.held (a.searched + c.first_feed.result - a.at)) c.self.view_is
    (front_held a.buf.items a.at a.searched c.first_feed.result a.end i.held i.searched (let r = i.room in let e = i.within in omega arith) i.plain f)
