use Rattle.std.proofs.lemmas.List.Elements.{All-push}
use Rattle.split_uses.specs.Permitted.{IsPermittedSpan}
use Rattle.split_uses.proofs.spans.add_spans.Goals as goal

pub loop-visit-preserved : goal.loop-visit-preserved
loop-visit-preserved c =
    let n = c.args.limits.now.limits in
    record {
      before = (c.requires.visits c.loop-visit.visit-index _ c.loop-visit-test.true).known;
      spans = rw c.in_ok-push.ensures.items
          (All-push (IsPermittedSpan n) c.loop-visit.spans.items _ c.loop-visit.invariant.spans
          (record { team = c.requires.team; visit = c.requires.visits c.loop-visit.visit-index _ c.loop-visit-test.true }));
    }
