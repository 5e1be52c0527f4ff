use Rattle.std.proofs.Common.{sym, subst}
use Rattle.column_scout.specs.Scouted.{IsSeen}
use Rattle.column_scout.proofs.rounds.search.Goals.{else-loop-round-test, then-loop-round-test+in_ok-solved+then-not-solved, then-loop-round-test+in_ok-solved+else-not-solved+else-best-now+in_ok-seen+in_ok-added+in_default}
use Rattle.column_scout.proofs.rounds.search.Goals as goal

pub returns-clause-seen : goal.returns-clause-seen
returns-clause-seen c =
    let n = c.args.limits.now.limits in
    elim c.loop-round-test.branch [
      | else-loop-round-test w ↦ subst (IsSeen n) (sym w.best-is) c.loop-round.invariant.seen
      | then-loop-round-test+in_ok-solved+then-not-solved w ↦ subst (IsSeen n) (sym w.best-is) c.loop-round.invariant.seen
      | then-loop-round-test+in_ok-solved+else-not-solved+else-best-now+in_ok-seen+in_ok-added+in_default w ↦
          subst (IsSeen n) (sym w.best-is) (w.better-best.ensures.seen n c.loop-round.invariant.seen w.in_ok-seen.ensures)
    ]
