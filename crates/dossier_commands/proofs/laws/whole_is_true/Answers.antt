use Rattle.std.proofs.Common.{sym}
use Rattle.dossier_commands.proofs.laws.whole_is_true.Goals as goal

pub returns : goal.returns
returns c = λ lines d ended.
    let whole = c.read_is_good.ensures _ d ended in (
      record { good = whole.good; legal = whole.good.plan; bound = λ p. c.good_bounds.ensures d p whole.good; stays_open = c.loose_splits_stay_open.ensures d whole.good },
      c.text_of_lines.ensures.one d lines (sym whole.spelled),
      sym whole.spelled,
    )
