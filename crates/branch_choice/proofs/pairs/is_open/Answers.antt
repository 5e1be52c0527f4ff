use Rattle.std.proofs.Common.{◌∙◌, sym}
use Rattle.branch_choice.proofs.OpenPairs.{told, has}
use Rattle.branch_choice.proofs.pairs.is_open.Goals as goal

pub returns-then-is_free : goal.returns-then-is_free
returns-then-is_free c = (
  λ h. record {
    free = record { team = c.requires.team; task = c.requires.task; free = c.is_free.ensures.0 c.if-is_free.true };
    minute = told c.args.limits.now.limits c.args.k c.args.j c.minutes.result c.minutes.ensures.exact (sym c.is_some.ensures ∙ h);
  },
  λ is. c.is_some.ensures ∙ has c.args.limits.now.limits c.args.k c.args.j c.minutes.result c.minutes.ensures.exact is.minute,
)
