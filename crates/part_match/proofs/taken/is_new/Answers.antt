use Rattle.std.proofs.Common.{◌≡◌, true, false}
use Rattle.part_match.proofs.NewTasks.{new_decides}
use Rattle.part_match.proofs.taken.is_new.Goals as goal

pub returns : goal.returns
returns c =
    new_decides c.args.taken.now c.args.before.now c.args.task c.has-2.result
    (λ old. let t : c.has.result ≡ true = c.has.ensures.1 old in let f : c.has.result ≡ false = c.if-has.false in cc)
    c.has-2.ensures.0 c.has-2.ensures.1
