use Rattle.std.proofs.lemmas.Result.{IfOk-weaker}
use Rattle.audit_command.proofs.Going.{behind_line, can_start}
use Rattle.audit_command.proofs.ended.over_text.Goals as goal

pub day-requires-clause-going : goal.day-requires-clause-going
day-requires-clause-going g c = can_start c.args.reader c.in_ok-checker.checker c.in_ok-checker.ensures c.requires.stopped c.requires.limit c.requires.handed

pub returns-clause-found : goal.returns-clause-found
returns-clause-found g c =
    IfOk-weaker c.day.result _ _ (λ found h input b. h input c.args.text.now c.in_ok-day.ensures.says
    (behind_line input c.args.text.now c.args.reader (g.S.Source.left c.args.src.now) c.in_ok-checker.checker c.in_ok-checker.ensures b)) c.day.ensures.found
