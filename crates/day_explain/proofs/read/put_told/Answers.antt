use Rattle.std.proofs.Common.{subst, sym}
use Rattle.std.specs.Prelude.{IsTrue, None}
use Rattle.day_explain.specs.Says.{SaysAt, Wrote, is_of_text}
use Rattle.day_explain.specs.declared.read.Ended.{Ended}
use Rattle.day_explain.proofs.Said.{end_of_text, told_front, told_says}
use Rattle.day_explain.proofs.read.put_told.Goals as goal

pub returns-in-Ok-clause-says : goal.returns-in-Ok-clause-says
returns-in-Ok-clause-says g c = λ text within are.
    subst (λ (e : Ended). Wrote (g.K.Sink.got c.args.out.now) (g.K.Sink.got c.put_explanation.new.out) (SaysAt e None text)) (sym c.end_of.ensures)
    (told_says text c.args.faults.now c.args.told.now within are _ _ c.in-Ok.ensures.all)

pub returns-in-Ok-clause-others : goal.returns-in-Ok-clause-others
returns-in-Ok-clause-others g c = subst (λ (e : Ended). IsTrue (is_of_text e)) (sym c.end_of.ensures) (end_of_text c.args.faults.now.records.items)

pub returns-in-Err-clause-says : goal.returns-in-Err-clause-says
returns-in-Err-clause-says g c = λ text within are. told_front text c.args.faults.now c.args.told.now within are _ _ c.in-Err.ensures.part
