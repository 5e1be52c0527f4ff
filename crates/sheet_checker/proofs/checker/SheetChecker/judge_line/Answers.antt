use Rattle.std.proofs.Common.{◌+◌, ap, subst}
use Rattle.std.specs.Prelude.{Ok, Err}
use Rattle.crew_terms.specs.Words.{words_of}
use Rattle.line_in.specs.declared.refusals.Refusal.TheVariants as refusals
use Rattle.sheet_terms.specs.Table.{SaysOfSheet}
use Rattle.sheet_checker.specs.Checked.{IsJudged}
use Rattle.sheet_checker.specs.Due.{Tells}
use Rattle.sheet_checker.specs.declared.checker.SheetSaid.TheVariants as saids
use Rattle.sheet_checker.specs.declared.checker.State.TheVariants as states
use Rattle.sheet_checker.specs.declared.due.Step.TheVariants as steps
use Rattle.sheet_checker.proofs.Judged.{more_judged, no_judged, whole_judged}
use Rattle.sheet_checker.proofs.checker.SheetChecker.judge_line.Goals as goal

pub returns-in-Ok-More-clause-judged : goal.returns-in-Ok-More-clause-judged
returns-in-Ok-More-clause-judged c = λ reading reached awaits.
    let words = words_of c.args.line.now in
    let step = rw c.in-Ok-More.field-0-is at c.in-Ok-More.ensures in
    let tells = subst (λ ws. Tells (SaysOfSheet reading ws) (Ok (steps.More c.in-Ok-More.due))) c.split-words.ensures (step reading awaits) in
    subst (λ n. IsJudged n reading words saids.More (record { lines = c.self.inside.lines + 1; at = states.Due c.in-Ok-More.due })) (ap (λ v. v.lines) c.self.view_is)
    (more_judged c.one_answer.ensures c.self.inside.lines reading words reached c.in-Ok-More.due tells)

pub returns-in-Ok-Whole-clause-judged : goal.returns-in-Ok-Whole-clause-judged
returns-in-Ok-Whole-clause-judged c = λ reading reached awaits.
    let words = words_of c.args.line.now in
    let step = rw c.in-Ok-Whole.field-0-is at c.in-Ok-Whole.ensures in
    let tells = subst (λ ws. Tells (SaysOfSheet reading ws) (Ok (steps.Whole c.in-Ok-Whole.bound))) c.split-words.ensures (step reading awaits) in
    subst (λ n. IsJudged n reading words (saids.Whole c.in-Ok-Whole.bound) (record { lines = c.self.inside.lines + 1; at = states.Whole })) (ap (λ v. v.lines) c.self.view_is)
    (whole_judged c.one_answer.ensures c.self.inside.lines reading words reached c.in-Ok-Whole.bound tells)

pub returns-in-Err-No-clause-judged : goal.returns-in-Err-No-clause-judged
returns-in-Err-No-clause-judged c = λ reading reached awaits.
    let words = words_of c.args.line.now in
    let step = rw c.in-Err-No.field-0-is at c.in-Err-No.ensures in
    let tells = subst (λ ws. Tells (SaysOfSheet reading ws) (Err (refusals.No c.in-Err-No.reason))) c.split-words.ensures (step reading awaits) in
    let number = c.self.inside.lines + 1 in
    subst (λ n. IsJudged n reading words (saids.No number c.in-Err-No.reason) (record { lines = number; at = states.Refused number c.in-Err-No.reason })) (ap (λ v. v.lines) c.self.view_is)
    (no_judged c.one_answer.ensures c.self.inside.lines reading words reached c.in-Err-No.reason tells)
