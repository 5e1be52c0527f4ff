use Rattle.std.proofs.Common.{◌≢◌, ◌+◌, ap, subst, sym}
use Rattle.std.specs.Prelude.{Err}
use Rattle.crew_terms.specs.Words.{words_of}
use Rattle.line_in.specs.declared.refusals.Refusal.{Refusal}
use Rattle.cert_checker.specs.Checked.{IsJudged}
use Rattle.cert_checker.specs.Due.{IsStep, IsStepWithRoom}
use Rattle.cert_checker.specs.Kept.{kept_state}
use Rattle.cert_checker.specs.Said.{IsSaidAt}
use Rattle.cert_checker.specs.declared.checker.State.{State}
use Rattle.cert_checker.specs.declared.checker.State.TheVariants as states
use Rattle.cert_checker.proofs.Judged.{judged, not_spent}
use Rattle.cert_checker.proofs.checker.Checker.judge_line.Goals as goal
use Rattle.cert_checker.proofs.checker.Checker.judge_line.Goals.{After-settle, in-Ok, in-Err-No}

-- the step, or the reason, is what the table says
told : (c : After-settle) → IsStep c.args.due (words_of c.args.line.now) c.match-judge.step
told c = subst (λ ws. IsStep c.args.due ws c.match-judge.step) c.split-words.ensures
    (elim c.match-judge.branch [
      | in-Ok w ↦ subst (IsStep c.args.due c.split-words.result) (sym w.step-is) w.in-Ok.ensures.step
      | in-Err-No w ↦ subst (IsStep c.args.due c.split-words.result) (sym w.step-is)
          (subst (λ (e : Refusal). IsStepWithRoom c.args.due c.split-words.result (Err e)) w.in-Err-No.field-0-is w.in-Err-No.ensures.step)
    ])

pub returns-clause-judged : goal.returns-clause-judged
returns-clause-judged c = λ reading reached awaits said says.
    let kept = c.settle.ensures.kept in
    subst (λ state. IsJudged c.args.self.now.lines reading (words_of c.args.line.now) said (record { lines = c.self.inside.lines + 1; at = state })) (sym kept)
    (subst (λ n. IsJudged n reading (words_of c.args.line.now) said (record { lines = c.self.inside.lines + 1; at = kept_state (c.self.inside.lines + 1) c.match-judge.step })) (ap (λ v. v.lines) c.self.view_is)
    (judged c.self.inside.lines reading (words_of c.args.line.now) c.match-judge.step said
    reached (told (goal.at.returns-clause-judged c).After-settle reading awaits) c.one_answer.ensures (subst (λ (s : State). IsSaidAt s said) kept says)))

pub returns-clause-kept : goal.returns-clause-kept
returns-clause-kept c = subst (λ (s : State). s ≢ states.Spent) (sym c.settle.ensures.kept) (not_spent (c.self.inside.lines + 1) c.match-judge.step)
