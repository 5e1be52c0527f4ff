use Rattle.std.proofs.Common.{◌≡◌, ap, subst, sym, ◌∙◌}
use Rattle.std.specs.Prelude.{IfOk}
use Rattle.crew_terms.specs.Words.{words_of}
use Rattle.sheet_terms.specs.Reading.{SheetReading}
use Rattle.sheet_checker.specs.Checked.{Checked, IsDueAt, IsJudged, IsReached}
use Rattle.sheet_checker.specs.Due.{Awaits}
use Rattle.sheet_checker.specs.Kept.{IsKeptFrom, IsSettled}
use Rattle.sheet_checker.specs.declared.checker.State.{State}
use Rattle.sheet_checker.specs.declared.due.Due.{Due}
use Rattle.sheet_checker.proofs.Judged.{first_kept, whole_holds}
use Rattle.sheet_checker.proofs.checker.SheetChecker.line.Goals as goal
use Rattle.sheet_checker.proofs.checker.SheetChecker.line.Goals.{After-judge_line, in-Due, in-Whole}

pub judge_line-requires-clause-kept : goal.judge_line-requires-clause-kept
judge_line-requires-clause-kept c = elim c.match-replace.branch [
  | in-Due w ↦ subst IsKeptFrom (sym w.due-is) (subst IsSettled (sym c.replace.ensures.value ∙ w.in-Due.is) c.self.invariant.state)
  | in-Whole w ↦ subst IsKeptFrom (sym w.due-is) first_kept
]

-- the line that was due is that of what was taken out of the state
awaited : (c : After-judge_line) (due : SheetReading) → IsDueAt c.args.self.now.at due → Awaits c.match-replace.due due
awaited c due at =
    let state : c.replace.result ≡ c.args.self.now.at = c.replace.ensures.value ∙ ap (λ (v : Checked). v.at) c.self.view_is in
    let here = subst (λ (s : State). IsDueAt s due) (sym state) at in
    elim c.match-replace.branch [
      | in-Due w ↦ subst (λ (d : Due). Awaits d due) (sym w.due-is) (subst (λ (s : State). IsDueAt s due) w.in-Due.is here)
      | in-Whole w ↦ subst (λ (d : Due). Awaits d due) (sym w.due-is) (subst (λ (s : State). IsDueAt s due) w.in-Whole.is here)
    ]

-- no line was judged since
lines : (c : After-judge_line) → c.match-replace.self.lines ≡ c.args.self.now.lines
lines c = elim c.match-replace.branch [
  | in-Due w ↦ ap (λ (v : Checked). v.lines) w.self-is ∙ ap (λ (v : Checked). v.lines) c.self.view_is
  | in-Whole w ↦ ap (λ (v : Checked). v.lines) w.self-is ∙ ap (λ (v : Checked). v.lines) c.self.view_is
]

judged : (c : After-judge_line) (due : SheetReading) → IsReached due → IsDueAt c.args.self.now.at due
    → IfOk c.judge_line.result (λ said. IsJudged c.args.self.now.lines due (words_of c.args.line.now) said c.judge_line.new.self)
judged c due reached at = subst (λ n. IfOk c.judge_line.result (λ said. IsJudged n due (words_of c.args.line.now) said c.judge_line.new.self)) (lines c)
    (c.judge_line.ensures.judged due reached (awaited c due at))

pub returns-clause-judged : goal.returns-clause-judged
returns-clause-judged c = judged c

pub returns-clause-whole : goal.returns-clause-whole
returns-clause-whole c = λ read due l reached at whole.
    whole_holds c.whole_is_true.ensures c.args.self.now.lines due (words_of c.args.line.now) l c.judge_line.new.self read reached
    (subst (λ r. IfOk r (λ said. IsJudged c.args.self.now.lines due (words_of c.args.line.now) said c.judge_line.new.self)) whole (judged c due (read, reached) at))
