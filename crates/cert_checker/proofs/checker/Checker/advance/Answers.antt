use Rattle.std.proofs.Common.{◌≡◌, ap, subst, sym, ◌∙◌}
use Rattle.cert_checker.specs.Checked.{Checked, IsDueAt, IsPastTree}
use Rattle.cert_checker.specs.Due.{IsOfTree}
use Rattle.cert_checker.specs.Kept.{IsKeptFrom, IsSettled}
use Rattle.cert_checker.specs.declared.checker.State.{State}
use Rattle.cert_checker.proofs.Judged.{first_kept, of_tree}
use Rattle.cert_checker.proofs.checker.Checker.advance.Goals as goal
use Rattle.cert_checker.proofs.checker.Checker.advance.Goals.{in-Due, in-Whole}

pub judge_line-requires-clause-kept : goal.judge_line-requires-clause-kept
judge_line-requires-clause-kept c = elim c.match-replace.branch [
  | in-Due w ↦ subst IsKeptFrom (sym w.due-is) (subst IsSettled (sym c.replace.ensures.value ∙ w.in-Due.is) c.self.invariant.state)
  | in-Whole w ↦ subst IsKeptFrom (sym w.due-is) first_kept
]

pub returns-clause-room : goal.returns-clause-room
returns-clause-room c = λ reading past at.
    let state : c.replace.result ≡ c.args.self.now.at = c.replace.ensures.value ∙ ap (λ (v : Checked). v.at) c.self.view_is in
    let here = subst (λ (s : State). IsDueAt s reading) (sym state) at in
    c.judge_line.ensures.room (elim c.match-replace.branch [
      | in-Due w ↦ subst IsOfTree (sym w.due-is) (of_tree _ reading (subst (λ (s : State). IsDueAt s reading) w.in-Due.is here) past)
      | in-Whole w ↦ absurd (subst IsPastTree (subst (λ (s : State). IsDueAt s reading) w.in-Whole.is here) past)
    ])
