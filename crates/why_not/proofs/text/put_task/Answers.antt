use Rattle.std.proofs.Common.{◌++◌, ap, sym, ◌∙◌}
use Rattle.std.specs.List.{flat_map}
use Rattle.crew_io.specs.Chains.{puts_front, puts_same, puts_then}
use Rattle.crew_terms.specs.Instance.{Instance}
use Rattle.crew_terms.specs.Words.{line_text}
use Rattle.why_not.specs.Why.{fit_line, run_lines, task_line}
use Rattle.why_not.proofs.Texts.{name_front, runs_front, task_parts}
use Rattle.why_not.proofs.text.put_task.Goals as goal

pub returns-in_err-put_name : goal.returns-in_err-put_name
returns-in_err-put_name g c =
    let s = c.args.days.now in
    puts_front g.K.Sink _ _ _ _ _ c.from_residual.result c.from_residual.ensures.0
    (puts_same g.K.Sink _ _ _ _ _ (ap (λ (i : Instance). line_text (task_line i c.args.j)) c.instance.ensures.instance) c.in_err-put_name.ensures)
    (name_front s.instance s.plan c.args.j)

pub returns-in_err-put_runs : goal.returns-in_err-put_runs
returns-in_err-put_runs g c =
    let s = c.args.days.now in
    puts_front g.K.Sink _ _ _ _ _ c.from_residual-in_err-put_runs.result c.from_residual-in_err-put_runs.ensures.0
    (puts_then g.K.Sink _ _ _ _ _ _ _
    (puts_same g.K.Sink _ _ _ _ _ (ap (λ (i : Instance). line_text (task_line i c.args.j)) c.instance.ensures.instance) c.in_ok-put_name.ensures) c.in_err-put_runs.ensures)
    (runs_front s.instance s.plan c.args.j)

pub returns : goal.returns
returns g c =
    let s = c.args.days.now in
    puts_same g.K.Sink _ _ _ _ _
    (ap (λ fit. (line_text (task_line s.instance c.args.j) ++ flat_map line_text (run_lines s.instance s.plan c.args.j)) ++ line_text (fit_line fit)) c.first_fit_in.ensures.fit
    ∙ sym (task_parts s.instance s.plan c.args.j))
    (puts_then g.K.Sink _ _ _ _ _ _ _
    (puts_then g.K.Sink _ _ _ _ _ _ _
    (puts_same g.K.Sink _ _ _ _ _ (ap (λ (i : Instance). line_text (task_line i c.args.j)) c.instance.ensures.instance) c.in_ok-put_name.ensures) c.in_ok-put_runs.ensures)
    c.put_fit.ensures)
