use Rattle.std.proofs.Common.{◌++◌, ap, sym, ◌∙◌}
use Rattle.std.specs.List.{flat_map}
use Rattle.crew_io.specs.Chains.{puts_front, puts_same, puts_then}
use Rattle.crew_terms.specs.Words.{line_text}
use Rattle.roster_print.specs.Roster.{unassigned_tasks}
use Rattle.why_not.specs.Days.{Planned}
use Rattle.why_not.specs.Why.{head_line, task_text}
use Rattle.why_not.proofs.Texts.{why_parts}
use Rattle.why_not.proofs.text.why.Goals as goal

pub returns-in_err-put_head : goal.returns-in_err-put_head
returns-in_err-put_head g c =
    let i = c.args.instance.now in
    let p = c.args.plan.now in
    puts_front g.K.Sink _ _ _ _ _ c.from_residual.result c.from_residual.ensures.0 c.in_err-put_head.ensures
    (record { rest = flat_map (task_text i p) (unassigned_tasks p); is = why_parts i p })

pub returns : goal.returns
returns g c =
    let i = c.args.instance.now in
    let p = c.args.plan.now in
    puts_same g.K.Sink _ _ _ _ _
    (ap (λ (s : Planned). line_text (head_line i p) ++ flat_map (task_text s.instance s.plan) (unassigned_tasks s.plan)) c.new.ensures ∙ sym (why_parts i p))
    (puts_then g.K.Sink _ _ _ _ _ _ _ c.in_ok-put_head.ensures c.put_tasks.ensures)
