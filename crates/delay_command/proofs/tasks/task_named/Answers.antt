use Rattle.std.proofs.Common.{◌≡◌, ◌<◌, length, ap, rules, sym, ◌∙◌}
use Rattle.std.specs.Str.{bytes_eq}
use Rattle.crew_terms.specs.declared.Task.{Task}
use Rattle.delay_command.proofs.Named.{found_at, found_nowhere}
use Rattle.delay_command.proofs.tasks.task_named.Goals as goal

pub returns-then-eq : goal.returns-then-eq
returns-then-eq c =
    let below : c.loop-j.j < length c.args.instance.now.tasks = search rules in (
      found_at c.args.instance.now c.args.name.now c.loop-j.j below c.loop-j.invariant
          (ap (λ (t : Task). bytes_eq t.name c.args.name.now) (sym c.task.ensures.task) ∙ sym c.eq.ensures ∙ c.if-eq.true),
      below,
    )

pub returns : goal.returns
returns c =
    let all : c.loop-j.j ≡ length c.args.instance.now.tasks = search rules in
    found_nowhere c.args.instance.now c.args.name.now c.loop-j.j all c.loop-j.invariant
