use Rattle.std.proofs.Common.{◌++◌, ap, sym, ◌∙◌}
use Rattle.std.specs.Prelude.{codes}
use Rattle.crew_io.specs.Chains.{first_front, puts_front, puts_same, puts_then}
use Rattle.crew_terms.specs.Instance.{task_of}
use Rattle.crew_terms.specs.declared.Task.{Task}
use Rattle.why_not.specs.Why.{obstacle_text}
use Rattle.why_not.proofs.words.put_obstacle.Goals as goal

pub returns-in_err-put_all-in-Busy : goal.returns-in_err-put_all-in-Busy
returns-in_err-put_all-in-Busy g c =
    puts_same g.K.Sink _ _ _ _ _ (ap (obstacle_text c.args.instance.now) (sym c.in-Busy.is))
    (puts_front g.K.Sink _ _ _ _ _ c.from_residual.result c.from_residual.ensures.0 c.in_err-put_all-in-Busy.ensures.puts
    (first_front (codes "=busy:") (task_of c.args.instance.now c.in-Busy.h).name))

pub returns-in_ok-put_all-in-Busy : goal.returns-in_ok-put_all-in-Busy
returns-in_ok-put_all-in-Busy g c =
    let name = c.bytes.ensures.bytes ∙ ap (λ (t : Task). t.name) c.task.ensures.task in
    puts_same g.K.Sink _ _ _ _ _ (ap (λ n. codes "=busy:" ++ n) name ∙ ap (obstacle_text c.args.instance.now) (sym c.in-Busy.is))
    (puts_then g.K.Sink _ _ _ _ _ _ _ c.in_ok-put_all-in-Busy.ensures.puts c.put_all-in-Busy-2.ensures.puts)
