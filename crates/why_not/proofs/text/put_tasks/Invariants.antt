use Rattle.std.proofs.Common.{◌∷◌, [], length, take}
use Rattle.std.specs.List.{filter, flat_map, range_with_len}
use Rattle.crew_io.specs.Puts.{Puts}
use Rattle.crew_io.specs.Chains.{fine}
use Rattle.roster_print.specs.Roster.{is_unassigned}
use Rattle.why_not.specs.Why.{task_text}
use Rattle.why_not.proofs.text.put_tasks.Given as goal

abbrev pub invariant-loop-j : goal.invariant-loop-j
invariant-loop-j g l =
    let p = l.days.plan in
    Puts g.K.Sink (flat_map (λ j. flat_map (task_text l.days.instance p) (filter (is_unassigned p) (j ∷ []))) (take l.j (range_with_len 0 (length p)))) l.fn.out l.out fine
