use Rattle.std.proofs.Common.{◌∷◌, [], length, map, take}
use Rattle.std.specs.List.{filter, flat_map, range_with_len}
use Rattle.crew_io.specs.Puts.{Puts}
use Rattle.crew_io.specs.Chains.{fine}
use Rattle.roster_print.specs.Roster.{is_unassigned, open_line}
use Rattle.roster_print.proofs.Texts.{text}
use Rattle.roster_print.proofs.put_open.Given as goal

abbrev pub invariant-loop-j : goal.invariant-loop-j
invariant-loop-j g l =
    Puts g.K.Sink (flat_map (λ j. text (map (open_line l.instance) (filter (is_unassigned l.plan) (j ∷ [])))) (take l.j (range_with_len 0 (length l.plan))))
    l.fn.out l.out fine
