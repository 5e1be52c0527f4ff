use Rattle.std.proofs.Common.{◌∷◌, [], length, map, take}
use Rattle.std.specs.List.{filter, flat_map, range_with_len}
use Rattle.crew_io.specs.Puts.{Puts}
use Rattle.crew_io.specs.Chains.{fine}
use Rattle.crew_terms.specs.Words.{line_text}
use Rattle.delay_print.specs.Texts.{delay_line, is_late}
use Rattle.delay_print.proofs.put_lates.Given as goal

abbrev pub invariant-loop-j : goal.invariant-loop-j
invariant-loop-j g l =
    Puts g.K.Sink (flat_map (λ j. flat_map line_text (map (delay_line l.instance l.plan l.waits) (filter (is_late l.plan l.waits) (j ∷ [])))) (take l.j (range_with_len 0 (length l.plan))))
    l.fn.out l.out fine
