use Rattle.std.proofs.Common.{◌∷◌, [], map, take}
use Rattle.std.specs.List.{filter, flat_map, range_with_len}
use Rattle.crew_terms.specs.Limits.{tasks_in}
use Rattle.crew_io.specs.Puts.{Puts}
use Rattle.crew_io.specs.Chains.{fine}
use Rattle.dossier_out.specs.Tables.{may_begin, row_line}
use Rattle.dossier_out.specs.Texts.{text}
use Rattle.dossier_out.proofs.tables.put_rows.Given as goal

abbrev pub invariant-loop-j : goal.invariant-loop-j
invariant-loop-j g l =
    Puts g.K.Sink (flat_map (λ j. text (map (row_line l.limits.limits l.k l.table) (filter (may_begin l.limits.limits l.k) (j ∷ [])))) (take l.j (range_with_len 0 (tasks_in l.limits.limits))))
    l.fn.out l.out fine
