use Rattle.std.proofs.Common.{◌∷◌, [], map, take}
use Rattle.std.specs.List.{filter, flat_map, range_with_len}
use Rattle.crew_terms.specs.Limits.{has_required, tasks_in}
use Rattle.crew_io.specs.Puts.{Puts}
use Rattle.crew_io.specs.Chains.{fine}
use Rattle.cert_write.specs.Leaves.{extra_words}
use Rattle.dossier_out.specs.Texts.{text}
use Rattle.cert_write.proofs.leaf.put_extras.Given as goal

abbrev pub invariant-loop-j : goal.invariant-loop-j
invariant-loop-j g l =
    Puts g.K.Sink (flat_map (λ j. text (map (extra_words l.limits.limits l.prices) (filter (has_required l.limits.limits) (j ∷ [])))) (take l.j (range_with_len 0 (tasks_in l.limits.limits))))
    l.fn.out l.out fine
