-- lines of runs of potentials
use Rattle.std.proofs.Common.{◌≡◌, ◌∷◌, ℕ, List, length, drop, ap, sym, ◌∙◌, arith}
use Rattle.std.specs.Prelude.{codes}
use Rattle.std.specs.Fmt.{decimal}
use Rattle.crew_terms.specs.Words.{Words}
use Rattle.dossier_terms.specs.Counted.{runs_length}
use Rattle.dossier_terms.specs.Runs.{Run}
use Rattle.dossier_terms.specs.Lines.{steps_line}
use Rattle.dossier_terms.specs.Ranges.{IsStepsLine, IsPairs, BeginsAt}
use Rattle.line_in.specs.Fields.{SpellRuns}
use Rattle.cert_format.specs.declared.kinds.LineKind.{LineKind}
use Rattle.cert_format.specs.declared.kinds.LineKind.TheVariants as kinds
use Rattle.cert_format.specs.Lines.{IsStepsOf}

pub steps_line_of : (task : ℕ) (ws : Words) (runs : List Run) → BeginsAt (codes "steps") task ws → IsPairs ws → SpellRuns runs (drop 2 ws)
    → IsStepsLine runs × (ws ≡ steps_line task runs)
steps_line_of task ws runs (rest, is) pairs s =
    let here : drop 2 ws ≡ rest = ap (drop 2) is in
    let all = pairs.1 in
    let whole = ap length is in
    let size = ap length (sym here ∙ s.spelled) ∙ runs_length runs in (
      record { some = omega arith; minutes = s.minutes; numbers = s.numbers },
      is ∙ ap (λ xs. codes "steps" ∷ decimal task ∷ xs) (sym here ∙ s.spelled),
    )

pub no_steps : (task : ℕ) (ws : Words) → ((runs : List Run) → SpellRuns runs (drop 2 ws) → ⊥) → (kind : LineKind) → IsStepsOf task ws kind → ⊥
no_steps task ws none (kinds.Steps j pairs) (runs, e, same, h, is) = none runs (record { minutes = h.minutes; numbers = h.numbers; spelled = ap (drop 2) is })
no_steps task ws none _ h = absurd h
