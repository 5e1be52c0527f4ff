use Rattle.std.proofs.Common.{◌≡◌, ◌<◌, ℕ}
use Rattle.dossier_terms.specs.Dossier.{Dossier, IsGood}
use Rattle.column_arena.specs.Columns.{column_of}
use Rattle.cert_checker.specs.Checked.{IsWholeAt}
use Rattle.day_audit.proofs.kept.keeps.Given as goal

abbrev pub invariant-loop-id : goal.invariant-loop-id
invariant-loop-id l = (d : Dossier) → IsWholeAt l.checker.at d → IsGood d → (c : ℕ) → c < l.id → column_of l.columns c ≡ column_of d.pool c
