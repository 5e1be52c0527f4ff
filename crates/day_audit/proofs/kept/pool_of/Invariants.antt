use Rattle.std.proofs.Common.{◌≡◌, take}
use Rattle.dossier_terms.specs.Dossier.{Dossier, IsGood}
use Rattle.cert_checker.specs.Checked.{IsWholeAt}
use Rattle.day_audit.proofs.kept.pool_of.Given as goal

abbrev pub invariant-loop-id : goal.invariant-loop-id
invariant-loop-id l = (d : Dossier) → IsWholeAt l.checker.at d → IsGood d → l.columns ≡ take l.id d.pool
