-- what is told of the dossier that was read last
use Rattle.std.specs.Prelude.{◌≡◌, ℕ, List}
use Rattle.cert_checker.specs.Checked.{Checked, IsWholeAt}
use Rattle.cert_checker.specs.declared.checker.Verdict.{Verdict}
use Rattle.dossier_terms.specs.Dossier.{Dossier}
use Rattle.bundle_join.specs.declared.day.Day.{Day}

-- it is of the dossier that the checker has, with this text, of which this is said
pub record IsToldBy (checker : Checked) (verdict : Verdict) (text : List ℕ) (day : Day) : Type 0 where
  pub instance : (d : Dossier) → IsWholeAt checker.at d → day.instance.now ≡ d.instance
  pub bytes : day.text.now ≡ text
  pub unassigned : day.unassigned ≡ verdict.unassigned
  pub bound : day.bound ≡ verdict.bound
