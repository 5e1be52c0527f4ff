-- what is said of a line
use Rattle.std.specs.Prelude.{◌≡◌}
use Rattle.dossier_terms.specs.Dossier.{Dossier}
use Rattle.cert_checker.specs.Due.{IsEndOf}
use Rattle.cert_checker.specs.Checked.{verdict_of}
use Rattle.cert_checker.specs.declared.checker.State.{State}
use Rattle.cert_checker.specs.declared.checker.State.TheVariants as states
use Rattle.cert_checker.specs.declared.checker.Said.{Said}
use Rattle.cert_checker.specs.declared.checker.Said.TheVariants.{More, Whole, No}

-- what is said of the line that was judged last, by where the checker stands behind it
abbrev pub IsSaidAt : State → Said → Type 0
IsSaidAt (states.Due due) said = said ≡ More
IsSaidAt (states.Whole ended) said = (d : Dossier) → IsEndOf ended d → said ≡ Whole (verdict_of d)
IsSaidAt (states.Refused line reason) said = said ≡ No line reason
IsSaidAt states.Spent said = ⊥
