-- what bytes are found to be that a checker is fed with
use Rattle.std.specs.Prelude.{◌≡◌, ◌++◌, ℕ, List, map, All}
use Rattle.std.specs.List.{flat_map}
use Rattle.crew_terms.specs.Words.{IsLine, with_feed, words_of}
use Rattle.dossier_terms.specs.Dossier.{Dossier, IsGood}
use Rattle.dossier_terms.specs.Lines.{text_of}
use Rattle.dossier_terms.specs.Reading.{Reading, Form}
use Rattle.dossier_terms.specs.Table.{Reaches}
use Rattle.cert_checker.specs.Checked.{Checked, IsDueAt, verdict_of}
use Rattle.cert_checker.specs.declared.checker.Said.{Said}
use Rattle.cert_checker.specs.declared.checker.Said.TheVariants as said
use Rattle.cert_checker.specs.declared.checker.Verdict.{Verdict}
use Rattle.trial_command.specs.declared.feed.Finding.{Finding}
use Rattle.trial_command.specs.declared.feed.Finding.TheVariants.{Lines, Whole, Refused}

-- the bytes are lines, which lead to the line of a dossier that is due, and the front of that line; the checker waits for it
pub record AreLines (bytes front : List ℕ) (checker : Checked) : Type 0 where
  pub lines : List (List ℕ)
  pub due : Reading
  pub text : bytes ≡ flat_map with_feed lines ++ front
  pub each : All IsLine lines
  pub begun : IsLine front
  pub leads : Reaches Form (map words_of lines) due
  pub stands : IsDueAt checker.at due

-- the bytes are a good dossier, which says this
pub record AreDossier (bytes : List ℕ) (verdict : Verdict) : Type 0 where
  pub dossier : Dossier
  pub good : IsGood dossier
  pub text : bytes ≡ text_of dossier
  pub says : verdict ≡ verdict_of dossier

-- no good dossier begins with the bytes
abbrev pub BeginNone : List ℕ → Type 0
BeginNone bytes = (d : Dossier) (more : List ℕ) → IsGood d → text_of d ≡ bytes ++ more → ⊥

-- so it is found of the bytes, of which the checker has judged the lines
abbrev pub Holds : Finding → List ℕ → List ℕ → Checked → Type 0
Holds Lines bytes front checker = AreLines bytes front checker
Holds (Whole verdict) bytes front checker = AreDossier bytes verdict
Holds Refused bytes front checker = BeginNone bytes

-- what is found behind a line of which this is said
abbrev pub finding_of : Said → Finding
finding_of said.More = Lines
finding_of (said.Whole verdict) = Whole verdict
finding_of (said.No line reason) = Refused
