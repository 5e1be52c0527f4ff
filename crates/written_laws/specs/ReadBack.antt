-- what the lines of an instance are read as
use Rattle.std.specs.Prelude.{◌≡◌, ℕ, pos, List, Result, Ok, map}
use Rattle.crew_terms.specs.Words.{Words, words_of, line_of, IsLine}
use Rattle.crew_terms.specs.declared.Team.{Team}
use Rattle.crew_terms.specs.declared.Task.{Task}
use Rattle.dossier_terms.specs.declared.Size.{Size}
use Rattle.dossier_terms.specs.Dossier.{skills_of}
use Rattle.cert_format.specs.declared.kinds.Expect.{Expect}
use Rattle.cert_format.specs.declared.kinds.LineKind.{LineKind}
use Rattle.cert_format.specs.declared.kinds.LineKind.TheVariants as kinds
use Rattle.line_in.specs.declared.faults.LineFault.{LineFault}
use Rattle.cert_format.specs.Lines.{ReadsLine}

-- the line of these words, cut at its spaces, is read as this where this kind is due, and as nothing else
pub record IsReadAs (expect : Expect) (words : Words) (kind : LineKind) : Type 0 where
  pub line : IsLine (line_of words)
  pub read : ReadsLine expect (words_of (line_of words)) (Ok kind)
  pub only : (answer : Result LineKind LineFault) → ReadsLine expect (words_of (line_of words)) answer → answer ≡ Ok kind

-- ---- what the lines of an instance say

abbrev pub size_kind : Size → LineKind
size_kind z = kinds.Size z

abbrev pub place_kind : List ℕ → LineKind
place_kind name = kinds.Place name

abbrev pub travel_kind : List ℕ → LineKind
travel_kind row = kinds.Travel (map pos row)

abbrev pub team_kind : Team → LineKind
team_kind t = kinds.Team t.name t.home t.from t.until (map pos (skills_of t.skills))

abbrev pub task_kind : Task → LineKind
task_kind t = kinds.Task t.name t.place t.earliest t.latest t.minutes t.teams (map pos (skills_of t.skills))
