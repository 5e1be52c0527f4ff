-- the words of the commands `parts` and `part`
use Rattle.std.specs.Prelude.{◌≡◌, ◌≤◌, ◌∷◌, [], codes}
use Rattle.std.specs.Fmt.{decimal}
use Rattle.crew_terms.specs.Words.{Words}
use Rattle.crew_terms.specs.declared.TheConstants.{MOST_NODES, MOST_TASKS}
use Rattle.parts_cli.specs.declared.words.OnePart.{OnePart}
use Rattle.parts_cli.specs.declared.words.Parts.{Parts}

-- the number of its nodes is in its range
abbrev pub IsParts : Parts → Type 0
IsParts p = p.nodes ≤ MOST_NODES

-- the words `parts NODES`
abbrev pub parts_words : Parts → Words
parts_words p = codes "parts" ∷ decimal p.nodes ∷ []

-- the words ask for this, whose number is in its range
abbrev pub AsksForParts : Parts → Words → Type 0
AsksForParts p words = IsParts p × (words ≡ parts_words p)

-- its numbers are in their ranges
pub record IsOnePart (p : OnePart) : Type 0 where
  pub few : p.nodes ≤ MOST_NODES
  pub some : 1 ≤ p.number
  pub within : p.number ≤ MOST_TASKS

-- the words `part NODES J`
abbrev pub part_words : OnePart → Words
part_words p = codes "part" ∷ decimal p.nodes ∷ decimal p.number ∷ []

-- the words ask for this, whose numbers are in their ranges
abbrev pub AsksForPart : OnePart → Words → Type 0
AsksForPart p words = IsOnePart p × (words ≡ part_words p)
