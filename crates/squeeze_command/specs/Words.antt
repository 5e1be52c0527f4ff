-- the words of the command `squeeze`
use Rattle.std.specs.Prelude.{◌≡◌, ◌≤◌, ◌∷◌, [], codes}
use Rattle.std.specs.Fmt.{decimal}
use Rattle.crew_terms.specs.Words.{Words}
use Rattle.squeeze_terms.specs.declared.TheConstants.{MOST_STEPS}
use Rattle.squeeze_command.specs.declared.words.Squeeze.{Squeeze}

-- the number of its steps is in its range
abbrev pub IsSqueeze : Squeeze → Type 0
IsSqueeze s = s.steps ≤ MOST_STEPS

-- the words `squeeze STEPS`
abbrev pub squeeze_words : Squeeze → Words
squeeze_words s = codes "squeeze" ∷ decimal s.steps ∷ []

-- the words ask for this, whose number is in its range
abbrev pub AsksForSqueeze : Squeeze → Words → Type 0
AsksForSqueeze s words = IsSqueeze s × (words ≡ squeeze_words s)
