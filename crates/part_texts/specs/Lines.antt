-- the one spelling of a bundle
use Rattle.std.specs.Prelude.{◌+◌, ◌++◌, ℕ, List, [], ◌∷◌, length, codes}
use Rattle.std.specs.List.{flat_map}
use Rattle.std.specs.Fmt.{decimal}
use Rattle.crew_terms.specs.Words.{Words, line_text}
use Rattle.crew_terms.specs.Plan.{unassigned_count}
use Rattle.dossier_terms.specs.Lines.{lines_of, text_of}
use Rattle.part_texts.specs.Bundle.{Bundle, bound_of}

-- the first line of a bundle
abbrev pub first_words : Words
first_words = codes "crew" ∷ codes "parts" ∷ codes "1" ∷ []

-- the first word of the line that tells how many parts there are
abbrev pub parts_word : List ℕ
parts_word = codes "parts"

-- how many parts there are
abbrev pub count_words : ℕ → Words
count_words k = parts_word ∷ decimal k ∷ []

-- the one spelling of a bundle: the line `crew parts 1`, the text of the day's dossier, the line `parts K`, and the texts of K dossiers
abbrev pub text_of_bundle : Bundle → List ℕ
text_of_bundle b = line_text first_words ++ (text_of b.day ++ (line_text (count_words (length b.parts)) ++ flat_map text_of b.parts))

-- how many lines that are
abbrev pub lines_in_bundle : Bundle → ℕ
lines_in_bundle b = 2 + (length (lines_of b.day) + length (flat_map lines_of b.parts))

-- what is written for a good bundle: how many tasks the day's plan leaves unassigned, how many every legal plan leaves at least, and the number
-- of parts
abbrev pub yes_parts_line : ℕ → ℕ → ℕ → List ℕ
yes_parts_line u l k = line_text (codes "yes" ∷ codes "unassigned" ∷ decimal u ∷ codes "bound" ∷ decimal l ∷ codes "parts" ∷ decimal k ∷ [])

abbrev pub yes_text : Bundle → List ℕ
yes_text b = yes_parts_line (unassigned_count b.day.plan) (bound_of b) (length b.parts)
