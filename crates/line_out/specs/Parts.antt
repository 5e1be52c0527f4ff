-- the parts of a line that is written
use Rattle.std.specs.Prelude.{ℕ, List, ◌∷◌}
use Rattle.std.specs.Fmt.{decimal, signed_decimal}
use Rattle.line_out.specs.declared.Part.{Part}
use Rattle.line_out.specs.declared.Part.TheVariants.{Word, Number, Signed}

-- the word that a part is
abbrev pub part_word : Part → List ℕ
part_word (Word w) = w.now
part_word (Number n) = decimal n
part_word (Signed n) = signed_decimal n

-- a word that is not the first of its line: the space before it, and the word
abbrev pub next_word : List ℕ → List ℕ
next_word w = 32 ∷ w
