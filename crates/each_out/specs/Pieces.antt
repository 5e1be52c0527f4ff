-- pieces of a text
use Rattle.std.specs.Prelude.{ℕ, List}
use Rattle.std.specs.List.{flat_map}
use Rattle.std.specs.Fmt.{decimal}
use Rattle.each_out.specs.declared.pieces.Piece.{Piece}
use Rattle.each_out.specs.declared.pieces.Piece.TheVariants.{Text, Number}

-- the text that a piece is
abbrev pub piece_text : Piece → List ℕ
piece_text (Text bytes) = bytes.now
piece_text (Number n) = decimal n

-- texts, one after another
abbrev pub joined : List (List ℕ) → List ℕ
joined texts = flat_map (λ text. text) texts
