-- what the fields of the words of a line stand for
use Rattle.std.specs.Prelude.{ℕ, List, All}
use Rattle.field_table.specs.Pieces.{pieces_of, IsCutOf}
use Rattle.field_table.specs.declared.cuts.LineWords.TheInside.{Inside}

-- the pieces of the line
abbrev pub cut_words : Inside → List (List ℕ)
cut_words a = pieces_of a.line.now a.cuts.now

-- each cut is one of the line
abbrev pub AreCuts : Inside → Type 0
AreCuts a = All (IsCutOf a.line.now) a.cuts.now
