-- a line that goes on, or that ends a sheet, with the lines before it
use Rattle.std.proofs.Common.{◌≡◌, List, [], ◌∷◌, ◌++◌, sym, refl, subst, inl, inr}
use Rattle.crew_terms.specs.Words.{Words}
use Rattle.sheet_terms.specs.Reading.{SheetReading, More, Whole}
use Rattle.sheet_terms.specs.Sheet.{Sheet}
use Rattle.sheet_terms.specs.Table.{SaysOfSheet, ReachesInSheet, EndsSheet}

pub reaches_more : (s : SheetReading) (lines : List Words) (m : SheetReading) (ws : Words) (t : SheetReading) → ReachesInSheet s lines m → SaysOfSheet m ws (More t) → ReachesInSheet s (lines ++ ws ∷ []) t
reaches_more s [] m ws t h k = (t, subst (λ z. SaysOfSheet z ws (More t)) (sym h) k, refl)
reaches_more s (x ∷ lines) m ws t h k = (h.0, h.1, reaches_more h.0 lines m ws t h.2 k)

pub reaches_end : (s : SheetReading) (lines : List Words) (m : SheetReading) (ws : Words) (sheet : Sheet) → ReachesInSheet s lines m → SaysOfSheet m ws (Whole sheet) → EndsSheet s (lines ++ ws ∷ []) sheet
reaches_end s [] m ws sheet h k = inl (subst (λ z. SaysOfSheet z ws (Whole sheet)) (sym h) k, refl)
reaches_end s (x ∷ lines) m ws sheet h k = inr (h.0, h.1, reaches_end h.0 lines m ws sheet h.2 k)
