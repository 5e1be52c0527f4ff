-- lines are those of one sheet at most
use Rattle.std.proofs.Common.{◌≡◌, List, [], ◌∷◌, ◌++◌, refl, subst, inl, inr}
use Rattle.crew_terms.specs.Words.{Words}
use Rattle.sheet_terms.specs.Lines.{lines_of_sheet}
use Rattle.sheet_terms.specs.Reading.{SheetReading, SheetAnswer, First, More, Whole}
use Rattle.sheet_terms.specs.Sheet.{Sheet, IsGoodSheet}
use Rattle.sheet_terms.specs.Table.{SaysOfSheet, ReachesInSheet, EndsSheet}
use Rattle.sheet_reads.proofs.Reaches.{reaches_more}

-- the law of the table
abbrev pub SaysOneThing : Type 0
SaysOneThing = (lines : List Words) (s : SheetReading) (ws : Words) (a b : SheetAnswer) → ReachesInSheet First lines s → SaysOfSheet s ws a → SaysOfSheet s ws b → a ≡ b

no_more : {A : Type 0} (xs ys : List A) → xs ≡ [] → xs ++ ys ≡ [] → ys ≡ []
no_more [] ys e h = h
no_more (x ∷ xs) ys e h = absurd cc

-- behind lines that lead to a state
ended_one : SaysOneThing → (before : List Words) (s : SheetReading) (lines more : List Words) (x y : Sheet) → ReachesInSheet First before s
    → EndsSheet s lines x → EndsSheet s (lines ++ more) y → (more ≡ []) × (x ≡ y)
ended_one one before s [] more x y r h k = absurd h
ended_one one before s (ws ∷ lines) more x y r (inl h) (inl k) =
    (no_more lines more h.1 k.1, (let a : Whole x ≡ Whole y = one before s ws (Whole x) (Whole y) r h.0 k.0 in cc))
ended_one one before s (ws ∷ lines) more x y r (inl h) (inr k) = absurd (let a : Whole x ≡ More k.0 = one before s ws (Whole x) (More k.0) r h.0 k.1 in cc)
ended_one one before s (ws ∷ lines) more x y r (inr h) (inl k) = absurd (let a : More h.0 ≡ Whole y = one before s ws (More h.0) (Whole y) r h.1 k.0 in cc)
ended_one one before s (ws ∷ lines) more x y r (inr h) (inr k) =
    let a : More h.0 ≡ More k.0 = one before s ws (More h.0) (More k.0) r h.1 k.1 in
    let b : k.0 ≡ h.0 = cc in
    ended_one one (before ++ ws ∷ []) h.0 lines more x y (reaches_more First before s ws h.0 r h.1) h.2 (subst (λ z. EndsSheet z (lines ++ more) y) b k.2)

pub lines_one : SaysOneThing → ((s : Sheet) → IsGoodSheet s → EndsSheet First (lines_of_sheet s) s)
    → (s t : Sheet) (more : List Words) → IsGoodSheet s → IsGoodSheet t → lines_of_sheet t ≡ lines_of_sheet s ++ more → (more ≡ []) × (s ≡ t)
lines_one one is_read s t more h k same =
    ended_one one [] First (lines_of_sheet s) more s t refl (is_read s h) (subst (λ ls. EndsSheet First ls t) same (is_read t k))
