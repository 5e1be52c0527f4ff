-- bytes are those of one list of sheets
use Rattle.std.proofs.Common.{◌≡◌, ◌++◌, [], ◌∷◌, ℕ, List, ap, sym, ◌∙◌, refl, inl, inr, ⊎_elim}
use Rattle.std.specs.Prelude.{◌⊎◌, map}
use Rattle.std.specs.List.{AllByRecursion, flat_map}
use Rattle.std.proofs.lemmas.List.{append_cancel_left}
use Rattle.std.proofs.lemmas.List.Elements.{recursion_from_All}
use Rattle.crew_terms.specs.Words.{Words, words_of, line_of, with_feed}
use Rattle.text_laws.proofs.Feeds.{lines_same}
use Rattle.text_laws.proofs.Read.{words_back, lines_whole, text_is}
use Rattle.sheet_terms.specs.Lines.{lines_of_sheet}
use Rattle.sheet_terms.specs.Sheet.{Sheet, IsGoodSheet}
use Rattle.sheet_texts.specs.Accepted.{AreAcceptedSheets}
use Rattle.sheet_texts.proofs.Read.{lines_good_many, texts_are}

-- the law of lines
abbrev pub IsOneSheet : Type 0
IsOneSheet = (s t : Sheet) (more : List Words) → IsGoodSheet s → IsGoodSheet t → lines_of_sheet t ≡ lines_of_sheet s ++ more → (more ≡ []) × (s ≡ t)

abbrev Begins : List Words → List Words → Type 0
Begins xs ys = (more : List Words) × (ys ≡ xs ++ more)

-- of two lists that are fronts of one, one is a front of the other
fronts : (xs ys a b : List Words) → xs ++ a ≡ ys ++ b → Begins xs ys ⊎ Begins ys xs
fronts [] ys a b e = inl (ys, refl)
fronts (x ∷ xs) [] a b e = inr (x ∷ xs, refl)
fronts (x ∷ xs) (y ∷ ys) a b e =
    let f : x ≡ y = cc in
    let g : xs ++ a ≡ ys ++ b = cc in
    ⊎_elim (λ (p : Begins xs ys). inl (p.0, ap (λ z. z ∷ ys) (sym f) ∙ ap (λ zs. x ∷ zs) p.1)) (λ (p : Begins ys xs). inr (p.0, ap (λ z. z ∷ xs) f ∙ ap (λ zs. y ∷ zs) p.1)) (fronts xs ys a b g)

first_once : IsOneSheet → (s t : Sheet) (a b : List Words) → IsGoodSheet s → IsGoodSheet t → lines_of_sheet s ++ a ≡ lines_of_sheet t ++ b → s ≡ t
first_once one s t a b h k e = ⊎_elim (λ (p : Begins (lines_of_sheet s) (lines_of_sheet t)). (one s t p.0 h k p.1).1)
    (λ (p : Begins (lines_of_sheet t) (lines_of_sheet s)). sym (one t s p.0 k h p.1).1) (fronts (lines_of_sheet s) (lines_of_sheet t) a b e)

lines_once : IsOneSheet → (xs ys : List Sheet) → AllByRecursion IsGoodSheet xs → AllByRecursion IsGoodSheet ys → flat_map lines_of_sheet xs ≡ flat_map lines_of_sheet ys → xs ≡ ys
lines_once one [] [] h k e = refl
lines_once one [] (t ∷ ys) h k e = absurd cc
lines_once one (s ∷ xs) [] h k e = absurd cc
lines_once one (s ∷ xs) (t ∷ ys) h k e =
    let f = first_once one s t (flat_map lines_of_sheet xs) (flat_map lines_of_sheet ys) h.0 k.0 e in
    let g : lines_of_sheet s ++ flat_map lines_of_sheet xs ≡ lines_of_sheet s ++ flat_map lines_of_sheet ys = e ∙ ap (λ x. lines_of_sheet x ++ flat_map lines_of_sheet ys) (sym f) in
    let r = lines_once one xs ys h.1 k.1 (append_cancel_left (lines_of_sheet s) (flat_map lines_of_sheet xs) (flat_map lines_of_sheet ys) g) in
    ap (λ x. x ∷ xs) f ∙ ap (λ zs. t ∷ zs) r

pub accepted_once : IsOneSheet → (bytes : List ℕ) (sheets others : List Sheet) → AreAcceptedSheets bytes sheets → AreAcceptedSheets bytes others → sheets ≡ others
accepted_once one bytes sheets others h k =
    let a = lines_good_many sheets h.good in
    let b = lines_good_many others k.good in
    let xs = flat_map lines_of_sheet sheets in
    let ys = flat_map lines_of_sheet others in
    let same : flat_map with_feed (map line_of xs) ≡ flat_map with_feed (map line_of ys) = sym (text_is xs) ∙ sym (texts_are sheets) ∙ sym h.text ∙ k.text ∙ texts_are others ∙ text_is ys in
    let lines = lines_same (map line_of xs) (map line_of ys) (lines_whole xs a) (lines_whole ys b) same in
    lines_once one sheets others (recursion_from_All IsGoodSheet sheets h.good) (recursion_from_All IsGoodSheet others k.good)
    (sym (words_back xs a) ∙ ap (λ ls. map words_of ls) lines ∙ words_back ys b)
