-- a text is that of one dossier, where lines are
use Rattle.std.proofs.Common.{◌≡◌, ◌++◌, [], ◌∷◌, ℕ, List, ap, sym, ◌∙◌, refl, inl, inr, ⊎_elim, arith, append-nil}
use Rattle.std.specs.Prelude.{◌⊎◌, map}
use Rattle.std.specs.List.{All, AllByRecursion, flat_map}
use Rattle.std.proofs.lemmas.List.{map-append, append_cancel_left}
use Rattle.std.proofs.lemmas.List.Elements.{recursion_from_All}
use Rattle.crew_terms.specs.Words.{Words, words_of, line_of, with_feed}
use Rattle.dossier_terms.specs.Accepted.{IsAccepted}
use Rattle.dossier_terms.specs.Dossier.{Dossier, IsGood}
use Rattle.dossier_terms.specs.Lines.{lines_of, text_of}
use Rattle.text_laws.proofs.Feeds.{IsOther, lines_last, lines_same}
use Rattle.text_laws.proofs.Good.{all_good}
use Rattle.text_laws.proofs.Read.{words_back, lines_whole, text_is, texts_are, lines_good_many}

-- the law of lines
abbrev pub IsOneDossier : Type 0
IsOneDossier = (d e : Dossier) (more : List Words) → IsGood d → IsGood e → lines_of e ≡ lines_of d ++ more → (more ≡ []) × (d ≡ e)

-- ---- one dossier

no_lines : (more : List (List ℕ)) → map words_of more ≡ [] → more ≡ []
no_lines [] e = refl
no_lines (line ∷ more) e = absurd cc

pub text_once : IsOneDossier → (d e : Dossier) (more : List ℕ) → IsGood d → IsGood e → text_of e ≡ text_of d ++ more → (more ≡ []) × (d ≡ e)
text_once one d e more h k t =
    let x = map line_of (lines_of d) in
    let y = map line_of (lines_of e) in
    let a = all_good d h in
    let b = all_good e k in
    let none : All IsOther [] = λ i n l. absurd (omega arith) in
    let same : flat_map with_feed y ++ [] ≡ flat_map with_feed x ++ more = append-nil (flat_map with_feed y) ∙ sym (text_is (lines_of e)) ∙ t ∙ ap (λ s. s ++ more) (text_is (lines_of d)) in
    let g = lines_last y x [] more (lines_whole (lines_of e) b) (lines_whole (lines_of d) a) none same in
    let all : lines_of e ≡ lines_of d ++ map words_of g.more =
    sym (words_back (lines_of e) b) ∙ ap (λ ls. map words_of ls) g.lines ∙ map-append words_of x g.more ∙ ap (λ ws. ws ++ map words_of g.more) (words_back (lines_of d) a) in
    let r = one d e (map words_of g.more) h k all in
    (g.text ∙ append-nil (flat_map with_feed g.more) ∙ ap (flat_map with_feed) (no_lines g.more r.0), r.1)

-- ---- many

abbrev Begins : List Words → List Words → Type 0
Begins xs ys = (more : List Words) × (ys ≡ xs ++ more)

-- of two lists that are fronts of one, one is a front of the other
fronts : (xs ys a b : List Words) → xs ++ a ≡ ys ++ b → Begins xs ys ⊎ Begins ys xs
fronts [] ys a b e = inl (ys, refl)
fronts (x ∷ xs) [] a b e = inr (x ∷ xs, refl)
fronts (x ∷ xs) (y ∷ ys) a b e =
    let f : x ≡ y = cc in
    let g : xs ++ a ≡ ys ++ b = cc in
    ⊎_elim (λ (p : Begins xs ys). inl (p.0, ap (λ z. z ∷ ys) (sym f) ∙ ap (λ zs. x ∷ zs) p.1)) (λ (p : Begins ys xs). inr (p.0, ap (λ z. z ∷ xs) f ∙ ap (λ zs. y ∷ zs) p.1)) (fronts xs ys a b g)

first_once : IsOneDossier → (d e : Dossier) (a b : List Words) → IsGood d → IsGood e → lines_of d ++ a ≡ lines_of e ++ b → d ≡ e
first_once one d e a b h k t = ⊎_elim (λ (p : Begins (lines_of d) (lines_of e)). (one d e p.0 h k p.1).1) (λ (p : Begins (lines_of e) (lines_of d)). sym (one e d p.0 k h p.1).1) (fronts (lines_of d) (lines_of e) a b t)

lines_once : IsOneDossier → (ds es : List Dossier) → AllByRecursion IsGood ds → AllByRecursion IsGood es → flat_map lines_of ds ≡ flat_map lines_of es → ds ≡ es
lines_once one [] [] h k t = refl
lines_once one [] (e ∷ es) h k t = absurd cc
lines_once one (d ∷ ds) [] h k t = absurd cc
lines_once one (d ∷ ds) (e ∷ es) h k t =
    let f = first_once one d e (flat_map lines_of ds) (flat_map lines_of es) h.0 k.0 t in
    let g : lines_of d ++ flat_map lines_of ds ≡ lines_of d ++ flat_map lines_of es = t ∙ ap (λ x. lines_of x ++ flat_map lines_of es) (sym f) in
    let r = lines_once one ds es h.1 k.1 (append_cancel_left (lines_of d) (flat_map lines_of ds) (flat_map lines_of es) g) in
    ap (λ x. x ∷ ds) f ∙ ap (λ xs. e ∷ xs) r

pub texts_once : IsOneDossier → (ds es : List Dossier) → All IsGood ds → All IsGood es → flat_map text_of ds ≡ flat_map text_of es → ds ≡ es
texts_once one ds es h k t =
    let a = lines_good_many ds h in
    let b = lines_good_many es k in
    let xs = flat_map lines_of ds in
    let ys = flat_map lines_of es in
    let same : flat_map with_feed (map line_of xs) ≡ flat_map with_feed (map line_of ys) = sym (text_is xs) ∙ sym (texts_are ds) ∙ t ∙ texts_are es ∙ text_is ys in
    let lines = lines_same (map line_of xs) (map line_of ys) (lines_whole xs a) (lines_whole ys b) same in
    lines_once one ds es (recursion_from_All IsGood ds h) (recursion_from_All IsGood es k) (sym (words_back xs a) ∙ ap (λ ls. map words_of ls) lines ∙ words_back ys b)

-- the law of texts
abbrev pub IsOneList : Type 0
IsOneList = (ds es : List Dossier) → All IsGood ds → All IsGood es → flat_map text_of ds ≡ flat_map text_of es → ds ≡ es

pub accepted_once : IsOneList → (bytes : List ℕ) (ds es : List Dossier) → IsAccepted bytes ds → IsAccepted bytes es → ds ≡ es
accepted_once one bytes ds es h k = one ds es h.good k.good (sym h.text ∙ k.text)
