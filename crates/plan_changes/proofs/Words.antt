-- the words of lines that are gathered
use Rattle.std.proofs.Common.{◌≡◌, ◌++◌, ◌∷◌, [], ℕ, List, map, ap, refl, ◌∙◌, append_assoc}
use Rattle.std.proofs.lemmas.List.{map-append}
use Rattle.line_out.specs.Parts.{part_word}
use Rattle.line_out.specs.declared.Part.{Part}

-- a part more
part_more : (old new : List Part) (p : Part) → new ≡ old ++ p ∷ [] → map part_word new ≡ map part_word old ++ part_word p ∷ []
part_more old new p is = ap (map part_word) is ∙ map-append part_word old (p ∷ [])

-- a part, names, a part and names
pub two_lists : (none a b c d : List Part) (p q : Part) (xs ys : List (List ℕ)) → none ≡ [] → a ≡ none ++ p ∷ [] → map part_word b ≡ map part_word a ++ xs → c ≡ b ++ q ∷ []
    → map part_word d ≡ map part_word c ++ ys → map part_word d ≡ ((part_word p ∷ []) ++ xs) ++ (part_word q ∷ ys)
two_lists none a b c d p q xs ys e0 e1 e2 e3 e4 =
    e4
    ∙ ap (λ w. w ++ ys) (part_more b c q e3 ∙ ap (λ w. w ++ part_word q ∷ []) (e2 ∙ ap (λ w. w ++ xs) (part_more none a p e1 ∙ ap (λ l. map part_word l ++ part_word p ∷ []) e0)))
    ∙ append_assoc ((part_word p ∷ []) ++ xs) (part_word q ∷ []) ys

-- four parts and names
pub four_and_list : (none a b c d e : List Part) (p q r s : Part) (xs : List (List ℕ)) → none ≡ [] → a ≡ none ++ p ∷ [] → b ≡ a ++ q ∷ [] → c ≡ b ++ r ∷ [] → d ≡ c ++ s ∷ []
    → map part_word e ≡ map part_word d ++ xs → map part_word e ≡ (part_word p ∷ part_word q ∷ part_word r ∷ part_word s ∷ []) ++ xs
four_and_list none a b c d e p q r s xs e0 e1 e2 e3 e4 e5 = let all : d ≡ p ∷ q ∷ r ∷ s ∷ [] = rw (e4, e3, e2, e1, e0) refl in e5 ∙ ap (λ l. map part_word l ++ xs) all
