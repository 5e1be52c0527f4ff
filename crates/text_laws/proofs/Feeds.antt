-- a text is cut at its LFs in one way
use Rattle.std.proofs.Common.{◌≡◌, ◌≢◌, ◌++◌, [], ◌∷◌, ℕ, List, ap, sym, ◌∙◌, refl, inl, inr, ⊎_elim, append_assoc, append-nil, arith}
use Rattle.std.specs.Prelude.{◌⊎◌}
use Rattle.std.specs.List.{All, AllByRecursion, flat_map}
use Rattle.std.proofs.lemmas.List.Elements.{recursion_from_All}
use Rattle.crew_terms.specs.Words.{with_feed, IsLine}
use Rattle.text_laws.specs.Texts.{HasMore}

abbrev pub IsOther : ℕ → Type 0
IsOther b = b ≢ 10

-- lines end at the same LF
one_feed : (x y a b : List ℕ) → AllByRecursion IsOther x → AllByRecursion IsOther y → x ++ 10 ∷ a ≡ y ++ 10 ∷ b → (x ≡ y) × (a ≡ b)
one_feed [] [] a b h k e = (refl, cc)
one_feed [] (d ∷ y) a b h k e = let f : d ≡ 10 = cc in absurd (k.0 f)
one_feed (c ∷ x) [] a b h k e = let f : c ≡ 10 = cc in absurd (h.0 f)
one_feed (c ∷ x) (d ∷ y) a b h k e =
    let f : c ≡ d = cc in
    let g : x ++ 10 ∷ a ≡ y ++ 10 ∷ b = cc in
    let r = one_feed x y a b h.1 k.1 g in
    let s : x ≡ y = r.0 in
    (cc, r.1)

-- a line before other text
first_line : (x : List ℕ) (xs : List (List ℕ)) (a : List ℕ) → flat_map with_feed (x ∷ xs) ++ a ≡ x ++ 10 ∷ (flat_map with_feed xs ++ a)
first_line x xs a = append_assoc (with_feed x) (flat_map with_feed xs) a ∙ append_assoc x (10 ∷ []) (flat_map with_feed xs ++ a)

more_left : (x y : List ℕ) (xs ys : List (List ℕ)) (a b : List ℕ) → x ≡ y → HasMore xs ys a b → HasMore (x ∷ xs) (y ∷ ys) a b
more_left x y xs ys a b e g = let f : xs ≡ ys ++ g.more = g.lines in record { more = g.more; lines = cc; text = g.text }

either : (xs ys : List (List ℕ)) (a b : List ℕ) → AllByRecursion IsLine xs → AllByRecursion IsLine ys → flat_map with_feed xs ++ a ≡ flat_map with_feed ys ++ b
    → HasMore xs ys a b ⊎ HasMore ys xs b a
either [] ys a b h k e = inr (record { more = ys; lines = refl; text = e })
either (x ∷ xs) [] a b h k e = inl (record { more = x ∷ xs; lines = refl; text = sym e })
either (x ∷ xs) (y ∷ ys) a b h k e =
    let r = one_feed x y (flat_map with_feed xs ++ a) (flat_map with_feed ys ++ b) (recursion_from_All IsOther x h.0.whole) (recursion_from_All IsOther y k.0.whole)
    (sym (first_line x xs a) ∙ e ∙ first_line y ys b) in
    ⊎_elim (λ g. inl (more_left x y xs ys a b r.0 g)) (λ g. inr (more_left y x ys xs b a (sym r.0) g)) (either xs ys a b h.1 k.1 r.1)

pub lines_either : (xs ys : List (List ℕ)) (a b : List ℕ) → All IsLine xs → All IsLine ys → flat_map with_feed xs ++ a ≡ flat_map with_feed ys ++ b
    → HasMore xs ys a b ⊎ HasMore ys xs b a
lines_either xs ys a b h k e = either xs ys a b (recursion_from_All IsLine xs h) (recursion_from_All IsLine ys k) e

-- text with a line has an LF
has_feed : (x : List ℕ) (xs : List (List ℕ)) (a b : List ℕ) → AllByRecursion IsOther a → a ≡ flat_map with_feed (x ∷ xs) ++ b → ⊥
has_feed x xs a b h e = at x a h (e ∙ first_line x xs b)
  where
    at : (x a : List ℕ) → AllByRecursion IsOther a → a ≡ x ++ 10 ∷ (flat_map with_feed xs ++ b) → ⊥
    at [] [] h e = absurd cc
    at [] (c ∷ a) h e = let f : c ≡ 10 = cc in h.0 f
    at (d ∷ x) [] h e = absurd cc
    at (d ∷ x) (c ∷ a) h e = let f : a ≡ x ++ 10 ∷ (flat_map with_feed xs ++ b) = cc in at x a h.1 f

turn : (xs ys : List (List ℕ)) (a b : List ℕ) → AllByRecursion IsOther a → HasMore ys xs b a → HasMore xs ys a b
turn xs ys a b h g = at g.more g.lines g.text
  where
    at : (more : List (List ℕ)) → ys ≡ xs ++ more → a ≡ flat_map with_feed more ++ b → HasMore xs ys a b
    at [] e f = record { more = []; lines = sym (append-nil xs) ∙ sym e ∙ sym (append-nil ys); text = sym f }
    at (x ∷ more) e f = absurd (has_feed x more a b h f)

pub lines_last : (xs ys : List (List ℕ)) (a b : List ℕ) → All IsLine xs → All IsLine ys → All IsOther a → flat_map with_feed xs ++ a ≡ flat_map with_feed ys ++ b
    → HasMore xs ys a b
lines_last xs ys a b h k l e = ⊎_elim (λ g. g) (turn xs ys a b (recursion_from_All IsOther a l)) (lines_either xs ys a b h k e)

pub lines_same : (xs ys : List (List ℕ)) → All IsLine xs → All IsLine ys → flat_map with_feed xs ≡ flat_map with_feed ys → xs ≡ ys
lines_same xs ys h k e =
    let g = lines_last xs ys [] [] h k (λ k d l. absurd (omega arith)) (ap (λ t. t ++ []) e) in
    at g.more g.lines g.text
  where
    at : (more : List (List ℕ)) → xs ≡ ys ++ more → [] ≡ flat_map with_feed more ++ [] → xs ≡ ys
    at [] e f = e ∙ append-nil ys
    at (x ∷ more) e f = absurd (has_feed x more [] [] tt f)
