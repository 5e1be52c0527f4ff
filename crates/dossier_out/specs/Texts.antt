-- texts of lists, and the fronts of a text of several parts
use Rattle.std.proofs.Common.{◌≡◌, ◌<◌, ◌++◌, ◌∷◌, [], ℕ, List, length, map, ap, sym, refl, ◌∙◌, append_assoc, arith}
use Rattle.std.specs.Prelude.{ℤ}
use Rattle.std.specs.List.{flat_map, range_with_len}
use Rattle.std.proofs.lemmas.List.Concat.{flat_map-append}
use Rattle.std.proofs.lemmas.List.FromFn.{length-range_with_len}
use Rattle.crew_terms.specs.Words.{Words, line_text}
use Rattle.dossier_terms.specs.Lines.{rows_lines}
use Rattle.crew_io.specs.Fronts.{IsFront}
use Rattle.line_out.specs.Parts.{next_word}
use Rattle.line_out.specs.Lines.{line_parts}

-- the text of lines
abbrev pub text : List Words → List ℕ
text lines = flat_map line_text lines

pub of_mapped : {A B C : Type 0} (f : B → List C) (g : A → B) (xs : List A) → flat_map (λ x. f (g x)) xs ≡ flat_map f (map g xs)
of_mapped f g [] = refl
of_mapped f g (x ∷ xs) = ap (λ r. f (g x) ++ r) (of_mapped f g xs)

pub of_lists : {A B C : Type 0} (f : B → List C) (g : A → List B) (xs : List A) → flat_map (λ x. flat_map f (g x)) xs ≡ flat_map f (flat_map g xs)
of_lists f g [] = refl
of_lists f g (x ∷ xs) = ap (λ r. flat_map f (g x) ++ r) (of_lists f g xs) ∙ sym (flat_map-append f (g x) (flat_map g xs))

-- the lines of rows that are each made of their number
pub rows_mapped : (line : ℕ → List ℤ → Words) (f : ℕ → List ℤ) (ks : List ℕ) → rows_lines line ks (map f ks) ≡ map (λ k. line k (f k)) ks
rows_mapped line f [] = refl
rows_mapped line f (k ∷ ks) = ap (λ r. line k (f k) ∷ r) (rows_mapped line f ks)

pub below_range : (j n : ℕ) → j < n → j < length (range_with_len 0 n)
below_range j n h = let l = length-range_with_len 0 n in omega (arith, l)

-- ---- fronts

pub front_of : (a b whole : List ℕ) → whole ≡ a ++ b → IsFront a whole
front_of a b whole is = record { rest = b; is = is }

pub front_1 : (a b c whole : List ℕ) → whole ≡ (a ++ b) ++ c → IsFront a whole
front_1 a b c whole is = front_of a (b ++ c) whole (is ∙ append_assoc a b c)

pub front_2 : (a b c d whole : List ℕ) → whole ≡ ((a ++ b) ++ c) ++ d → IsFront a whole
front_2 a b c d whole is = front_1 a b (c ++ d) whole (is ∙ append_assoc (a ++ b) c d)

pub front_3 : (a b c d e whole : List ℕ) → whole ≡ (((a ++ b) ++ c) ++ d) ++ e → IsFront a whole
front_3 a b c d e whole is = front_2 a b c (d ++ e) whole (is ∙ append_assoc ((a ++ b) ++ c) d e)

-- ---- lines by their words

pub line_of_two : (w v : List ℕ) (vs : Words) → line_text (w ∷ v ∷ vs) ≡ ((w ++ next_word v) ++ flat_map next_word vs) ++ 10 ∷ []
line_of_two w v vs = line_parts w (v ∷ vs) ∙ ap (λ t. t ++ 10 ∷ []) (sym (append_assoc w (next_word v) (flat_map next_word vs)))

pub line_of_three : (w v u : List ℕ) (us : Words) → line_text (w ∷ v ∷ u ∷ us) ≡ (((w ++ next_word v) ++ next_word u) ++ flat_map next_word us) ++ 10 ∷ []
line_of_three w v u us = line_of_two w v (u ∷ us) ∙ ap (λ t. t ++ 10 ∷ []) (sym (append_assoc (w ++ next_word v) (next_word u) (flat_map next_word us)))

-- the fronts of a line of two words and more
pub two_front_3 : (w v : List ℕ) (vs : Words) → IsFront ((w ++ next_word v) ++ flat_map next_word vs) (line_text (w ∷ v ∷ vs))
two_front_3 w v vs = front_of ((w ++ next_word v) ++ flat_map next_word vs) (10 ∷ []) (line_text (w ∷ v ∷ vs)) (line_of_two w v vs)

pub two_front_2 : (w v : List ℕ) (vs : Words) → IsFront (w ++ next_word v) (line_text (w ∷ v ∷ vs))
two_front_2 w v vs = front_1 (w ++ next_word v) (flat_map next_word vs) (10 ∷ []) (line_text (w ∷ v ∷ vs)) (line_of_two w v vs)

pub two_front_1 : (w v : List ℕ) (vs : Words) → IsFront w (line_text (w ∷ v ∷ vs))
two_front_1 w v vs = front_2 w (next_word v) (flat_map next_word vs) (10 ∷ []) (line_text (w ∷ v ∷ vs)) (line_of_two w v vs)

-- the fronts of a line of a word and more
pub one_front_1 : (w : List ℕ) (vs : Words) → IsFront w (line_text (w ∷ vs))
one_front_1 w vs = front_1 w (flat_map next_word vs) (10 ∷ []) (line_text (w ∷ vs)) (line_parts w vs)

pub one_front_2 : (w : List ℕ) (vs : Words) → IsFront (w ++ flat_map next_word vs) (line_text (w ∷ vs))
one_front_2 w vs = front_of (w ++ flat_map next_word vs) (10 ∷ []) (line_text (w ∷ vs)) (line_parts w vs)

-- the fronts of a line of three words and more
pub three_front_1 : (w v u : List ℕ) (us : Words) → IsFront w (line_text (w ∷ v ∷ u ∷ us))
three_front_1 w v u us = front_3 w (next_word v) (next_word u) (flat_map next_word us) (10 ∷ []) (line_text (w ∷ v ∷ u ∷ us)) (line_of_three w v u us)

pub three_front_2 : (w v u : List ℕ) (us : Words) → IsFront (w ++ next_word v) (line_text (w ∷ v ∷ u ∷ us))
three_front_2 w v u us = front_2 (w ++ next_word v) (next_word u) (flat_map next_word us) (10 ∷ []) (line_text (w ∷ v ∷ u ∷ us)) (line_of_three w v u us)

pub three_front_3 : (w v u : List ℕ) (us : Words) → IsFront ((w ++ next_word v) ++ next_word u) (line_text (w ∷ v ∷ u ∷ us))
three_front_3 w v u us = front_1 ((w ++ next_word v) ++ next_word u) (flat_map next_word us) (10 ∷ []) (line_text (w ∷ v ∷ u ∷ us)) (line_of_three w v u us)

pub three_front_4 : (w v u : List ℕ) (us : Words) → IsFront (((w ++ next_word v) ++ next_word u) ++ flat_map next_word us) (line_text (w ∷ v ∷ u ∷ us))
three_front_4 w v u us = front_of (((w ++ next_word v) ++ next_word u) ++ flat_map next_word us) (10 ∷ []) (line_text (w ∷ v ∷ u ∷ us)) (line_of_three w v u us)
