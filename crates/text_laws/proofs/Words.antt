-- words that hold no space are what their line is cut into
use Rattle.std.proofs.Common.{◌≡◌, ◌≢◌, [], ◌∷◌, ℕ, List, eqb, false, ap, ◌∙◌, refl}
use Rattle.std.specs.List.{All, AllByRecursion}
use Rattle.std.proofs.lemmas.Bool.{ne_eqb}
use Rattle.std.proofs.lemmas.List.Elements.{All-weaker, recursion_from_All}
use Rattle.std.proofs.lemmas.List.Splits.{slice_split_none, slice_split_at, join_with_byte-slice_split}
use Rattle.crew_terms.specs.Words.{Words, words_of, line_of}

abbrev pub HasNoSpace : List ℕ → Type 0
HasNoSpace word = All (λ b. b ≢ 32) word

passes : (word : List ℕ) → HasNoSpace word → All (λ b. eqb b 32 ≡ false) word
passes word h = All-weaker (λ b. b ≢ 32) (λ b. eqb b 32 ≡ false) (λ b other. ne_eqb b 32 other) word h

cut : (w : List ℕ) (ws : Words) → AllByRecursion HasNoSpace (w ∷ ws) → words_of (line_of (w ∷ ws)) ≡ w ∷ ws
cut w [] h = slice_split_none (λ b. eqb b 32) w (passes w h.0)
cut w (v ∷ vs) h = slice_split_at (λ b. eqb b 32) w 32 (line_of (v ∷ vs)) (passes w h.0) refl ∙ ap (λ ws. w ∷ ws) (cut v vs h.1)

pub words_of_line_of : (words : Words) → words ≢ [] → All HasNoSpace words → words_of (line_of words) ≡ words
words_of_line_of [] some h = absurd (some refl)
words_of_line_of (w ∷ ws) some h = cut w ws (recursion_from_All HasNoSpace (w ∷ ws) h)

pub line_of_words_of : (line : List ℕ) → line_of (words_of line) ≡ line
line_of_words_of line = join_with_byte-slice_split 32 line
