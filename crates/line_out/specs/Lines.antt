-- laws of calls that write the lines of items, one after another
use Rattle.std.proofs.Common.{◌≡◌, ◌<◌, ◌≤◌, ◌+◌, ◌++◌, ◌∷◌, [], ℕ, List, Bool, true, false, length, take, map, get_or, ap, sym, refl, ◌∙◌, append-nil}
use Rattle.std.specs.Prelude.{Result, Ok, Err, IsErr}
use Rattle.std.specs.List.{filter, flat_map, join_with_byte}
use Rattle.crew_terms.specs.Words.{Words, line_text}
use Rattle.crew_io.specs.Puts.{Puts}
use Rattle.crew_io.specs.Chains.{fine, puts_same, puts_more, puts_more_front, puts_all}
use Rattle.crew_io.specs.declared.sink.Sink.{Ghosts}
use Rattle.line_out.specs.Parts.{next_word}

-- a line is its first word, each word behind it, and the LF
pub line_parts : (w : List ℕ) (ws : Words) → line_text (w ∷ ws) ≡ (w ++ flat_map next_word ws) ++ 10 ∷ []
line_parts w ws = ap (λ text. text ++ 10 ∷ []) (joined w ws)
  where
    joined : (v : List ℕ) (vs : Words) → join_with_byte 32 (v ∷ vs) ≡ v ++ flat_map next_word vs
    joined v [] = sym (append-nil v)
    joined v (u ∷ us) = ap (λ text. v ++ 32 ∷ text) (joined u us)

-- the text of the lines of items is that of each line
pub of_each : {A : Type 0} (line : A → Words) (items : List A) → flat_map (λ a. line_text (line a)) items ≡ flat_map line_text (map line items)
of_each line [] = refl
of_each line (a ∷ items) = ap (λ rest. line_text (line a) ++ rest) (of_each line items)

one_of_those : (p : ℕ → Bool) (line : ℕ → Words) (x : ℕ) (xs : List ℕ) (b : Bool) → p x ≡ b
    → flat_map line_text (map line (filter p (x ∷ []))) ++ flat_map line_text (map line (filter p xs)) ≡ flat_map line_text (map line (filter p (x ∷ xs)))
one_of_those p line x xs true is = rw is (ap (λ h. h ++ flat_map line_text (map line (filter p xs))) (append-nil (line_text (line x))))
one_of_those p line x xs false is = rw is refl

-- the lines of those that pass
pub of_those : (p : ℕ → Bool) (line : ℕ → Words) (xs : List ℕ) → flat_map (λ x. flat_map line_text (map line (filter p (x ∷ [])))) xs ≡ flat_map line_text (map line (filter p xs))
of_those p line [] = refl
of_those p line (x ∷ xs) = ap (λ r. flat_map line_text (map line (filter p (x ∷ []))) ++ r) (of_those p line xs) ∙ one_of_those p line x xs (p x) refl

-- the words that are written are the line of the item
module _ {K A : Type 0} (sink : Ghosts K) (line : A → Words) (items : List A) (i : ℕ) (d : A) (within : i < length items) (words : Words) (is : words ≡ line (get_or items i d)) where
  -- the line of one item more
  pub puts_line : {T E U F : Type 0} (old mid new : K) (x : T) (y : U) → Puts {E = E} sink (flat_map (λ a. line_text (line a)) (take i items)) old mid (Ok x)
      → Puts {E = F} sink (line_text words) mid new (Ok y) → Puts sink (flat_map (λ a. line_text (line a)) (take (i + 1) items)) old new fine
  puts_line old mid new x y a b =
      puts_more sink (λ a. line_text (line a)) items i d within old mid new x y a (puts_same sink (line_text words) (line_text (line (get_or items i d))) mid new _ (ap line_text is) b)

  -- a front of the line of one item more
  pub puts_line_front : {T E U F V G : Type 0} (old mid new : K) (x : T) (e : F) (result : Result V G) → IsErr result → Puts {E = E} sink (flat_map (λ a. line_text (line a)) (take i items)) old mid (Ok x)
      → Puts {T = U} sink (line_text words) mid new (Err e) → Puts sink (flat_map line_text (map line items)) old new result
  puts_line_front old mid new x e result fails a b =
      puts_same sink (flat_map (λ a. line_text (line a)) items) (flat_map line_text (map line items)) old new result (of_each line items)
      (puts_more_front sink (λ a. line_text (line a)) items i d within old mid new x e result fails a
      (puts_same sink (line_text words) (line_text (line (get_or items i d))) mid new _ (ap line_text is) b))

-- the lines of all items
pub puts_lines : {K A T E U F : Type 0} (sink : Ghosts K) (line : A → Words) (items : List A) (i : ℕ) (old new : K) (x : T) (y : U) → length items ≤ i
    → Puts {E = E} sink (flat_map (λ a. line_text (line a)) (take i items)) old new (Ok x) → Puts {E = F} sink (flat_map line_text (map line items)) old new (Ok y)
puts_lines sink line items i old new x y past a =
    puts_same sink (flat_map (λ a. line_text (line a)) items) (flat_map line_text (map line items)) old new _ (of_each line items) (puts_all sink (λ a. line_text (line a)) items i old new x y past a)
