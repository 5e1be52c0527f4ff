-- keys, and which of them are looked at
use Rattle.std.proofs.Common.{◌≡◌, ◌≢◌, ◌<◌, ◌+◌, ◌++◌, [], ◌∷◌, ℕ, List, Bool, true, false, Some, Bor, length, take, map, get_or, ap, sym, subst, ◌∙◌, ⊎_elim, arith}
use Rattle.std.specs.Prelude.{Contains, slice_get}
use Rattle.std.specs.Option.{option_map}
use Rattle.std.specs.Str.{bytes_eq}
use Rattle.std.proofs.lemmas.List.{take_more, length-map}
use Rattle.std.proofs.lemmas.List.Elements.{Contains-push_cases}
use Rattle.std.proofs.lemmas.Option.{slice_get-map, slice_get-get_or}
use Rattle.std.proofs.lemmas.Slice.Eq.{bytes_eq-Decides}

-- no key stands before the first
pub none_before : (key : List ℕ) → Contains {X = List ℕ} [] key → ⊥
none_before key (k, l, e) = absurd (omega arith)

-- one more text that is another key
pub not_more : (texts : List (List ℕ)) (key own : List ℕ) (i : ℕ) → i < length texts → slice_get texts i ≡ Some own → own ≢ key
    → (Contains (take i texts) key → ⊥) → Contains (take (i + 1) texts) key → ⊥
not_more texts key own i l at other none h =
    let e : get_or texts i [] ≡ own = let f = slice_get-get_or texts i [] l in cc in
    let more : Contains (take i texts ++ get_or texts i [] ∷ []) key = subst (λ (xs : List (List ℕ)). Contains xs key) (take_more texts i [] l) h in
    ⊎_elim none (λ f. other (sym e ∙ f)) (Contains-push_cases (take i texts) (get_or texts i []) key more)

-- the text at a place
pub text_at : (keys : List (Bor (List ℕ))) (i : ℕ) (d : Bor (List ℕ)) → i < length keys → slice_get (map (λ k. k.now) keys) i ≡ Some (get_or keys i d).now
text_at keys i d l = slice_get-map (λ (k : Bor (List ℕ)). k.now) keys i ∙ ap (option_map (λ (k : Bor (List ℕ)). k.now)) (slice_get-get_or keys i d l)

pub texts_long : (keys : List (Bor (List ℕ))) → length (map (λ (k : Bor (List ℕ)). k.now) keys) ≡ length keys
texts_long keys = length-map keys (λ (k : Bor (List ℕ)). k.now)

pub same_text : (b : Bool) (own key : List ℕ) → b ≡ bytes_eq own key → b ≡ true → own ≡ key
same_text b own key e t = (bytes_eq-Decides own key).0 (sym e ∙ t)

pub other_text : (b : Bool) (own key : List ℕ) → b ≡ bytes_eq own key → b ≡ false → own ≢ key
other_text b own key e f h = let t = (bytes_eq-Decides own key).1 h in cc
