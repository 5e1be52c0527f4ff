-- entries by their places, and loops that go on by one place
use Rattle.std.proofs.Common.{◌≡◌, ◌<◌, ◌+◌, ◌++◌, ℕ, zero, suc, Bool, true, false, cond, List, [], ◌∷◌, Some, None, length, map, filter, fold, get_or, take, nat_lt, slice_get, append-nil, append_assoc, arith, refl, sym, ap, ◌∙◌}
use Rattle.std.specs.Prelude.{bytes_eq, flat_map, position}
use Rattle.std.specs.List.{position_or_len}
use Rattle.std.specs.Map.{keys_of, values_of}
use Rattle.std.proofs.lemmas.List.{length-map}
use Rattle.std.proofs.lemmas.List.Concat.{flat_map-append}
use Rattle.std.proofs.lemmas.List.Elements.{filter_more}
use Rattle.std.proofs.lemmas.List.Sums.{fold-append}
use Rattle.crew_terms.specs.Ranges.{range_from}
use Rattle.day_terms.specs.ByTest.{by_test}
use Rattle.day_terms.specs.Faulty.{below}
use Rattle.flight_changes.proofs.Keyed.{Bytes, IsNamed, has}

place_in_map : {A B : Type 0} (p : B → Bool) (f : A → B) (xs : List A) → position_or_len p (map f xs) ≡ position_or_len (λ x. p (f x)) xs
place_in_map p f [] = refl
place_in_map p f (x ∷ xs) = by_test (p (f x)) (λ t. rw t refl) (λ t. rw t (ap (λ n. 1 + n) (place_in_map p f xs)))

position_in_map : {A B : Type 0} (p : B → Bool) (f : A → B) (xs : List A) → position p (map f xs) ≡ position (λ x. p (f x)) xs
position_in_map p f xs =
    ap (λ n. cond (nat_lt n (length (map f xs))) (Some n) None) (place_in_map p f xs)
    ∙ ap (λ m. let n = position_or_len (λ x. p (f x)) xs in cond (nat_lt n m) (Some n) None) (length-map xs f)

-- the place of a name is that of the first value that has it
pub placed : {X : Type 0} (name : X → Bytes) (es : List (Bytes × X)) (k : Bytes) → IsNamed name es → position (bytes_eq k) (keys_of es) ≡ position (has name k) (values_of es)
placed name es k named = ap (position (bytes_eq k)) named ∙ position_in_map (bytes_eq k) name (values_of es)

pub value_at : {K X : Type 0} (es : List (K × X)) (j : ℕ) (e : K × X) (d : X) → slice_get es j ≡ Some e → get_or (values_of es) j d ≡ e.1
value_at [] zero e d at = cc
value_at [] (suc j) e d at = cc
value_at (x ∷ es) zero e d at = cc
value_at (x ∷ es) (suc j) e d at = value_at es j e d at

-- a fold over what passes, one place further
module _ {A B : Type 0} (f : B → A → B) (p : A → Bool) (a : B) (xs : List A) (i : ℕ) (x : A) (less : i < length xs) (at : x ≡ get_or xs i x) where
  passing : filter p (take (i + 1) xs) ≡ filter p (take i xs) ++ cond (p x) (x ∷ []) []
  passing = filter_more p xs i x less ∙ ap (λ y. filter p (take i xs) ++ cond (p y) (y ∷ []) []) (sym at)

  folded : fold f a (filter p (take (i + 1) xs)) ≡ fold f (fold f a (filter p (take i xs))) (cond (p x) (x ∷ []) [])
  folded = ap (fold f a) passing ∙ fold-append f a (filter p (take i xs)) (cond (p x) (x ∷ []) [])

  pub fold_passes : p x ≡ true → fold f a (filter p (take (i + 1) xs)) ≡ f (fold f a (filter p (take i xs))) x
  fold_passes t = folded ∙ ap (λ b. fold f (fold f a (filter p (take i xs))) (cond b (x ∷ []) [])) t

  pub fold_fails : p x ≡ false → fold f a (filter p (take (i + 1) xs)) ≡ fold f a (filter p (take i xs))
  fold_fails t = folded ∙ ap (λ b. fold f (fold f a (filter p (take i xs))) (cond b (x ∷ []) [])) t

-- ---- numbers below a bound, one further

pub each_more : {X : Type 0} (f : ℕ → List X) (n : ℕ) → flat_map f (below (n + 1)) ≡ flat_map f (below n) ++ f n
each_more f n =
    let e : 0 + n ≡ n = omega arith in
    ap (flat_map f) (range_from 0 n ∙ ap (λ k. below n ++ k ∷ []) e)
    ∙ flat_map-append f (below n) (n ∷ [])
    ∙ ap (λ xs. flat_map f (below n) ++ xs) (append-nil (f n))

pub each_after : {X : Type 0} (f : ℕ → List X) (n : ℕ) (old now new : List X) → now ≡ old ++ flat_map f (below n) → new ≡ now ++ f n → new ≡ old ++ flat_map f (below (n + 1))
each_after f n old now new e more =
    more ∙ ap (λ xs. xs ++ f n) e ∙ append_assoc old (flat_map f (below n)) (f n) ∙ ap (λ xs. old ++ xs) (sym (each_more f n))
