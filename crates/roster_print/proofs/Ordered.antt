-- lists in order
use Rattle.std.proofs.Common.{◌≡◌, ◌<◌, ◌+◌, ◌⊎◌, inl, inr, ◌++◌, ◌∷◌, [], ℕ, zero, suc, List, Bool, true, false, map, get_or, sym, refl, subst, ◌∙◌, arith}
use Rattle.std.specs.Prelude.{All, AllPairs, Contains}
use Rattle.std.specs.List.{filter, flat_map, range_with_len}
use Rattle.std.proofs.lemmas.List.FromFn.{length-range_with_len, get_or-range_with_len}
use Rattle.std.proofs.lemmas.List.Elements.{All-nil, All-append, All-map, Contains-append_left, Contains-append_right, Contains-append_cases}
use Rattle.std.proofs.lemmas.List.Kept.{AllPairs-cons}

-- ---- elements

pub contains_cases : {A : Type 0} (x : A) (xs : List A) (y : A) → Contains (x ∷ xs) y → (x ≡ y) ⊎ Contains xs y
contains_cases x xs y (zero, within, is) = inl is
contains_cases x xs y (suc k, within, is) = inr (k, omega arith, is)

pub contains_later : {A : Type 0} (x : A) (xs : List A) (y : A) → Contains xs y → Contains (x ∷ xs) y
contains_later x xs y (k, within, is) = (suc k, omega arith, is)

pub contains_first : {A : Type 0} (x : A) (xs : List A) → Contains (x ∷ xs) x
contains_first x xs = (zero, omega arith, refl)

either : {A B C : Type 0} → (A → C) → (B → C) → A ⊎ B → C
either f g (inl a) = f a
either f g (inr b) = g b

pub mapped_from : {A B : Type 0} (f : A → B) (xs : List A) (y : B) → Contains (map f xs) y → (x : A) × Contains xs x × (f x ≡ y)
mapped_from f [] y (k, within, is) = absurd (omega arith)
mapped_from f (x ∷ xs) y c =
    either (λ is. (x, contains_first x xs, is)) (λ later. let m = mapped_from f xs y later in (m.0, contains_later x xs m.0 m.1, m.2)) (contains_cases (f x) (map f xs) y c)

pub mapped_to : {A B : Type 0} (f : A → B) (xs : List A) (x : A) → Contains xs x → Contains (map f xs) (f x)
mapped_to f [] x (k, within, is) = absurd (omega arith)
mapped_to f (y ∷ xs) x c =
    either (λ is. subst (λ z. Contains (f y ∷ map f xs) (f z)) is (contains_first (f y) (map f xs)))
    (λ later. contains_later (f y) (map f xs) (f x) (mapped_to f xs x later)) (contains_cases y xs x c)

-- what passes, of a list whose first element passes, or doesn't
first_passes : {A : Type 0} (p : A → Bool) (y : A) (xs : List A) → p y ≡ true → filter p (y ∷ xs) ≡ y ∷ filter p xs
first_passes p y xs passes = rw passes refl

first_fails : {A : Type 0} (p : A → Bool) (y : A) (xs : List A) → p y ≡ false → filter p (y ∷ xs) ≡ filter p xs
first_fails p y xs fails = rw fails refl

from_first : {A : Type 0} (p : A → Bool) (y : A) (xs : List A) (x : A) (b : Bool) → p y ≡ b → (Contains (filter p xs) x → Contains xs x × (p x ≡ true))
    → Contains (filter p (y ∷ xs)) x → Contains (y ∷ xs) x × (p x ≡ true)
from_first p y xs x true passes later c =
    either (λ is. (subst (Contains (y ∷ xs)) is (contains_first y xs), subst (λ z. p z ≡ true) is passes)) (λ d. let m = later d in (contains_later y xs x m.0, m.1))
    (contains_cases y (filter p xs) x (subst (λ l. Contains l x) (first_passes p y xs passes) c))
from_first p y xs x false fails later c = let m = later (subst (λ l. Contains l x) (first_fails p y xs fails) c) in (contains_later y xs x m.0, m.1)

pub filtered_from : {A : Type 0} (p : A → Bool) (xs : List A) (x : A) → Contains (filter p xs) x → Contains xs x × (p x ≡ true)
filtered_from p [] x (k, within, is) = absurd (omega arith)
filtered_from p (y ∷ xs) x c = from_first p y xs x (p y) refl (filtered_from p xs x) c

to_first : {A : Type 0} (p : A → Bool) (y : A) (xs : List A) (x : A) (b : Bool) → p y ≡ b → p x ≡ true → (Contains xs x → Contains (filter p xs) x)
    → (y ≡ x) ⊎ Contains xs x → Contains (filter p (y ∷ xs)) x
to_first p y xs x true is passes later at =
    subst (λ l. Contains l x) (sym (first_passes p y xs is))
    (either (λ same. subst (Contains (y ∷ filter p xs)) same (contains_first y (filter p xs))) (λ c. contains_later y (filter p xs) x (later c)) at)
to_first p y xs x false is passes later at =
    subst (λ l. Contains l x) (sym (first_fails p y xs is))
    (either (λ same. let e : p x ≡ false = subst (λ z. p z ≡ false) same is in absurd (let t : true ≡ false = sym passes ∙ e in cc)) later at)

pub filtered_to : {A : Type 0} (p : A → Bool) (xs : List A) (x : A) → Contains xs x → p x ≡ true → Contains (filter p xs) x
filtered_to p [] x (k, within, is) passes = absurd (omega arith)
filtered_to p (y ∷ xs) x c passes = to_first p y xs x (p y) refl passes (λ d. filtered_to p xs x d passes) (contains_cases y xs x c)

pub flat_from : {A B : Type 0} (f : A → List B) (xs : List A) (y : B) → Contains (flat_map f xs) y → (x : A) × Contains xs x × Contains (f x) y
flat_from f [] y (k, within, is) = absurd (omega arith)
flat_from f (x ∷ xs) y c =
    either (λ here. (x, contains_first x xs, here)) (λ later. let m = flat_from f xs y later in (m.0, contains_later x xs m.0 m.1, m.2))
    (Contains-append_cases (f x) (flat_map f xs) y c)

pub flat_to : {A B : Type 0} (f : A → List B) (xs : List A) (x : A) (y : B) → Contains xs x → Contains (f x) y → Contains (flat_map f xs) y
flat_to f [] x y (k, within, is) d = absurd (omega arith)
flat_to f (z ∷ xs) x y c d =
    either (λ same. Contains-append_left (f z) (flat_map f xs) y (subst (λ w. Contains (f w) y) (sym same) d))
    (λ later. Contains-append_right (f z) (flat_map f xs) y (flat_to f xs x y later d)) (contains_cases z xs x c)

pub numbers_are : (n x : ℕ) → Contains (range_with_len 0 n) x → x < n
numbers_are n x (k, within, is) =
    let below : k < n = subst (λ l. k < l) (length-range_with_len 0 n) within in
    let e : 0 + k ≡ x = sym (get_or-range_with_len 0 n k x below) ∙ is in
    omega (arith, e, below)

pub numbers_have : (n x : ℕ) → x < n → Contains (range_with_len 0 n) x
numbers_have n x below =
    let e : 0 + x ≡ x = omega arith in
    (x, subst (λ l. x < l) (sym (length-range_with_len 0 n)) below, get_or-range_with_len 0 n x x below ∙ e)

-- ---- order

pub numbers_rise : (n : ℕ) → AllPairs (λ x y. x < y) (range_with_len 0 n)
numbers_rise n = λ i j d order within.
    let last : j < n = subst (λ l. j < l) (length-range_with_len 0 n) within in
    let first : i < n = omega arith in
    let a = get_or-range_with_len 0 n i d first in
    let b = get_or-range_with_len 0 n j d last in
    omega (arith, a, b, order)

first_before : {A : Type 0} (R : A → A → Type 0) (x : A) (xs : List A) → AllPairs R (x ∷ xs) → All (R x) xs
first_before R x xs sorted = λ k d within. sorted zero (suc k) d (omega arith) (omega arith)

rest_sorted : {A : Type 0} (R : A → A → Type 0) (x : A) (xs : List A) → AllPairs R (x ∷ xs) → AllPairs R xs
rest_sorted R x xs sorted = λ i j d order within. sorted (suc i) (suc j) d (omega arith) (omega arith)

none_sorted : {A : Type 0} (R : A → A → Type 0) → AllPairs R []
none_sorted R = λ i j d order within. absurd (omega arith)

pub mapped_sorted : {A B : Type 0} (R : B → B → Type 0) (f : A → B) (xs : List A) → AllPairs (λ a b. R (f a) (f b)) xs → AllPairs R (map f xs)
mapped_sorted R f [] sorted = none_sorted R
mapped_sorted R f (x ∷ xs) sorted =
    AllPairs-cons R (f x) (map f xs) (All-map (R (f x)) f xs (first_before (λ a b. R (f a) (f b)) x xs sorted))
    (mapped_sorted R f xs (rest_sorted (λ a b. R (f a) (f b)) x xs sorted))

joined_sorted : {A : Type 0} (R : A → A → Type 0) (xs ys : List A) → AllPairs R xs → AllPairs R ys → All (λ x. All (R x) ys) xs → AllPairs R (xs ++ ys)
joined_sorted R [] ys a b c = b
joined_sorted R (x ∷ xs) ys a b c =
    AllPairs-cons R x (xs ++ ys) (All-append (R x) xs ys (first_before R x xs a) (c zero x (omega arith)))
    (joined_sorted R xs ys (rest_sorted R x xs a) b (λ k d within. c (suc k) d (omega arith)))

flat_all : {A B : Type 0} (P : B → Type 0) (f : A → List B) (xs : List A) → All (λ x. All P (f x)) xs → All P (flat_map f xs)
flat_all P f [] h = All-nil P
flat_all P f (x ∷ xs) h = All-append P (f x) (flat_map f xs) (h zero x (omega arith)) (flat_all P f xs (λ k d within. h (suc k) d (omega arith)))

-- parts that are in order, each before the next ones
pub flat_sorted : {A B : Type 0} (S : A → A → Type 0) (R : B → B → Type 0) (f : A → List B) (xs : List A) → AllPairs S xs → ((x : A) → AllPairs R (f x))
    → ((x y : A) → S x y → All (λ a. All (R a) (f y)) (f x)) → AllPairs R (flat_map f xs)
flat_sorted S R f [] rise each apart = none_sorted R
flat_sorted S R f (x ∷ xs) rise each apart =
    joined_sorted R (f x) (flat_map f xs) (each x) (flat_sorted S R f xs (rest_sorted S x xs rise) each apart)
    (λ k d within. flat_all (R (get_or (f x) k d)) f xs (λ i e below. apart x (get_or xs i e) (first_before S x xs rise i e below) k d within))

-- ---- lists in order that have the same elements are the same
module _ {A : Type 0} (R : A → A → Type 0) (apart : (a b : A) → R a b → R b a → ⊥) where
  before : (x : A) (xs : List A) → AllPairs R (x ∷ xs) → (y : A) → Contains xs y → R x y
  before x xs sorted y (k, within, is) = subst (R x) is (first_before R x xs sorted k y within)

  heads : (x y : A) (xs ys : List A) → AllPairs R (x ∷ xs) → AllPairs R (y ∷ ys) → (y ≡ x) ⊎ Contains ys x → (x ≡ y) ⊎ Contains xs y → x ≡ y
  heads x y xs ys a b (inl same) at = sym same
  heads x y xs ys a b (inr later) (inl same) = same
  heads x y xs ys a b (inr later) (inr also) = absurd (apart x y (before x xs a y also) (before y ys b x later))

  rest : (x y : A) (xs ys : List A) → AllPairs R (x ∷ xs) → x ≡ y → (v : A) → Contains xs v → (y ≡ v) ⊎ Contains ys v → Contains ys v
  rest x y xs ys a same v c (inl is) = absurd (let r : R x v = before x xs a v c in let e : x ≡ v = same ∙ is in apart v v (subst (λ z. R z v) e r) (subst (λ z. R z v) e r))
  rest x y xs ys a same v c (inr later) = later

  pub same_lists : (xs ys : List A) → AllPairs R xs → AllPairs R ys → ((v : A) → Contains xs v → Contains ys v) → ((v : A) → Contains ys v → Contains xs v) → xs ≡ ys
  same_lists [] [] a b f g = refl
  same_lists [] (y ∷ ys) a b f g = absurd (let c = g y (contains_first y ys) in let l = c.1 in omega arith)
  same_lists (x ∷ xs) [] a b f g = absurd (let c = f x (contains_first x xs) in let l = c.1 in omega arith)
  same_lists (x ∷ xs) (y ∷ ys) a b f g =
      let same : x ≡ y =
      heads x y xs ys a b (contains_cases y ys x (f x (contains_first x xs))) (contains_cases x xs y (g y (contains_first y ys)))
      in
      let tails : xs ≡ ys =
      same_lists xs ys (rest_sorted R x xs a) (rest_sorted R y ys b)
      (λ v c. rest x y xs ys a same v c (contains_cases y ys v (f v (contains_later x xs v c))))
      (λ v c. rest y x ys xs b (sym same) v c (contains_cases x xs v (g v (contains_later y ys v c))))
      in
      cc
