-- lists of which something holds
use Rattle.std.proofs.Common.{◌≡◌, ◌<◌, ◌+◌, ℕ, zero, suc, List, [], ◌∷◌, ◌++◌, arith, Bool, true, false, cond}
use Rattle.std.specs.Prelude.{filter, map}
use Rattle.std.specs.List.{AllByRecursion, range_with_len}

pub rec-append : {X : Type 0} (P : X → Type 0) (xs ys : List X) → AllByRecursion P xs → AllByRecursion P ys → AllByRecursion P (xs ++ ys)
rec-append P [] ys h k = k
rec-append P (x ∷ xs) ys h k = (h.0, rec-append P xs ys h.1 k)

pub rec_weaker : {X : Type 0} (P Q : X → Type 0) → ((x : X) → P x → Q x) → (xs : List X) → AllByRecursion P xs → AllByRecursion Q xs
rec_weaker P Q f [] h = tt
rec_weaker P Q f (x ∷ xs) h = (f x h.0, rec_weaker P Q f xs h.1)

pub rec-map : {X Y : Type 0} (P : X → Type 0) (Q : Y → Type 0) (g : X → Y) → ((x : X) → P x → Q (g x)) → (xs : List X) → AllByRecursion P xs → AllByRecursion Q (map g xs)
rec-map P Q g f [] h = tt
rec-map P Q g f (x ∷ xs) h = (f x h.0, rec-map P Q g f xs h.1)

pub rec-filter : {X : Type 0} (P : X → Type 0) (p : X → Bool) (xs : List X) → AllByRecursion P xs → AllByRecursion P (filter p xs)
rec-filter P p [] h = tt
rec-filter P p (x ∷ xs) h = at (p x) (rec-filter P p xs h.1)
  where
    at : (b : Bool) → AllByRecursion P (filter p xs) → AllByRecursion P (cond b (x ∷ filter p xs) (filter p xs))
    at true k = (h.0, k)
    at false k = k

pub range_less : (a n m : ℕ) → a + n ≡ m → AllByRecursion (λ s. s < m) (range_with_len a n)
range_less a zero m e = tt
range_less a (suc n) m e = (omega arith, range_less (a + 1) n m (omega arith))
