-- lists of which something holds, cut at an element
use Rattle.std.proofs.lemmas.Bool.{cases_lt}
use Rattle.std.proofs.Common.{inl, inr, ◌≡◌, ◌<◌, ℕ, List, [], ◌∷◌, ◌++◌, length, sym, subst, arith, append_assoc, length-append}
use Rattle.std.proofs.Math.Seq.{get_or-append_seam}
use Rattle.std.proofs.lemmas.List.{map-append, get_or_append_left, get_or_past}
use Rattle.std.specs.Prelude.{map, All, AllPairs, slice_index_or}

pub All-at : {X : Type 0} (P : X → Type 0) (all ys : List X) (x : X) (zs : List X) → all ≡ ys ++ x ∷ zs → All P all → P x
All-at P all ys x zs e h =
    let l : length ys < length (ys ++ x ∷ zs) = omega (arith, length-append ys (x ∷ zs)) in
    subst P (get_or-append_seam ys x zs x) (subst (All P) e h (length ys) x l)

-- of those before
pub AllPairs-at : {X : Type 0} (R : X → X → Type 0) (all ys : List X) (x : X) (zs : List X) → all ≡ ys ++ x ∷ zs → AllPairs R all → All (λ o. R o x) ys
AllPairs-at R all ys x zs e h k d l =
    let m : length ys < length (ys ++ x ∷ zs) = omega (arith, length-append ys (x ∷ zs)) in
    let a = subst (AllPairs R) e h k (length ys) d l m in
    subst (λ o. R o x) (get_or_append_left ys (x ∷ zs) d k l) (subst (λ o. R (slice_index_or (ys ++ x ∷ zs) k d) o) (get_or-append_seam ys x zs d) a)

-- of each, and of what stands past them
pub All-or : {X : Type 0} (P : X → Type 0) (xs : List X) (k : ℕ) (d : X) → All P xs → P d → P (slice_index_or xs k d)
All-or P xs k d h o = elim (cases_lt k (length xs)) [
  | inl l ↦ h k d l
  | inr l ↦ subst P (sym (get_or_past xs k d l)) o
]

-- a line for each item, and for one more
pub map_more : {A B : Type 0} (line : A → B) (front : List B) (head : B) (xs : List A) (x : A) → front ++ head ∷ map line (xs ++ x ∷ []) ≡ (front ++ head ∷ map line xs) ++ line x ∷ []
map_more line front head xs x = simp (map-append, append_assoc)
