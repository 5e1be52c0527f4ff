-- lists over a range that grows by one
use Rattle.std.proofs.Common.{◌≡◌, ◌<◌, ◌+◌, ◌++◌, ◌∷◌, ◌∙◌, ◌↔◌, [], ℕ, zero, suc, List, Bool, true, false, cond, not, ap, refl, arith, length, filter, append_assoc, append-nil, length-append}
use Rattle.crew_terms.specs.Listed.{range_more}
use Rattle.std.specs.Prelude.{flat_map}
use Rattle.std.specs.List.{range_with_len}
use Rattle.std.proofs.lemmas.List.Elements.{filter-append}
use Rattle.std.proofs.lemmas.Grind.{flat_map-append}

pub flat_more : {A : Type 0} (f : ℕ → List A) (n : ℕ) → flat_map f (range_with_len 0 (n + 1)) ≡ flat_map f (range_with_len 0 n) ++ f n
flat_more f n = ap (flat_map f) (range_more n) ∙ flat_map-append f (range_with_len 0 n) (n ∷ []) ∙ ap (λ l. flat_map f (range_with_len 0 n) ++ l) (append-nil (f n))

pub filter_range_more : (test : ℕ → Bool) (n : ℕ) → filter test (range_with_len 0 (n + 1)) ≡ filter test (range_with_len 0 n) ++ cond (test n) (n ∷ []) []
filter_range_more test n = ap (filter test) (range_more n) ∙ filter-append test (range_with_len 0 n) (n ∷ [])

pub grown : {A : Type 0} (old front new : List A) (x : A) (all : List A) → front ≡ old ++ all → new ≡ front ++ x ∷ [] → new ≡ old ++ (all ++ x ∷ [])
grown old front new x all e f = f ∙ ap (λ l. l ++ x ∷ []) e ∙ append_assoc old all (x ∷ [])

pub grown_twice : {A : Type 0} (old front mid new : List A) (x y : A) (all : List A) → front ≡ old ++ all → mid ≡ front ++ x ∷ [] → new ≡ mid ++ y ∷ []
    → new ≡ old ++ (all ++ x ∷ y ∷ [])
grown_twice old front mid new x y all e f g =
    grown old mid new y (all ++ x ∷ []) (grown old front mid x all e f) g ∙ ap (λ l. old ++ l) (append_assoc all (x ∷ []) (y ∷ []))

pub open_from : (b : Bool) (m : ℕ) → (0 < m) ↔ (b ≡ true) → m ≡ 0 → not b ≡ true
open_from true m s e = let f = s.1 refl in absurd (omega arith)
open_from false m s e = refl

pub closed_from : (b : Bool) (m : ℕ) → (0 < m) ↔ (b ≡ true) → (m ≡ 0 → ⊥) → not b ≡ false
closed_from b m s ne = ap not (s.0 (by_case m ne))
  where
    by_case : (m : ℕ) → (m ≡ 0 → ⊥) → 0 < m
    by_case zero ne = absurd (ne refl)
    by_case (suc m) ne = omega arith

pub longer_by_one : {A : Type 0} (front new : List A) (x : A) → new ≡ front ++ x ∷ [] → length new ≡ length front + 1
longer_by_one front new x e = ap length e ∙ length-append front (x ∷ [])
