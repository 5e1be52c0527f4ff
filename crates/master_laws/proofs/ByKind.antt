-- sums over the basic variables, by kinds
use Rattle.std.proofs.Common.{◌≡◌, ◌+◌, ℕ, suc, zero, List, [], ◌∷◌, ◌++◌, length, get_or, refl, ap, arith, ◌∙◌, Bool, true, false, cond, map}
use Rattle.std.specs.Prelude.{ℤ, pos, ◌+ℤ◌}
use Rattle.std.specs.List.{range_with_len}
use Rattle.std.proofs.lemmas.Int.{ints}
use Rattle.crew_terms.specs.Limits.{Limits, tasks_in, teams_in, pair_of, is_required}
use Rattle.crew_terms.specs.Total.{total}
use Rattle.search_terms.specs.declared.Place.{Place}
use Rattle.search_terms.specs.declared.Place.TheVariants.{Unused, Shortage, Missed, Value}
use Rattle.search_terms.specs.Opening.{places, basics, basic_at}
use Rattle.crew_terms.specs.Totals.{total-same, total-front}
use Rattle.master_laws.proofs.Positions.{count}
use Rattle.master_laws.proofs.Apart.{basics_are, missed_from, teams_of}
use Rattle.master_laws.proofs.Below.{below}

abbrev pub sum_of : (Place → ℤ) → List Place → ℤ
sum_of f [] = pos 0
sum_of f (p ∷ ps) = f p +ℤ sum_of f ps

pub sum_of-total : (f : Place → ℤ) (d : Place) (ps : List Place) → total (length ps) (λ h. f (get_or ps h d)) ≡ sum_of f ps
sum_of-total f d [] = refl
sum_of-total f d (p ∷ ps) =
    let a = total-front (length ps) (λ h. f (get_or (p ∷ ps) h d)) in
    let b = sum_of-total f d ps in
    omega (arith, ints)

pub sum_of-append : (f : Place → ℤ) (ps qs : List Place) → sum_of f (ps ++ qs) ≡ sum_of f ps +ℤ sum_of f qs
sum_of-append f [] qs = omega (arith, ints)
sum_of-append f (p ∷ ps) qs =
    let a = sum_of-append f ps qs in
    omega (arith, ints)

next_plus : (f : ℕ → ℤ) (b m : ℕ) → total m (λ i. f (b + 1 + i)) ≡ total m (λ i. f (b + suc i))
next_plus f b m = total-same m (λ i. f (b + 1 + i)) (λ i. f (b + suc i)) (λ i _. ap f (omega arith))

pub sum_of-range : (f : Place → ℤ) (g : ℕ → Place) (b m : ℕ) → sum_of f (map g (range_with_len b m)) ≡ total m (λ i. f (g (b + i)))
sum_of-range f g b zero = refl
sum_of-range f g b (suc m) =
    let a = sum_of-range f g (b + 1) m in
    let c = total-front m (λ i. f (g (b + i))) in
    let d = next_plus (λ k. f (g k)) b m in
    let e = ap (λ k. f (g k)) (let z : b + 0 ≡ b = omega arith in z) in
    omega (arith, ints)

abbrev at_row : (Place → ℤ) → (ℕ → Bool) → ℕ → ℕ → ℤ
at_row f test j k = cond (test k) (f (Missed k j)) (pos 0)

sum_of-row : (f : Place → ℤ) (test : ℕ → Bool) (j b m : ℕ)
    → sum_of f (map (λ k. Missed k j) (teams_of test b m)) ≡ total m (λ i. at_row f test j (b + i))
sum_of-row f test j b zero = refl
sum_of-row f test j b (suc m) = by_test (test b) refl (sum_of-row f test j (b + 1) m)
  where
    by_test : (t : Bool) → test b ≡ t → sum_of f (map (λ k. Missed k j) (teams_of test (b + 1) m)) ≡ total m (λ i. at_row f test j (b + 1 + i))
        → sum_of f (map (λ k. Missed k j) (cond t (b ∷ teams_of test (b + 1) m) (teams_of test (b + 1) m))) ≡ total (suc m) (λ i. at_row f test j (b + i))
    by_test true e h =
        let c = total-front m (λ i. at_row f test j (b + i)) in
        let d = next_plus (at_row f test j) b m in
        let z = ap (at_row f test j) (let z : b + 0 ≡ b = omega arith in z) in
        let y : at_row f test j b ≡ f (Missed b j) = ap (λ t. cond t (f (Missed b j)) (pos 0)) e in
        omega (arith, ints)
    by_test false e h =
        let c = total-front m (λ i. at_row f test j (b + i)) in
        let d = next_plus (at_row f test j) b m in
        let z = ap (at_row f test j) (let z : b + 0 ≡ b = omega arith in z) in
        let y : at_row f test j b ≡ pos 0 = ap (λ t. cond t (f (Missed b j)) (pos 0)) e in
        omega (arith, ints)

abbrev pub at_pairs : (ℕ → ℕ → Bool) → ℕ → (Place → ℤ) → ℕ → ℤ
at_pairs test teams f j = total teams (λ k. cond (test k j) (f (Missed k j)) (pos 0))

sum_of-missed : (f : Place → ℤ) (test : ℕ → ℕ → Bool) (teams b m : ℕ)
    → sum_of f (missed_from test teams b m) ≡ total m (λ i. at_pairs test teams f (b + i))
sum_of-missed f test teams b zero = refl
sum_of-missed f test teams b (suc m) =
    let g : ℕ → ℤ = at_pairs test teams f in
    let ps = map (λ k. Missed k b) (teams_of (λ k. test k b) 0 teams) in
    let a = sum_of-append f ps (missed_from test teams (b + 1) m) in
    let h = sum_of-missed f test teams (b + 1) m in
    let r = sum_of-row f (λ k. test k b) b 0 teams in
    let s = total-same teams (λ i. cond (test (0 + i) b) (f (Missed (0 + i) b)) (pos 0)) (λ k. cond (test k b) (f (Missed k b)) (pos 0))
    (λ i _. ap (λ k. cond (test k b) (f (Missed k b)) (pos 0)) (omega arith)) in
    let c = total-front m (λ i. g (b + i)) in
    let d = next_plus g b m in
    let z = ap g (let z : b + 0 ≡ b = omega arith in z) in
    omega (arith, ints)

-- at the required pairs of the node
abbrev pub at_required : Limits → (Place → ℤ) → ℕ → ℤ
at_required n f j = at_pairs (λ k j. is_required (pair_of n k j)) (teams_in n) f j

from_zero : (f : ℕ → ℤ) (m : ℕ) → total m (λ i. f (0 + i)) ≡ total m f
from_zero f m = total-same m (λ i. f (0 + i)) f (λ i _. ap f (omega arith))

pub sum_basics : (n : Limits) (f : Place → ℤ) → total (count n) (λ h. f (basic_at (places n) h))
    ≡ (total (teams_in n) (λ k. f (Unused k)) +ℤ total (tasks_in n) (λ j. f (Shortage j))) +ℤ total (tasks_in n) (at_required n f)
sum_basics n f =
    let ks = map Unused (below (teams_in n)) in
    let js = map Shortage (below (tasks_in n)) in
    let test : ℕ → ℕ → Bool = λ k j. is_required (pair_of n k j) in
    let ds = missed_from test (teams_in n) 0 (tasks_in n) in
    let a = sum_of-total f Value (basics (places n)) ∙ ap (sum_of f) (basics_are n) in
    let b = sum_of-append f (ks ++ js) ds in
    let c = sum_of-append f ks js in
    let d = sum_of-range f Unused 0 (teams_in n) ∙ from_zero (λ k. f (Unused k)) (teams_in n) in
    let e = sum_of-range f Shortage 0 (tasks_in n) ∙ from_zero (λ k. f (Shortage k)) (tasks_in n) in
    let g = sum_of-missed f test (teams_in n) 0 (tasks_in n) ∙ from_zero (at_required n f) (tasks_in n) in
    omega (arith, ints)
