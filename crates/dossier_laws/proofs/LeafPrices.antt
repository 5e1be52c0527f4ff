-- the prices of a leaf: only required pairs have one, and each lies in its range
use Rattle.std.proofs.Common.{◌≡◌, ℕ, ℤ, List, [], ◌∷◌, length, get_or, ap, sym, refl, ◌∙◌, arith, Bool, true, false, inl, inr, cond}
use Rattle.std.specs.Prelude.{pos, map, filter, ◌==◌}
use Rattle.std.specs.List.{AllByRecursion, range_with_len}
use Rattle.std.proofs.lemmas.Int.{ints}
use Rattle.std.proofs.lemmas.Bool.{cases_eq, ne_eqb}
use Rattle.std.proofs.lemmas.List.Elements.{All-from_recursion}
use Rattle.crew_terms.specs.Limits.{Limits, pair_of, tasks_in, teams_in, is_required}
use Rattle.crew_terms.specs.Minutes.{required_teams, priced}
use Rattle.crew_terms.specs.Leaf.{IsOnRequired, IsPrice, AreInRange, rho_of}
use Rattle.crew_terms.specs.Nodes.{not_required}
use Rattle.dossier_terms.specs.Dossier.{Leaf, AreRows, prices_of, extra_of, beside}
use Rattle.dossier_laws.proofs.Below.{map_at}
use Rattle.dossier_laws.proofs.Lists.{All-or}

beside_none : {A : Type 0} (P : ℕ → Bool) (ks : List ℕ) (xs : List A) (key : ℕ) (other : A) → P key ≡ false → beside (filter P ks) xs key other ≡ other
beside_none P [] xs key other h = refl
beside_none {A} P (k ∷ ks) xs key other h = at (P k) refl (λ ys. beside_none P ks ys key other h) xs
  where
    test : (x : A) (ys : List A) → P k ≡ true → beside (filter P ks) ys key other ≡ other → (b : Bool) → (k == key) ≡ b → cond b x (beside (filter P ks) ys key other) ≡ other
    test x ys t ih false e = ih
    test x ys t ih true e = elim (cases_eq k key) [
      | inl same ↦ absurd (let a : true ≡ false = sym t ∙ ap P same ∙ h in cc)
      | inr differ ↦ absurd (let a : true ≡ false = sym e ∙ ne_eqb k key differ in cc)
    ]

    at : (b : Bool) → P k ≡ b → ((ys : List A) → beside (filter P ks) ys key other ≡ other) → (xs : List A) → beside (cond b (k ∷ filter P ks) (filter P ks)) xs key other ≡ other
    at false e ih xs = ih xs
    at true e ih [] = refl
    at true e ih (x ∷ ys) = test x ys e (ih ys) (k == key) refl

-- what holds of 0 and of the extra of a pair holds of its price
rho_each : (P : ℤ → Type 0) (n : Limits) (leaf : Leaf) (k j : ℕ) → P (extra_of n leaf k j) → P (pos 0) → P (rho_of (prices_of n leaf) k j)
rho_each P n leaf k j h none = map_at (λ row. P (get_or row j (pos 0))) (λ k. map (extra_of n leaf k) (range_with_len 0 (tasks_in n))) (teams_in n) k []
    (λ l. map_at P (extra_of n leaf k) (tasks_in n) j (pos 0) (λ m. h) none) none

pub on_required : (n : Limits) (leaf : Leaf) → IsOnRequired n (prices_of n leaf)
on_required n leaf k j other = rho_each (λ v. v ≡ pos 0) n leaf k j
    (beside_none (λ k. is_required (pair_of n k j)) (range_with_len 0 (teams_in n)) (beside (priced n) leaf.extras j []) k (pos 0) (not_required (pair_of n k j) other)) refl

-- ---- each price lies in its range

beside_in : {A : Type 0} (P : A → Type 0) (ks : List ℕ) (xs : List A) (key : ℕ) (other : A) → AllByRecursion P xs → P other → P (beside ks xs key other)
beside_in P [] xs key other h o = o
beside_in P (k ∷ ks) [] key other h o = o
beside_in {A} P (k ∷ ks) (x ∷ xs) key other h o = at (k == key) (beside_in P ks xs key other h.1 o)
  where
    at : (b : Bool) → P (beside ks xs key other) → P (cond b x (beside ks xs key other))
    at true r = h.0
    at false r = r

rows_in : (In : ℤ → Type 0) (wants : ℕ → ℕ) (keys : List ℕ) (rows : List (List ℤ)) → AreRows In wants keys rows → AllByRecursion (λ row. AllByRecursion In row) rows
rows_in In wants [] [] h = tt
rows_in In wants [] (row ∷ rows) h = absurd h
rows_in In wants (k ∷ ks) [] h = absurd h
rows_in In wants (k ∷ ks) (row ∷ rows) h = (h.1, rows_in In wants ks rows h.2)

no_price : IsPrice (pos 0)
no_price = record { least = omega (arith, ints); most = omega (arith, ints) }

pub in_range : (n : Limits) (leaf : Leaf) → AllByRecursion IsPrice leaf.prices → AreRows IsPrice (λ j. length (required_teams n j)) (priced n) leaf.extras → AreInRange (prices_of n leaf)
in_range n leaf h rows = record {
  tasks = λ j. All-or IsPrice leaf.prices j (pos 0) (All-from_recursion IsPrice leaf.prices h) no_price;
  pairs = λ k j. rho_each IsPrice n leaf k j
      (beside_in IsPrice (required_teams n j) (beside (priced n) leaf.extras j []) k (pos 0)
      (beside_in (λ row. AllByRecursion IsPrice row) (priced n) leaf.extras j [] (rows_in IsPrice (λ j. length (required_teams n j)) (priced n) leaf.extras rows) tt) no_price)
      no_price;
}
