-- sums with more shares
use Rattle.std.proofs.Common.{◌≡◌, ◌≤◌, ◌<◌, ◌+◌, ◌*◌, ℕ, zero, suc, ℤ, pos, List, [], ◌∷◌, length, take, set, cond, ap, sym, refl, ◌∙◌, subst, arith, ◌⊎◌, inl, inr}
use Rattle.std.proofs.Math.Nat.{mul-add}
use Rattle.std.proofs.lemmas.Int.{ints}
use Rattle.std.specs.Prelude.{◌==◌, if◌then◌else◌, negsuc, ◌+ℤ◌, ◌*ℤ◌, ◌≤ℤ◌}
use Rattle.std.proofs.lemmas.Bool.{cases_eq, eq-eqb, ne_eqb}
use Rattle.std.proofs.lemmas.List.{get_or-set_same, get_or-set_other, length-set}
use Rattle.std.proofs.lemmas.List.Sums.{sum_by_more}
use Rattle.crew_num.specs.declared.Mixed.{Mixed}
use Rattle.crew_terms.specs.declared.Visit.{Visit}
use Rattle.share_terms.specs.Shares.{visits_to}
use Rattle.share_check.specs.CellSums.{AreSums, IsSum, sum_at, visit_at}

-- sums of the same numbers
pub sums_same : (whole : ℕ) (sums : List Mixed) (f g : ℕ → ℕ) → ((j : ℕ) → f j ≡ g j) → AreSums whole sums f → AreSums whole sums g
sums_same whole sums f g same h j l = subst (IsSum whole (sum_at sums j)) (same j) (h j l)

-- a sum at one place is put in place of another
pub sums_put : (whole : ℕ) (sums : List Mixed) (place k : ℕ) (sum : Mixed) (f : ℕ → ℕ) → place < length sums → AreSums whole sums f → IsSum whole sum (f place + k)
    → AreSums whole (set sums place sum) (λ j. f j + (if j == place then k else 0))
sums_put whole sums place k sum f within h one j l = at (cases_eq j place)
  where
    at : (j ≡ place) ⊎ (j ≡ place → ⊥) → IsSum whole (sum_at (set sums place sum) j) (f j + (if j == place then k else 0))
    at (inl e) =
        let here : sum_at (set sums place sum) j ≡ sum = ap (λ i. sum_at (set sums place sum) i) e ∙ get_or-set_same sums place sum _ within in
        let more : f place + k ≡ f j + (if j == place then k else 0) = ap (λ i. f i + k) (sym e) ∙ ap (λ b. f j + cond b k 0) (sym (eq-eqb j place e)) in
        subst (λ (s : Mixed). IsSum whole s (f j + (if j == place then k else 0))) (sym here) (subst (IsSum whole sum) more one)
    at (inr e) =
        let there : sum_at (set sums place sum) j ≡ sum_at sums j = get_or-set_other sums place j sum _ e in
        let more : f j ≡ f j + (if j == place then k else 0) = (let z : f j ≡ f j + 0 = omega arith in z) ∙ ap (λ b. f j + cond b k 0) (sym (ne_eqb j place e)) in
        subst (λ (s : Mixed). IsSum whole s (f j + (if j == place then k else 0))) (sym there)
        (subst (IsSum whole (sum_at sums j)) more (h j (omega (arith, length-set sums place sum))))

-- one more visit
pub visits_more : (vs : List Visit) (i j : ℕ) → i < length vs → visits_to j (take (i + 1) vs) ≡ visits_to j (take i vs) + (if (visit_at vs i).task == j then 1 else 0)
visits_more vs i j l = sum_by_more (λ (v : Visit). cond (v.task == j) 1 0) vs i (record { task = 0; start = 0 }) l

-- a number from 0 on over a whole is a number of parts
pub parts_told : (w : ℤ) (whole part : ℕ) → pos 0 ≤ℤ w → (k : ℕ) × ((w *ℤ pos whole) +ℤ pos part ≡ pos k)
parts_told (pos a) whole part l = (a * whole + part, refl)
parts_told (negsuc a) whole part l = absurd (omega (arith, ints))

-- one more share at the place of a visit's task
pub share_more : (n k v j t : ℕ) → (n + k * v) + (if j == t then k else 0) ≡ n + k * (v + (if t == j then 1 else 0))
share_more n k v j t = at (cases_eq j t)
  where
    at : (j ≡ t) ⊎ (j ≡ t → ⊥) → (n + k * v) + (if j == t then k else 0) ≡ n + k * (v + (if t == j then 1 else 0))
    at (inl e) =
        let one : k * (v + 1) ≡ k * v + k * 1 = mul-add k v 1 in
        ap (λ b. (n + k * v) + cond b k 0) (eq-eqb j t e) ∙ (let a : (n + k * v) + k ≡ n + k * (v + 1) = omega arith in a) ∙ ap (λ b. n + k * (v + cond b 1 0)) (sym (eq-eqb t j (sym e)))
    at (inr e) =
        ap (λ b. (n + k * v) + cond b k 0) (ne_eqb j t e) ∙ (let a : (n + k * v) + 0 ≡ n + k * v = omega arith in a) ∙ ap (λ u. n + k * u) (let z : v ≡ v + 0 = omega arith in z)
        ∙ ap (λ b. n + k * (v + cond b 1 0)) (sym (ne_eqb t j (λ f. e (sym f))))

-- the sum of no shares
pub nothing_is : (whole : ℕ) → 1 ≤ whole → IsSum whole (record { whole = pos 0; part = 0 }) 0
nothing_is whole some = record {
  mixed = record { not_negative = omega (arith, ints); at_most = omega (arith, ints); below = omega arith };
  exact = λ l. ap pos (let z : 0 * whole + 0 ≡ 0 = omega arith in z);
  many = λ l. absurd (omega (arith, ints));
}

pub take_whole : {X : Type 0} (i : ℕ) (xs : List X) → length xs ≤ i → take i xs ≡ xs
take_whole zero [] l = refl
take_whole zero (x ∷ xs) l = absurd (omega arith)
take_whole (suc i) [] l = refl
take_whole (suc i) (x ∷ xs) l = ap (λ ys. x ∷ ys) (take_whole i xs (omega arith))
