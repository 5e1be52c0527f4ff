-- what the numbers of a leaf stand for
use Rattle.std.proofs.Common.{◌≡◌, ◌<◌, ◌+◌, ◌-◌, ℕ, zero, suc, ℤ, List, [], ◌∷◌, length, ap, refl, ◌∙◌, subst, arith, Bool, true, false, cond}
use Rattle.std.specs.Prelude.{◌==◌, nat_lt, pos, slice_index, slice_index_or}
use Rattle.std.specs.List.Sorted.{IsStrictlyIncreasing}
use Rattle.std.proofs.lemmas.Bool.{eqb-true, eq-eqb}
use Rattle.std.proofs.lemmas.List.Kept.{AllPairs-from_increasing}
use Rattle.crew_terms.specs.Limits.{Limits, tasks_in, teams_in, pair_of, is_required, has_required}
use Rattle.crew_terms.specs.Leaf.{IsPrice, rho_of}
use Rattle.dossier_terms.specs.Dossier.{Leaf, Potentials, no_potentials, beside, AreRows, Tables, IsTable, IsSigned, IsWritten, prices_of, phi_of}
use Rattle.dossier_terms.specs.PricesAt.{rho_at}
use Rattle.crew_terms.specs.Minutes.{priced, required_teams, open_tasks, minute_count, first_minute}
use Rattle.crew_terms.specs.Rising.{rises_tail}
use Rattle.dossier_laws.proofs.Below.{kept_less, kept_rises}

rows-length : (In : ℤ → Type 0) (wants : ℕ → ℕ) (keys : List ℕ) (rows : List (List ℤ)) → AreRows In wants keys rows → length rows ≡ length keys
rows-length In wants [] [] h = refl
rows-length In wants [] (row ∷ rows) h = absurd h
rows-length In wants (k ∷ ks) [] h = absurd h
rows-length In wants (k ∷ ks) (row ∷ rows) h = let a = rows-length In wants ks rows h.2 in omega arith

row-length : (In : ℤ → Type 0) (wants : ℕ → ℕ) (keys : List ℕ) (rows : List (List ℤ)) (a : ℕ) → AreRows In wants keys rows → a < length keys → length (slice_index_or rows a []) ≡ wants (slice_index keys a)
row-length In wants [] rows a h l = absurd (omega arith)
row-length In wants (k ∷ ks) [] a h l = absurd h
row-length In wants (k ∷ ks) (row ∷ rows) zero h l = h.0
row-length In wants (k ∷ ks) (row ∷ rows) (suc a) h l = row-length In wants ks rows a h.2 (omega arith)

-- beside a key of a rising list stands what has its place
beside_at : {A : Type 0} (ks : List ℕ) (xs : List A) (a : ℕ) (none : A) → IsStrictlyIncreasing ks → a < length ks → length xs ≡ length ks → beside ks xs (slice_index ks a) none ≡ slice_index_or xs a none
beside_at [] xs a none h l e = absurd (omega arith)
beside_at (k ∷ ks) [] a none h l e = absurd (omega arith)
beside_at (k ∷ ks) (x ∷ xs) zero none h l e = ap (λ b. cond b x (beside ks xs k none)) (eq-eqb k k refl)
beside_at (k ∷ ks) (x ∷ xs) (suc a) none h l e = at (k == slice_index ks a) refl (beside_at ks xs a none (rises_tail k ks h) (omega arith) (omega arith))
  where
    below : k < slice_index ks a
    below = AllPairs-from_increasing (k ∷ ks) h 0 (suc a) 0 (omega arith) l

    at : (b : Bool) → (k == slice_index ks a) ≡ b → beside ks xs (slice_index ks a) none ≡ slice_index_or xs a none → cond b x (beside ks xs (slice_index ks a) none) ≡ slice_index_or xs a none
    at true t rest = absurd (let f : k ≡ slice_index ks a = eqb-true k (slice_index ks a) t in omega (arith, below))
    at false t rest = rest

pub extra_placed : (n : Limits) (leaf : Leaf) (a b : ℕ) → IsWritten n leaf → a < length (priced n) → b < length (required_teams n (slice_index (priced n) a))
    → rho_of (prices_of n leaf) (slice_index (required_teams n (slice_index (priced n) a)) b) (slice_index (priced n) a) ≡ slice_index_or (slice_index_or leaf.extras a []) b (pos 0)
extra_placed n leaf a b h l m =
    let j = slice_index (priced n) a in
    let required : ℕ → Bool = λ k. is_required (pair_of n k j) in
    let k = slice_index (required_teams n j) b in
    let wants = λ (j : ℕ). length (required_teams n j) in
    rho_at n leaf k j (kept_less required (teams_in n) b 0 m) (kept_less (has_required n) (tasks_in n) a 0 l)
    ∙ ap (λ row. beside (required_teams n j) row k (pos 0)) (beside_at (priced n) leaf.extras a [] (kept_rises (has_required n) (tasks_in n)) l (rows-length IsPrice wants (priced n) leaf.extras h.extras))
    ∙ beside_at (required_teams n j) (slice_index_or leaf.extras a []) b (pos 0) (kept_rises required (teams_in n)) m (row-length IsPrice wants (priced n) leaf.extras a h.extras l)

table_at : (n : Limits) (k : ℕ) (ts : List Potentials) (i : ℕ) → Tables n k ts → k + i < teams_in n → IsTable n (k + i) (slice_index_or ts i no_potentials)
table_at n k [] i h l = absurd (omega arith)
table_at n k (t ∷ ts) zero h l = let e : k ≡ k + 0 = omega arith in subst (λ q. IsTable n q t) e h.0
table_at n k (t ∷ ts) (suc i) h l =
    let e : suc k + i ≡ k + suc i = omega arith in
    subst (λ q. IsTable n q (slice_index_or ts i no_potentials)) e (table_at n (suc k) ts i h.1 (omega arith))

pub phi_placed : (n : Limits) (leaf : Leaf) (k a m : ℕ) → IsWritten n leaf → k < teams_in n → a < length (open_tasks n k)
    → phi_of n leaf k (slice_index (open_tasks n k) a) (first_minute n k (slice_index (open_tasks n k) a) + m) ≡ slice_index_or (slice_index_or (slice_index_or leaf.tables k no_potentials).phi a []) m (pos 0)
phi_placed n leaf k a m h known l =
    let j = slice_index (open_tasks n k) a in
    let rows = (slice_index_or leaf.tables k no_potentials).phi in
    let z : 0 + k ≡ k = omega arith in
    let table = subst (λ q. IsTable n q (slice_index_or leaf.tables k no_potentials)) z (table_at n 0 leaf.tables k h.tables (omega arith)) in
    let d : first_minute n k j + m - first_minute n k j ≡ m = omega arith in
    ap (λ t. slice_index_or (beside (open_tasks n k) rows j []) t (pos 0)) d
    ∙ ap (λ row. slice_index_or row m (pos 0)) (beside_at (open_tasks n k) rows a [] (kept_rises (λ j. nat_lt 0 (minute_count n k j)) (tasks_in n)) l (rows-length IsSigned (minute_count n k) (open_tasks n k) rows table.rows))
