-- steps over places and columns
use Rattle.std.proofs.Common.{◌≡◌, ◌<◌, ◌≤◌, ◌+◌, ◌++◌, ◌∷◌, [], ℕ, zero, suc, List, Bool, true, false, cond, length, take, get_or, refl, ap, arith, ◌∙◌, ◌⊎◌, inl, inr, ◌≢◌, sum_by}
use Rattle.std.specs.Prelude.{pos}
use Rattle.std.proofs.Math.Dec.{eqb}
use Rattle.std.proofs.lemmas.Bool.{eq-eqb}
use Rattle.std.proofs.lemmas.Bool.Decides.{eqb_tells}
use Rattle.std.proofs.lemmas.List.Sums.{sum_by-append}
use Rattle.search_terms.specs.declared.Place.{Place}
use Rattle.search_terms.specs.Opening.{places_where}
use Rattle.frac_master.specs.declared.shares.Share.{Share}
use Rattle.frac_master.specs.Shares.{column_shares}

-- one more place
pub where_more : (test : Place → Bool) (at : ℕ) (ps : List Place) (i : ℕ) (d : Place) → i < length ps
    → places_where test at (take (i + 1) ps) ≡ places_where test at (take i ps) ++ cond (test (get_or ps i d)) ((at + i) ∷ []) []
where_more test at [] i d below = absurd (omega arith)
where_more test at (p ∷ ps) zero d below = by_test (test p)
  where
    by_test : (b : Bool) → cond b (at ∷ []) [] ≡ cond b ((at + 0) ∷ []) []
    by_test true = ap (λ k. k ∷ []) (omega arith)
    by_test false = refl
where_more test at (p ∷ ps) (suc i) d below =
    let e : suc i + 1 ≡ suc (i + 1) = omega arith in
    let again = where_more test (suc at) ps i d (omega arith) in
    let f : suc at + i ≡ at + suc i = omega arith in
    rw e (by_test (test p) (again ∙ ap (λ k. places_where test (suc at) (take i ps) ++ cond (test (get_or ps i d)) (k ∷ []) []) f))
  where
    by_test : (b : Bool) → places_where test (suc at) (take (i + 1) ps) ≡ places_where test (suc at) (take i ps) ++ cond (test (get_or ps i d)) ((at + suc i) ∷ []) []
        → cond b (at ∷ places_where test (suc at) (take (i + 1) ps)) (places_where test (suc at) (take (i + 1) ps))
        ≡ cond b (at ∷ places_where test (suc at) (take i ps)) (places_where test (suc at) (take i ps)) ++ cond (test (get_or ps i d)) ((at + suc i) ∷ []) []
    by_test true again = ap (λ l. at ∷ l) again
    by_test false again = again

-- the first places, and then the others
where_split : (test : Place → Bool) (at i : ℕ) (ps : List Place) → (rest : List ℕ) × (places_where test at ps ≡ places_where test at (take i ps) ++ rest)
where_split test at zero ps = (places_where test at ps, refl)
where_split test at (suc i) [] = ([], refl)
where_split test at (suc i) (p ∷ ps) =
    let again = where_split test (suc at) i ps in
    (again.0, by_test (test p) again.0 again.1)
  where
    by_test : (b : Bool) (rest : List ℕ) → places_where test (suc at) ps ≡ places_where test (suc at) (take i ps) ++ rest
        → cond b (at ∷ places_where test (suc at) ps) (places_where test (suc at) ps) ≡ cond b (at ∷ places_where test (suc at) (take i ps)) (places_where test (suc at) (take i ps)) ++ rest
    by_test true rest e = ap (λ l. at ∷ l) e
    by_test false rest e = e

-- the sum so far is not more than the whole sum
pub sum_where_front : (test : Place → Bool) (f : ℕ → ℕ) (i : ℕ) (ps : List Place) → sum_by f (places_where test 0 (take i ps)) ≤ sum_by f (places_where test 0 ps)
sum_where_front test f i ps =
    let s = where_split test 0 i ps in
    let e = ap (sum_by f) s.1 ∙ sum_by-append f (places_where test 0 (take i ps)) s.0 in
    omega arith

-- the sum with one more place
pub sum_where_more : (test : Place → Bool) (f : ℕ → ℕ) (ps : List Place) (i : ℕ) (d : Place) (b : Bool) → i < length ps → test (get_or ps i d) ≡ b
    → sum_by f (places_where test 0 (take (i + 1) ps)) ≡ sum_by f (places_where test 0 (take i ps)) + cond b (f i) 0
sum_where_more test f ps i d b lt e =
    let front = places_where test 0 (take i ps) in
    ap (sum_by f) (where_more test 0 ps i d lt ∙ ap (λ t. front ++ cond t ((0 + i) ∷ []) []) e)
    ∙ sum_by-append f front (cond b ((0 + i) ∷ []) []) ∙ ap (λ k. sum_by f front + k) (by_test b)
  where
    by_test : (b : Bool) → sum_by f (cond b ((0 + i) ∷ []) []) ≡ cond b (f i) 0
    by_test true = let z : 0 + i ≡ i = omega arith in let e = ap f z in omega (arith, e)
    by_test false = refl

-- one more column
pub columns_more : (x : ℕ → ℕ) (at : ℕ) (cs : List ℕ) (i : ℕ) → i < length cs
    → column_shares x at (take (i + 1) cs) ≡ column_shares x at (take i cs) ++ cond {A = List Share} (eqb (x (at + i)) 0) [] (record { column = get_or cs i 0; num = pos (x (at + i)) } ∷ [])
columns_more x at [] i below = absurd (omega arith)
columns_more x at (c ∷ cs) zero below = by_place at (at + 0) (omega arith)
  where
    by_place : (a b : ℕ) → a ≡ b → cond {A = List Share} (eqb (x a) 0) [] (record { column = c; num = pos (x a) } ∷ []) ≡ cond {A = List Share} (eqb (x b) 0) [] (record { column = c; num = pos (x b) } ∷ [])
    by_place a b e = ap (λ k. cond {A = List Share} (eqb (x k) 0) [] (record { column = c; num = pos (x k) } ∷ [])) e
columns_more x at (c ∷ cs) (suc i) below =
    let e : suc i + 1 ≡ suc (i + 1) = omega arith in
    let again = columns_more x (suc at) cs i (omega arith) in
    let f : suc at + i ≡ at + suc i = omega arith in
    rw e (by_test (eqb (x at) 0) (again ∙ ap (λ k. column_shares x (suc at) (take i cs) ++ cond {A = List Share} (eqb (x k) 0) [] (record { column = get_or cs i 0; num = pos (x k) } ∷ [])) f))
  where
    by_test : (b : Bool)
        → column_shares x (suc at) (take (i + 1) cs) ≡ column_shares x (suc at) (take i cs) ++ cond {A = List Share} (eqb (x (at + suc i)) 0) [] (record { column = get_or cs i 0; num = pos (x (at + suc i)) } ∷ [])
        → cond {A = List Share} b (column_shares x (suc at) (take (i + 1) cs)) (record { column = c; num = pos (x at) } ∷ column_shares x (suc at) (take (i + 1) cs))
        ≡ cond {A = List Share} b (column_shares x (suc at) (take i cs)) (record { column = c; num = pos (x at) } ∷ column_shares x (suc at) (take i cs))
        ++ cond {A = List Share} (eqb (x (at + suc i)) 0) [] (record { column = get_or cs i 0; num = pos (x (at + suc i)) } ∷ [])
    by_test true again = again
    by_test false again = ap (λ l. let m : List Share = record { column = c; num = pos (x at) } ∷ l in m) again

pub is_some : (n : ℕ) → 0 < n → eqb n 0 ≡ false
is_some n lt = by_case (eqb_tells n 0)
  where
    by_case : ((eqb n 0 ≡ true) × (n ≡ 0)) ⊎ ((eqb n 0 ≡ false) × (n ≢ 0)) → eqb n 0 ≡ false
    by_case (inl q) = absurd (omega (arith, q.1))
    by_case (inr q) = q.0

pub is_none : (n : ℕ) → n ≤ 0 → eqb n 0 ≡ true
is_none n le = eq-eqb n 0 (omega arith)
