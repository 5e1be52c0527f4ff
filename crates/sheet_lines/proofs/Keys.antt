-- rows of keys, read one by one
use Rattle.std.proofs.Common.{◌≡◌, ◌<◌, ◌≤◌, ◌+◌, ◌-◌, ℕ, zero, suc, ℤ, List, [], ◌∷◌, ◌++◌, length, get_or, ap, sym, subst, refl, ◌∙◌, arith, add-one, Bool, true, false, cond, ◌⊎◌, inl, inr, length-append, append-nil}
use Rattle.std.specs.Prelude.{filter, nat_lt}
use Rattle.std.specs.List.{range_with_len}
use Rattle.std.proofs.lemmas.Bool.{cases_lt, lt-ltb}
use Rattle.std.proofs.lemmas.List.{get_or_append_left, get_or_push}
use Rattle.crew_terms.specs.Limits.{Limits, tasks_in}
use Rattle.crew_terms.specs.Minutes.{minute_count}
use Rattle.leaf_check.specs.Keys.{has_minutes, keys_from}
use Rattle.sheet_lines.specs.Rows.{rows_at_keys, HasRowsBefore}

-- ---- the keys that are left

module _ (p : ℕ → Bool) (n : ℕ) where
  -- a number and those behind it
  range_first : (j : ℕ) → j < n → range_with_len j (n - j) ≡ j ∷ range_with_len (suc j) (n - suc j)
  range_first j l =
      let e : n - j ≡ suc (n - suc j) = omega arith in
      ap (range_with_len j) e ∙ ap (λ m. j ∷ range_with_len m (n - suc j)) (add-one j)

  pub keys_pass : (j : ℕ) → j < n → p j ≡ false → keys_from p n j ≡ keys_from p n (suc j)
  keys_pass j l h = ap (filter p) (range_first j l) ∙ ap (λ b. cond b (j ∷ keys_from p n (suc j)) (keys_from p n (suc j))) h

  pub keys_take : (j : ℕ) → j < n → p j ≡ true → keys_from p n j ≡ j ∷ keys_from p n (suc j)
  keys_take j l h = ap (filter p) (range_first j l) ∙ ap (λ b. cond b (j ∷ keys_from p n (suc j)) (keys_from p n (suc j))) h

  pub keys_none : (j : ℕ) → n ≤ j → keys_from p n j ≡ []
  keys_none j l =
      let e : n - j ≡ 0 = omega arith in
      ap (λ m. filter p (range_with_len j m)) e

-- ---- one more row

-- its key is one, or not
pub rows_push : (p : ℕ → Bool) (i : ℕ) (rows : List (List ℤ)) (row : List ℤ)
    → rows_at_keys p i (rows ++ row ∷ []) ≡ rows_at_keys p i rows ++ cond (p (i + length rows)) (row ∷ []) []
rows_push p i [] row = at (p i) (p (i + 0)) (ap p (let e : i ≡ i + 0 = omega arith in e))
  where
    at : (a b : Bool) → a ≡ b → cond a (row ∷ []) [] ≡ cond b (row ∷ []) []
    at a b e = ap (λ x. cond x (row ∷ []) []) e
rows_push p i (r ∷ rows) row = at (p i) (rows_push p (suc i) rows row ∙ ap (λ m. rows_at_keys p (suc i) rows ++ cond (p m) (row ∷ []) []) (let e : suc i + length rows ≡ i + suc (length rows) = omega arith in e))
  where
    more : List (List ℤ)
    more = cond (p (i + suc (length rows))) (row ∷ []) []

    at : (b : Bool) → rows_at_keys p (suc i) (rows ++ row ∷ []) ≡ rows_at_keys p (suc i) rows ++ more
        → cond b (r ∷ rows_at_keys p (suc i) (rows ++ row ∷ [])) (rows_at_keys p (suc i) (rows ++ row ∷ [])) ≡ cond b (r ∷ rows_at_keys p (suc i) rows) (rows_at_keys p (suc i) rows) ++ more
    at true e = ap (λ rs. r ∷ rs) e
    at false e = e

module _ (n : Limits) (k : ℕ) (rows phi : List (List ℤ)) (row : List ℤ) (h : HasRowsBefore n k rows phi) (known : length rows < tasks_in n)
    (count : length row ≡ minute_count n k (length rows)) where
  few_more : length (rows ++ row ∷ []) ≤ tasks_in n
  few_more = let e = length-append rows (row ∷ []) in omega arith

  minutes_more : (j : ℕ) → j < length (rows ++ row ∷ []) → length (get_or (rows ++ row ∷ []) j []) ≡ minute_count n k j
  minutes_more j l = by (cases_lt j (length rows))
    where
      by : (j < length rows) ⊎ (length rows ≤ j) → length (get_or (rows ++ row ∷ []) j []) ≡ minute_count n k j
      by (inl m) = ap length (get_or_append_left rows (row ∷ []) [] j m) ∙ h.minutes j m
      by (inr m) =
          let a = length-append rows (row ∷ []) in
          let e : j ≡ length rows = omega arith in
          ap length (get_or_push rows row [] j (sym e)) ∙ count ∙ ap (minute_count n k) (sym e)

  pushed : rows_at_keys (has_minutes n k) 0 (rows ++ row ∷ []) ≡ phi ++ cond (has_minutes n k (length rows)) (row ∷ []) []
  pushed =
      rows_push (has_minutes n k) 0 rows row
      ∙ ap (λ m. rows_at_keys (has_minutes n k) 0 rows ++ cond (has_minutes n k m) (row ∷ []) []) (let e : 0 + length rows ≡ length rows = omega arith in e)
      ∙ ap (λ rs. rs ++ cond (has_minutes n k (length rows)) (row ∷ []) []) h.read

  -- a row of a task that the team may begin
  pub one_open : has_minutes n k (length rows) ≡ true → HasRowsBefore n k (rows ++ row ∷ []) (phi ++ row ∷ [])
  one_open is = record { few = few_more; minutes = minutes_more; read = pushed ∙ ap (λ b. phi ++ cond b (row ∷ []) []) is }

  -- or of one that it may not begin
  pub one_closed : has_minutes n k (length rows) ≡ false → HasRowsBefore n k (rows ++ row ∷ []) phi
  one_closed is = record { few = few_more; minutes = minutes_more; read = pushed ∙ ap (λ b. phi ++ cond b (row ∷ []) []) is ∙ append-nil phi }

-- no minute is counted where the team may not begin the task
pub closed_count : (m : ℕ) → nat_lt 0 m ≡ false → m ≡ 0
closed_count m e = by (cases_lt 0 m)
  where
    by : (0 < m) ⊎ (m ≤ 0) → m ≡ 0
    by (inr l) = omega arith
    by (inl l) = let t : nat_lt 0 m ≡ true = lt-ltb 0 m l in absurd (let f : true ≡ false = sym t ∙ e in cc)
