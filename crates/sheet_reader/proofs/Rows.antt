-- the rows of a team's potentials, as its table has them
use Rattle.std.proofs.Common.{◌≡◌, ◌<◌, ◌≤◌, ◌+◌, ◌-◌, ℕ, zero, suc, ℤ, List, [], ◌∷◌, ◌++◌, length, get_or, ap, sym, refl, ◌∙◌, arith, add-one, Bool, true, false, cond, ◌⊎◌, inl, inr, length-append}
use Rattle.std.specs.Prelude.{◌≢◌, filter, nat_lt, pos}
use Rattle.std.specs.List.{range_with_len}
use Rattle.std.proofs.lemmas.Bool.{cases_lt, cases_eq, eq-eqb, ne_eqb, lt-ltb}
use Rattle.std.proofs.lemmas.List.{get_or_append_left, get_or_past, get_or_push}
use Rattle.crew_terms.specs.Limits.{Limits, tasks_in}
use Rattle.crew_terms.specs.Minutes.{first_minute, minute_count, open_tasks}
use Rattle.dossier_terms.specs.Dossier.{Potentials, beside, phi_in}
use Rattle.leaf_check.specs.Keys.{has_minutes}
use Rattle.minute_rules.specs.Rules.{phi_by}
use Rattle.sheet_lines.specs.Rows.{rows_at_keys, HasRowsBefore}

-- ---- one more row of a task that the team may begin

rows_push : (p : ℕ → Bool) (i : ℕ) (rows : List (List ℤ)) (row : List ℤ) → p (i + length rows) ≡ true → rows_at_keys p i (rows ++ row ∷ []) ≡ rows_at_keys p i rows ++ row ∷ []
rows_push p i [] row is = let e : i ≡ i + 0 = omega arith in ap (λ b. cond b (row ∷ []) []) (ap p e ∙ is)
rows_push p i (r ∷ rows) row is = at (p i) _ _ (rows_push p (suc i) rows row (let e : suc i + length rows ≡ i + suc (length rows) = omega arith in ap p e ∙ is))
  where
    at : (b : Bool) (xs ys : List (List ℤ)) → xs ≡ ys ++ row ∷ [] → cond b (r ∷ xs) xs ≡ cond b (r ∷ ys) ys ++ row ∷ []
    at true xs ys e = ap (λ rs. r ∷ rs) e
    at false xs ys e = e

pub one_row : (n : Limits) (k : ℕ) (rows phi : List (List ℤ)) (row : List ℤ) → HasRowsBefore n k rows phi → length rows < tasks_in n
    → length row ≡ minute_count n k (length rows) → has_minutes n k (length rows) ≡ true → HasRowsBefore n k (rows ++ row ∷ []) (phi ++ row ∷ [])
one_row n k rows phi row h known count is = record {
  few = (let e = length-append rows (row ∷ []) in omega arith);
  minutes = λ j l. by j l (cases_lt j (length rows));
  read = rows_push (has_minutes n k) 0 rows row (let e : 0 + length rows ≡ length rows = omega arith in ap (has_minutes n k) e ∙ is) ∙ ap (λ rs. rs ++ row ∷ []) h.read;
}
  where
    by : (j : ℕ) → j < length (rows ++ row ∷ []) → (j < length rows) ⊎ (length rows ≤ j) → length (get_or (rows ++ row ∷ []) j []) ≡ minute_count n k j
    by j l (inl m) = ap length (get_or_append_left rows (row ∷ []) [] j m) ∙ h.minutes j m
    by j l (inr m) =
        let a = length-append rows (row ∷ []) in
        let e : j ≡ length rows = omega arith in
        ap length (get_or_push rows row [] j (sym e)) ∙ count ∙ ap (minute_count n k) (sym e)

-- before the first row
pub no_row : (n : Limits) (k : ℕ) → HasRowsBefore n k [] []
no_row n k = record { few = omega arith; minutes = λ j l. absurd (omega arith); read = refl }

-- ---- what stands beside a task that the team may begin is its row

module _ (p : ℕ → Bool) where
  -- no key is below the first number
  below : (a m : ℕ) (xs : List (List ℤ)) (j : ℕ) → j < a → beside (filter p (range_with_len a m)) xs j [] ≡ []
  below a zero xs j l = refl
  below a (suc m) xs j l = at (p a) xs (λ ys. below (a + 1) m ys j (omega arith))
    where
      keys : List ℕ
      keys = filter p (range_with_len (a + 1) m)

      at : (b : Bool) (xs : List (List ℤ)) → ((ys : List (List ℤ)) → beside keys ys j [] ≡ []) → beside (cond b (a ∷ keys) keys) xs j [] ≡ []
      at true [] later = refl
      at true (x ∷ xs) later = let differ : a ≢ j = λ e. absurd (omega arith) in ap (λ b. cond b x (beside keys xs j [])) (ne_eqb a j differ) ∙ later xs
      at false xs later = later xs

  at_keys : (i : ℕ) (rows : List (List ℤ)) (j : ℕ) → i ≤ j → ((x : ℕ) → x < length rows → p (i + x) ≡ false → get_or rows x [] ≡ [])
      → beside (filter p (range_with_len i (length rows))) (rows_at_keys p i rows) j [] ≡ get_or rows (j - i) []
  at_keys i [] j l none = sym (get_or_past [] (j - i) [] (omega arith))
  at_keys i (r ∷ rows) j l none = at (p i) refl (cases_eq i j) (λ m. at_keys (suc i) rows j m (λ x b is. none (suc x) (omega arith) (ap p (let e : i + suc x ≡ suc i + x = omega arith in e) ∙ is)))
    where
      keys : List ℕ
      keys = filter p (range_with_len (i + 1) (length rows))

      left : List (List ℤ)
      left = rows_at_keys p (suc i) rows

      Later : Type 0
      Later = suc i ≤ j → beside (filter p (range_with_len (suc i) (length rows))) left j [] ≡ get_or rows (j - suc i) []

      past : Later → suc i ≤ j → beside keys left j [] ≡ get_or (r ∷ rows) (j - i) []
      past later m =
          ap (λ a. beside (filter p (range_with_len a (length rows))) left j []) (add-one i)
          ∙ later m
          ∙ ap (λ a. get_or (r ∷ rows) a []) (let e : suc (j - suc i) ≡ j - i = omega arith in e)

      here : i ≡ j → r ≡ get_or (r ∷ rows) (j - i) []
      here e = ap (λ a. get_or (r ∷ rows) a []) (let f : 0 ≡ j - i = omega arith in f)

      at : (b : Bool) → p i ≡ b → (i ≡ j) ⊎ (i ≡ j → ⊥) → Later → beside (cond b (i ∷ keys) keys) (cond b (r ∷ left) left) j [] ≡ get_or (r ∷ rows) (j - i) []
      at true is (inl e) later = ap (λ b. cond b r (beside keys left j [])) (eq-eqb i j e) ∙ here e
      at true is (inr ne) later = let differ : i ≢ j = ne in ap (λ b. cond b r (beside keys left j [])) (ne_eqb i j differ) ∙ past later (omega arith)
      at false is (inl e) later =
          below (i + 1) (length rows) left j (omega arith)
          ∙ sym (none 0 (omega arith) (ap p (let f : i + 0 ≡ i = omega arith in f) ∙ is))
          ∙ here e
      at false is (inr ne) later = let differ : i ≢ j = ne in past later (omega arith)

-- no minute is counted where the team may not begin the task
closed_count : (m : ℕ) → nat_lt 0 m ≡ false → m ≡ 0
closed_count m e = by (cases_lt 0 m)
  where
    by : (0 < m) ⊎ (m ≤ 0) → m ≡ 0
    by (inr l) = omega arith
    by (inl l) = let t : nat_lt 0 m ≡ true = lt-ltb 0 m l in absurd (let f : true ≡ false = sym t ∙ e in cc)

no_numbers : (row : List ℤ) → length row ≡ 0 → row ≡ []
no_numbers [] e = refl
no_numbers (v ∷ vs) e = absurd (omega arith)

-- the potentials of the rows are those of the table
pub same_phi : (n : Limits) (k : ℕ) (rows : List (List ℤ)) (table : Potentials) → HasRowsBefore n k rows table.phi → length rows ≡ tasks_in n
    → (j t : ℕ) → phi_by n k rows j t ≡ phi_in n k table j t
same_phi n k rows table h whole j t = ap (λ row. get_or row (t - first_minute n k j) (pos 0)) (sym row_is)
  where
    none : (x : ℕ) → x < length rows → has_minutes n k (0 + x) ≡ false → get_or rows x [] ≡ []
    none x l is =
        no_numbers (get_or rows x []) (h.minutes x l ∙ closed_count (minute_count n k x) (ap (has_minutes n k) (let e : x ≡ 0 + x = omega arith in e) ∙ is))

    row_is : beside (open_tasks n k) table.phi j [] ≡ get_or rows j []
    row_is =
        ap (λ m. beside (filter (has_minutes n k) (range_with_len 0 m)) table.phi j []) (sym whole)
        ∙ ap (λ phi. beside (filter (has_minutes n k) (range_with_len 0 (length rows))) phi j []) (sym h.read)
        ∙ at_keys (has_minutes n k) 0 rows j (omega arith) none
        ∙ ap (λ m. get_or rows m []) (let e : j - 0 ≡ j = omega arith in e)
