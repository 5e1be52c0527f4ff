-- keys of rows: which come next, and what stands beside them
use Rattle.std.proofs.Common.{◌≡◌, ◌<◌, ◌≤◌, ◌+◌, ◌-◌, ℕ, zero, suc, List, [], ◌∷◌, ◌++◌, length, get_or, ap, sym, refl, ◌∙◌, arith, add-one, zero-add, Bool, true, false, cond, ◌⊎◌, inl, inr, length-append}
use Rattle.std.specs.Prelude.{◌≢◌, ◌==◌, ℤ, filter, Option, None, Some}
use Rattle.std.specs.List.{AllByRecursion, range_with_len}
use Rattle.std.proofs.lemmas.List.{append-nil}
use Rattle.std.proofs.lemmas.List.Elements.{filter-append}
use Rattle.std.proofs.lemmas.Bool.{cases_lt, eq-eqb, ne_eqb}
use Rattle.crew_terms.specs.Ranges.{range_append}
use Rattle.dossier_terms.specs.Dossier.{beside}
use Rattle.leaf_check.specs.Keys.{IsNextKey, IsRowDue, AreLeft, keys_below, keys_from}
use Rattle.crew_terms.specs.Listed.{range_suc}

-- ---- numbers in a row

range_split : (n j : ℕ) → j ≤ n → range_with_len 0 n ≡ range_with_len 0 j ++ range_with_len j (n - j)
range_split n j l =
    let e : n ≡ j + (n - j) = omega arith in
    ap (range_with_len 0) e ∙ range_append 0 j (n - j) ∙ ap (λ m. range_with_len 0 j ++ range_with_len m (n - j)) (zero-add j)

-- ---- the keys from a number on

module _ (p : ℕ → Bool) where
  skip : (x : ℕ) (xs : List ℕ) → p x ≡ false → filter p (x ∷ xs) ≡ filter p xs
  skip x xs h = ap (λ b. cond b (x ∷ filter p xs) (filter p xs)) h

  keep : (x : ℕ) (xs : List ℕ) → p x ≡ true → filter p (x ∷ xs) ≡ x ∷ filter p xs
  keep x xs h = ap (λ b. cond b (x ∷ filter p xs) (filter p xs)) h

  pub keys_split : (n j : ℕ) → j ≤ n → keys_below p n ≡ keys_below p j ++ keys_from p n j
  keys_split n j l = ap (filter p) (range_split n j l) ∙ filter-append p (range_with_len 0 j) (range_with_len j (n - j))

  pub keys_all : (n : ℕ) → keys_below p n ≡ keys_from p n 0
  keys_all n = let e : n ≡ n - 0 = omega arith in ap (λ m. filter p (range_with_len 0 m)) e

  -- the number itself, and those after it
  range_first : (n j : ℕ) → j < n → range_with_len j (n - j) ≡ j ∷ range_with_len (suc j) (n - suc j)
  range_first n j l =
      let e : n - j ≡ suc (n - suc j) = omega arith in
      ap (range_with_len j) e ∙ ap (λ m. j ∷ range_with_len m (n - suc j)) (add-one j)

  keys_skip : (n j : ℕ) → j < n → p j ≡ false → keys_from p n j ≡ keys_from p n (suc j)
  keys_skip n j l h = ap (filter p) (range_first n j l) ∙ skip j (range_with_len (suc j) (n - suc j)) h

  pub keys_keep : (n j : ℕ) → j < n → p j ≡ true → keys_from p n j ≡ j ∷ keys_from p n (suc j)
  keys_keep n j l h = ap (filter p) (range_first n j l) ∙ keep j (range_with_len (suc j) (n - suc j)) h

  keys_end : (n from : ℕ) → n ≤ from → keys_from p n from ≡ []
  keys_end n from l =
      let e : n - from ≡ 0 = omega arith in
      ap (λ m. filter p (range_with_len from m)) e

  -- none of so many numbers is a key
  keys_gap : (n from gap : ℕ) → from + gap ≤ n → ((i : ℕ) → from ≤ i → i < from + gap → p i ≡ false) → keys_from p n from ≡ keys_from p n (from + gap)
  keys_gap n from zero l h = ap (keys_from p n) (omega arith)
  keys_gap n from (suc gap) l h =
      keys_skip n from (omega arith) (h from (omega arith) (omega arith))
      ∙ keys_gap n (suc from) gap (omega arith) (λ i a b. h i (omega arith) (omega arith))
      ∙ ap (keys_from p n) (omega arith)

  keys_to : (n from j : ℕ) → from ≤ j → j ≤ n → ((i : ℕ) → from ≤ i → i < j → p i ≡ false) → keys_from p n from ≡ keys_from p n j
  keys_to n from j a b h =
      let e : from + (j - from) ≡ j = omega arith in
      keys_gap n from (j - from) (omega arith) (λ i c d. h i c (omega arith)) ∙ ap (keys_from p n) e

  pub keys_next : (n from j : ℕ) → IsNextKey p n from (Some j) → keys_from p n from ≡ j ∷ keys_from p n (suc j)
  keys_next n from j h = keys_to n from j h.0 (let l = h.1 in omega arith) h.3 ∙ keys_keep n j h.1 h.2

  pub keys_over : (n from : ℕ) → IsNextKey p n from None → keys_from p n from ≡ []
  keys_over n from h = at (cases_lt from n)
    where
      at : (from < n) ⊎ (n ≤ from) → keys_from p n from ≡ []
      at (inl l) = keys_to n from n (omega arith) (omega arith) h ∙ keys_end n n (omega arith)
      at (inr l) = keys_end n from l

  -- the keys below the next one are those below the number that it is sought from
  pub keys_before : (n from j : ℕ) → IsNextKey p n from (Some j) → keys_below p j ≡ keys_below p from
  keys_before n from j h =
      keys_split j from h.0
      ∙ ap (λ xs. keys_below p from ++ xs) (keys_to j from j h.0 (omega arith) h.3 ∙ keys_end j j (omega arith))
      ∙ append-nil (keys_below p from)

  -- the keys below the number after a key
  pub keys_with : (j : ℕ) → p j ≡ true → keys_below p (suc j) ≡ keys_below p j ++ j ∷ []
  keys_with j h = ap (filter p) (range_suc j) ∙ filter-append p (range_with_len 0 j) (j ∷ []) ∙ ap (λ xs. keys_below p j ++ xs) (keep j [] h)

  pub keys_without : (j : ℕ) → p j ≡ false → keys_below p (suc j) ≡ keys_below p j
  keys_without j h =
      ap (filter p) (range_suc j) ∙ filter-append p (range_with_len 0 j) (j ∷ []) ∙ ap (λ xs. keys_below p j ++ xs) (skip j [] h) ∙ append-nil (keys_below p j)

  -- a number is not among the keys below it
  absent_one : (j x : ℕ) (xs : List ℕ) → x ≢ j → AllByRecursion (λ k. k ≢ j) (filter p xs) → (b : Bool) → AllByRecursion (λ k. k ≢ j) (cond b (x ∷ filter p xs) (filter p xs))
  absent_one j x xs l h true = (l, h)
  absent_one j x xs l h false = h

  absent : (xs : List ℕ) (j : ℕ) → AllByRecursion (λ k. k ≢ j) xs → AllByRecursion (λ k. k ≢ j) (filter p xs)
  absent [] j h = h
  absent (x ∷ xs) j h = absent_one j x xs h.0 (absent xs j h.1) (p x)

  pub not_below : (j : ℕ) → AllByRecursion (λ k. k ≢ j) (keys_below p j)
  not_below j = absent (range_with_len 0 j) j (others 0 j (omega arith))
    where
      others : (a m : ℕ) → a + m ≤ j → AllByRecursion (λ k. k ≢ j) (range_with_len a m)
      others a zero l = tt
      others a (suc m) l = ((λ e. absurd (omega arith)), others (a + 1) m (omega arith))

-- ---- what stands beside a key

hit : {A : Type 0} (k : ℕ) (ks : List ℕ) (x : A) (xs : List A) (none : A) → beside (k ∷ ks) (x ∷ xs) k none ≡ x
hit k ks x xs none = ap (λ b. cond b x (beside ks xs k none)) (eq-eqb k k refl)

miss : {A : Type 0} (k key : ℕ) (ks : List ℕ) (x : A) (xs : List A) (none : A) → k ≢ key → beside (k ∷ ks) (x ∷ xs) key none ≡ beside ks xs key none
miss k key ks x xs none differ = ap (λ b. cond b x (beside ks xs key none)) (ne_eqb k key differ)

pub beside_nothing : {A : Type 0} (ks : List ℕ) (key : ℕ) (none : A) → beside ks [] key none ≡ none
beside_nothing [] key none = refl
beside_nothing (k ∷ ks) key none = refl

-- what stands beside a key that is not among the first ones
beside_past : {A : Type 0} (ks js : List ℕ) (xs ys : List A) (key : ℕ) (none : A) → length xs ≡ length ks → AllByRecursion (λ k. k ≢ key) ks
    → beside (ks ++ js) (xs ++ ys) key none ≡ beside js ys key none
beside_past [] js [] ys key none e h = refl
beside_past [] js (x ∷ xs) ys key none e h = absurd (omega arith)
beside_past (k ∷ ks) js [] ys key none e h = absurd (omega arith)
beside_past (k ∷ ks) js (x ∷ xs) ys key none e h = miss k key (ks ++ js) x (xs ++ ys) none h.0 ∙ beside_past ks js xs ys key none (omega arith) h.1

-- only what stands beside later keys is another
beside_later : {A : Type 0} (ks js : List ℕ) (xs ys zs : List A) (key : ℕ) (none : A) → length xs ≡ length ks → beside js ys key none ≡ beside js zs key none
    → beside (ks ++ js) (xs ++ ys) key none ≡ beside (ks ++ js) (xs ++ zs) key none
beside_later [] js [] ys zs key none e h = h
beside_later [] js (x ∷ xs) ys zs key none e h = absurd (omega arith)
beside_later (k ∷ ks) js [] ys zs key none e h = absurd (omega arith)
beside_later (k ∷ ks) js (x ∷ xs) ys zs key none e h = ap (cond (k == key) x) (beside_later ks js xs ys zs key none (omega arith) h)

-- one more key, where there is a value for it
pub beside_more : {A : Type 0} (ks : List ℕ) (k : ℕ) (vs : List A) (none d : A) → length ks < length vs → AllByRecursion (λ i. i ≢ k) ks
    → beside (ks ++ k ∷ []) vs k none ≡ get_or vs (length ks) d
beside_more [] k [] none d l h = absurd (omega arith)
beside_more [] k (v ∷ vs) none d l h = hit k [] v vs none
beside_more (i ∷ ks) k [] none d l h = absurd (omega arith)
beside_more (i ∷ ks) k (v ∷ vs) none d l h = miss i k (ks ++ k ∷ []) v vs none h.0 ∙ beside_more ks k vs none d (omega arith) h.1

pub beside_same : {A : Type 0} (ks : List ℕ) (k key : ℕ) (vs : List A) (none : A) → k ≢ key → beside (ks ++ k ∷ []) vs key none ≡ beside ks vs key none
beside_same [] k key [] none h = refl
beside_same [] k key (v ∷ vs) none h = miss k key [] v vs none h
beside_same (i ∷ ks) k key [] none h = refl
beside_same (i ∷ ks) k key (v ∷ vs) none h = ap (cond (i == key) v) (beside_same ks k key vs none h)

-- ---- rows

module _ (p : ℕ → Bool) (n : ℕ) (rows : List (List ℤ)) (j : ℕ) (js : List ℕ) (due : IsRowDue p n rows j js) where
  all_keys : keys_below p n ≡ keys_below p j ++ j ∷ js
  all_keys =
      keys_split p n j (let l = due.known in omega arith)
      ∙ ap (λ xs. keys_below p j ++ xs) (keys_keep p n j due.known due.key ∙ ap (λ xs. j ∷ xs) (sym due.later))

  pub row_new : (row none : List ℤ) → beside (keys_below p n) (rows ++ row ∷ []) j none ≡ row
  row_new row none =
      ap (λ ks. beside ks (rows ++ row ∷ []) j none) all_keys
      ∙ beside_past (keys_below p j) (j ∷ js) rows (row ∷ []) j none due.read (not_below p j)
      ∙ hit j js row [] none

  -- a row that is not read yet
  pub row_absent : (none : List ℤ) → beside (keys_below p n) rows j none ≡ none
  row_absent none =
      ap (λ ks. beside ks rows j none) all_keys
      ∙ ap (λ xs. beside (keys_below p j ++ j ∷ js) xs j none) (sym (append-nil rows))
      ∙ beside_past (keys_below p j) (j ∷ js) rows [] j none due.read (not_below p j)

  pub row_other : (row none : List ℤ) (key : ℕ) → key ≢ j → beside (keys_below p n) (rows ++ row ∷ []) key none ≡ beside (keys_below p n) rows key none
  row_other row none key differ =
      ap (λ ks. beside ks (rows ++ row ∷ []) key none) all_keys
      ∙ beside_later (keys_below p j) (j ∷ js) rows (row ∷ []) [] key none due.read (miss j key js row [] none (λ e. differ (sym e)) ∙ beside_nothing js key none)
      ∙ ap (λ xs. beside (keys_below p j ++ j ∷ js) xs key none) (append-nil rows)
      ∙ ap (λ ks. beside ks rows key none) (sym all_keys)

  -- the keys that are left after this row
  pub left_after : (row : List ℤ) (next : Option ℕ) → IsNextKey p n (suc j) next → AreLeft p n (rows ++ row ∷ []) next js
  left_after row None h = due.later ∙ keys_over p n (suc j) h
  left_after row (Some i) h = (
    keys_from p n (suc i),
    due.later ∙ keys_next p n (suc j) i h,
    record {
      known = h.1;
      key = h.2;
      read =
          let e : length (rows ++ row ∷ []) ≡ length rows + 1 = length-append rows (row ∷ []) in
          let f : length (keys_below p i) ≡ length (keys_below p j ++ j ∷ []) = ap length (keys_before p n (suc j) i h ∙ keys_with p j due.key) in
          let g = length-append (keys_below p j) (j ∷ []) in
          let r = due.read in
          omega arith;
      later = refl;
    },
  )

-- the keys that are left before the first row
pub left_first : (p : ℕ → Bool) (n : ℕ) (next : Option ℕ) → IsNextKey p n 0 next → AreLeft p n [] next (keys_below p n)
left_first p n None h = keys_all p n ∙ keys_over p n 0 h
left_first p n (Some i) h = (
  keys_from p n (suc i),
  keys_all p n ∙ keys_next p n 0 i h,
  record {
    known = h.1;
    key = h.2;
    read = ap length (sym (keys_before p n 0 i h));
    later = refl;
  },
)
