-- rows of prices, element by element
use Rattle.std.proofs.Common.{◌≡◌, ◌≢◌, ◌≤◌, ◌<◌, ◌+◌, ◌++◌, ◌∙◌, ◌⊎◌, inl, inr, ℕ, ℤ, pos, List, [], ◌∷◌, length, get_or, set, take, refl, ap, sym, subst, arith, replicate, map, get_or-set_other, get_or-set_same}
use Rattle.std.specs.List.{range_with_len}
use Rattle.std.proofs.lemmas.Bool.{cases_eq, cases_lt}
use Rattle.std.proofs.lemmas.List.{same_lists, get_or-replicate, length-replicate, get_or_default, get_or-map, get_or_past, length-set, take_all, take_more, take_more_set, get_or_append_left, get_or-map, get_or_push, length-append, map-append}
use Rattle.std.proofs.lemmas.List.Elements.{All-get_or}
use Rattle.std.proofs.lemmas.List.FromFn.{get_or-map-range_with_len, length-map-range_with_len}
use Rattle.kept_prices.specs.Rows.{AreRows, IsRowFor, LeftOut, Whole, row_at, rows_in, whole_row, with_row}
use Rattle.std.specs.Global.{Vec}
use Rattle.crew_terms.specs.Leaf.{IsPrice, Prices}
use Rattle.potentials.specs.Prices.{ArePrices, with_rho}
use Rattle.std.proofs.lemmas.Int.{ints}

-- two lists with the same elements, where a default is given
pub same_by : {A : Type 0} (d : A) (xs ys : List A) → length xs ≡ length ys → ((k : ℕ) → k < length xs → get_or xs k d ≡ get_or ys k d) → xs ≡ ys
same_by d xs ys count each = same_lists xs ys count
    (λ k e l. get_or_default xs k e d l ∙ each k l ∙ get_or_default ys k d e (let c = count in omega arith))

-- a list with an element put where it is
pub set_same : {A : Type 0} (d : A) (xs : List A) (k : ℕ) → set xs k (get_or xs k d) ≡ xs
set_same d xs k = same_by d (set xs k (get_or xs k d)) xs (length-set xs k (get_or xs k d)) (λ j l. at j (cases_eq j k))
  where
    at : (j : ℕ) → (j ≡ k) ⊎ (j ≢ k) → get_or (set xs k (get_or xs k d)) j d ≡ get_or xs j d
    at j (inr ne) = get_or-set_other xs k j (get_or xs k d) d ne
    at j (inl e) = in_range (cases_lt k (length xs))
      where
        in_range : (k < length xs) ⊎ (length xs ≤ k) → get_or (set xs k (get_or xs k d)) j d ≡ get_or xs j d
        in_range (inl l) = ap (λ i. get_or (set xs k (get_or xs k d)) i d) e ∙ get_or-set_same xs k (get_or xs k d) d l ∙ ap (λ i. get_or xs i d) (sym e)
        in_range (inr past) =
            let c = length-set xs k (get_or xs k d) in
            get_or_past (set xs k (get_or xs k d)) j d (omega arith) ∙ sym (get_or_past xs j d (omega arith))

-- the later of two elements put at one place stays
pub set_again : {A : Type 0} (d : A) (xs : List A) (k : ℕ) (a b : A) → set (set xs k a) k b ≡ set xs k b
set_again d xs k a b =
    same_by d (set (set xs k a) k b) (set xs k b) (length-set (set xs k a) k b ∙ length-set xs k a ∙ sym (length-set xs k b))
    (λ j l. at j (let e = length-set (set xs k a) k b in let f = length-set xs k a in omega arith) (cases_eq j k))
  where
    at : (j : ℕ) → j < length xs → (j ≡ k) ⊎ (j ≢ k) → get_or (set (set xs k a) k b) j d ≡ get_or (set xs k b) j d
    at j l (inr ne) = get_or-set_other (set xs k a) k j b d ne ∙ get_or-set_other xs k j a d ne ∙ sym (get_or-set_other xs k j b d ne)
    at j l (inl e) =
        let c = length-set xs k a in
        ap (λ i. get_or (set (set xs k a) k b) i d) e ∙ get_or-set_same (set xs k a) k b d (omega arith)
        ∙ sym (get_or-set_same xs k b d (omega arith)) ∙ ap (λ i. get_or (set xs k b) i d) (sym e)

-- a row that has as many prices as it is to have is whole
pub whole_same : (n : ℕ) (xs : List ℤ) → length xs ≡ n → whole_row n xs ≡ xs
whole_same n [] count = ap (λ m. replicate m (pos 0)) (sym count)
whole_same n (x ∷ xs) count = refl

pub whole_count : (n : ℕ) (xs : List ℤ) → IsRowFor n xs → length (whole_row n xs) ≡ n
whole_count n xs (LeftOut none) = ap (λ r. length (whole_row n r)) none ∙ length-replicate n (pos 0)
whole_count n xs (Whole count) = ap length (whole_same n xs count) ∙ count

-- zeros
pub idle_row : (n : ℕ) (row : List ℤ) → length row ≡ n → ((j : ℕ) → j < n → get_or row j (pos 0) ≡ pos 0) → whole_row n [] ≡ row
idle_row n row count none =
    same_by (pos 0) (replicate n (pos 0)) row (length-replicate n (pos 0) ∙ sym count)
    (λ j l. let e = length-replicate n (pos 0) in get_or-replicate n j (pos 0) (pos 0) (omega arith) ∙ sym (none j (omega arith)))

-- the prices one by one
pub read_row : (n : ℕ) (row : List ℤ) → length row ≡ n → map (λ j. get_or row j (pos 0)) (range_with_len 0 n) ≡ row
read_row n row count =
    let f : ℕ → ℤ = λ j. get_or row j (pos 0) in
    same_by (pos 0) (map f (range_with_len 0 n)) row (length-map-range_with_len f 0 n ∙ sym count)
    (λ j l. let e = length-map-range_with_len f 0 n in get_or-map-range_with_len f 0 n j j (pos 0) (omega arith) (omega arith))

abbrev with_rho_of : Prices → List (List ℤ) → Prices
with_rho_of p rows = record p { rho = rows }

-- the price of one task after the other is put into a row
pub put_on : (p before after : Prices) (k j : ℕ) (row source : List ℤ) (v : ℤ) → k < length p.rho → before ≡ with_row p k row
    → after ≡ with_rho before k j v → v ≡ get_or source j (pos 0) → j < length source → length row ≡ length p.pi → j < length p.pi
    → take j row ≡ take j source
    → (put : List ℤ) × (length put ≡ length p.pi) × (take (j + 1) put ≡ take (j + 1) source) × (after ≡ with_row p k put)
put_on p before after k j row source v team was is value known count fits same = (
  set row j v,
  length-set row j v ∙ count,
  take_more_set row j v (omega arith) ∙ ap (λ (xs : List ℤ). xs ++ v ∷ []) same ∙ ap (λ (x : ℤ). take j source ++ x ∷ []) value
      ∙ sym (take_more source j (pos 0) known),
  is ∙ ap (λ (q : Prices). with_rho q k j v) was
      ∙ ap (λ (r : List ℤ). with_rho_of p (set (set p.rho k row) k (set r j v))) (get_or-set_same p.rho k row [] team)
      ∙ ap (λ (rows : List (List ℤ)). with_rho_of p rows) (set_again [] p.rho k row (set row j v)),
)

-- rows with one more
rows_at : (rows : List (Vec ℤ)) (row : Vec ℤ) (k : ℕ) → (row_at (rows ++ row ∷ []) k ≡ row_at rows k) ⊎ (row_at (rows ++ row ∷ []) k ≡ row.items)
rows_at rows row k = at (cases_lt k (length ms)) (cases_eq k (length ms))
  where
    ms : List (List ℤ)
    ms = map (λ (r : Vec ℤ). r.items) rows

    all : map (λ (r : Vec ℤ). r.items) (rows ++ row ∷ []) ≡ ms ++ row.items ∷ []
    all = map-append (λ (r : Vec ℤ). r.items) rows (row ∷ [])

    at : (k < length ms) ⊎ (length ms ≤ k) → (k ≡ length ms) ⊎ (k ≢ length ms)
        → (row_at (rows ++ row ∷ []) k ≡ row_at rows k) ⊎ (row_at (rows ++ row ∷ []) k ≡ row.items)
    at (inl l) other = inl (ap (λ (xs : List (List ℤ)). get_or xs k []) all ∙ get_or_append_left ms (row.items ∷ []) [] k l)
    at (inr past) (inl e) = inr (ap (λ (xs : List (List ℤ)). get_or xs k []) all ∙ get_or_push ms row.items [] k (sym e))
    at (inr past) (inr ne) =
        let long : length (ms ++ row.items ∷ []) ≡ length ms + 1 = length-append ms (row.items ∷ []) in
        inl (ap (λ (xs : List (List ℤ)). get_or xs k []) all ∙ get_or_past (ms ++ row.items ∷ []) k [] (omega arith) ∙ sym (get_or_past ms k [] past))

pub rows_push : (n : ℕ) (rows : List (Vec ℤ)) (row : Vec ℤ) → AreRows n rows → IsRowFor n row.items
    → ((j : ℕ) → IsPrice (get_or row.items j (pos 0))) → AreRows n (rows ++ row ∷ [])
rows_push n rows row are is range = record { count = λ k. count_at k (rows_at rows row k); range = λ k j. range_at k j (rows_at rows row k) }
  where
    count_at : (k : ℕ) → (row_at (rows ++ row ∷ []) k ≡ row_at rows k) ⊎ (row_at (rows ++ row ∷ []) k ≡ row.items) → IsRowFor n (row_at (rows ++ row ∷ []) k)
    count_at k (inl e) = subst (λ (r : List ℤ). IsRowFor n r) (sym e) (are.count k)
    count_at k (inr e) = subst (λ (r : List ℤ). IsRowFor n r) (sym e) is

    range_at : (k j : ℕ) → (row_at (rows ++ row ∷ []) k ≡ row_at rows k) ⊎ (row_at (rows ++ row ∷ []) k ≡ row.items)
        → IsPrice (get_or (row_at (rows ++ row ∷ []) k) j (pos 0))
    range_at k j (inl e) = subst (λ (r : List ℤ). IsPrice (get_or r j (pos 0))) (sym e) (are.range k j)
    range_at k j (inr e) = subst (λ (r : List ℤ). IsPrice (get_or r j (pos 0))) (sym e) (range j)

zero_price : IsPrice (pos 0)
zero_price = record { least = omega (arith, ints); most = omega (arith, ints) }

pub no_rows : (n : ℕ) → AreRows n []
no_rows n = record { count = λ k. LeftOut refl; range = λ k j. zero_price }

-- the row of a team
pub row_is : (rows : List (Vec ℤ)) (row : Vec ℤ) (k : ℕ) → k < length rows → row ≡ get_or rows k row → row.items ≡ row_at rows k
row_is rows row k known is =
    ap (λ (r : Vec ℤ). r.items) is ∙ sym (get_or-map (λ (r : Vec ℤ). r.items) rows k row [] known)

-- as many rows as teams, with one more
pub rows_more : (n : ℕ) (rows after : List (Vec ℤ)) (row : Vec ℤ) (rho : List (List ℤ)) (k : ℕ) → after ≡ rows ++ row ∷ []
    → rows_in n rows ≡ take k rho → k < length rho → whole_row n row.items ≡ get_or rho k [] → rows_in n after ≡ take (k + 1) rho
rows_more n rows after row rho k is before known here =
    ap (λ (xs : List (Vec ℤ)). rows_in n xs) is ∙ map-append (λ (r : Vec ℤ). whole_row n r.items) rows (row ∷ [])
    ∙ ap (λ (xs : List (List ℤ)). xs ++ whole_row n row.items ∷ []) before
    ∙ ap (λ (r : List ℤ). take k rho ++ r ∷ []) here ∙ sym (take_more rho k [] known)

abbrev pub prices_of : List ℤ → List (List ℤ) → Prices
prices_of pi rho = record { pi = pi; rho = rho }

-- prices by their parts
pub same_prices : (p : Prices) (pi : List ℤ) (rho : List (List ℤ)) → p.pi ≡ pi → p.rho ≡ rho → p ≡ prices_of pi rho
same_prices p pi rho a b = ap (λ (x : List ℤ). prices_of x p.rho) a ∙ ap (λ (x : List (List ℤ)). prices_of pi x) b

-- each price of a row is that of the whole row
pub price_at : (n : ℕ) (row : List ℤ) (j : ℕ) → IsRowFor n row → j < n → get_or row j (pos 0) ≡ get_or (whole_row n row) j (pos 0)
price_at n row j (LeftOut none) known =
    let count = length-replicate n (pos 0) in
    ap (λ (r : List ℤ). get_or r j (pos 0)) none ∙ sym (get_or-replicate n j (pos 0) (pos 0) (omega arith))
    ∙ ap (λ (r : List ℤ). get_or (whole_row n r) j (pos 0)) (sym none)
price_at n row j (Whole count) known = ap (λ (r : List ℤ). get_or r j (pos 0)) (sym (whole_same n row count))

-- lists with the same front are the same where that is all of them
pub same_front : (n : ℕ) (xs ys : List ℤ) → length xs ≤ n → length ys ≤ n → take n xs ≡ take n ys → xs ≡ ys
same_front n xs ys few as_few same = sym (take_all n xs few) ∙ same ∙ take_all n ys as_few

-- a team has as many prices as there are tasks
pub row_count : (p : Prices) (k : ℕ) → ArePrices p → k < length p.rho → length (get_or p.rho k []) ≡ length p.pi
row_count p k are known = All-get_or (λ (r : List ℤ). length r ≡ length p.pi) p.rho k [] known are.columns
