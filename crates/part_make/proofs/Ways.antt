-- ways by one place more
use Rattle.std.proofs.Common.{◌≡◌, ◌<◌, ◌≤◌, ◌+◌, ◌⊎◌, inl, inr, List, [], ℕ, length, get_or, arith, sym, ◌∙◌, ap, subst}
use Rattle.std.specs.Prelude.{All, min}
use Rattle.std.proofs.lemmas.Bool.{cases_lt}
use Rattle.std.proofs.lemmas.List.{get_or_past}
use Rattle.std.proofs.lemmas.List.FromFn.{get_or-map-range_with_len, length-map-range_with_len}
use Rattle.crew_terms.specs.Instance.{Instance, minutes_between}
use Rattle.crew_terms.specs.Rules.{AreTimes, IsInstance}
use Rattle.crew_terms.specs.declared.TheConstants.{LAST_MINUTE}
use Rattle.part_make.specs.Tables.{AreWaysBy, by_way_of, minutes_in, row_of, table_of}

module _ (n : ℕ) (f : ℕ → ℕ → ℕ) where
  row_at : (a : ℕ) (d : List ℕ) → a < n → get_or (table_of n f) a d ≡ row_of n (f a)
  row_at a d l = get_or-map-range_with_len (λ x. row_of n (f x)) 0 n a a d l (omega arith)

  -- the table has these minutes
  pub minutes_at : (a c : ℕ) → a < n → c < n → minutes_in (table_of n f) a c ≡ f a c
  minutes_at a c l m = ap (λ (row : List ℕ). get_or row c 0) (row_at a [] l) ∙ get_or-map-range_with_len (f a) 0 n c c 0 m (omega arith)

  -- and is one of times where they are few
  pub table_times : ((a c : ℕ) → a < n → c < n → f a c ≤ LAST_MINUTE) → AreTimes n (table_of n f)
  table_times few = record {
    rows = long;
    columns = λ a d l. subst (λ (row : List ℕ). length row ≡ n) (sym (row_at a d (omega (arith, long)))) (length-map-range_with_len (f a) 0 n);
    minutes = λ a d l. subst (All (λ t. t ≤ LAST_MINUTE)) (sym (row_at a d (omega (arith, long)))) (few_in a (omega (arith, long)));
  }
    where
      long : length (table_of n f) ≡ n
      long = length-map-range_with_len (λ x. row_of n (f x)) 0 n

      few_in : (a : ℕ) → a < n → All (λ t. t ≤ LAST_MINUTE) (row_of n (f a))
      few_in a l c d m =
          let short : c < n = let e = length-map-range_with_len (f a) 0 n in omega arith in
          subst (λ t. t ≤ LAST_MINUTE) (sym (get_or-map-range_with_len (f a) 0 n c c d short (omega arith))) (few a c l short)

module _ (n : ℕ) (rows : List (List ℕ)) (times : AreTimes n rows) where
  -- the minutes of a table of times are few
  pub few_minutes : (a c : ℕ) → a < n → c < n → minutes_in rows a c ≤ LAST_MINUTE
  few_minutes a c l m =
      let r = times.rows in
      let long : length (get_or rows a []) ≡ n = times.columns a [] (omega arith) in
      times.minutes a [] (omega arith) c 0 (omega arith)

  -- what holds of the minutes between places holds of all
  pub for_all : (limit : ℕ → ℕ → ℕ) → ((a c : ℕ) → a < n → c < n → minutes_in rows a c ≤ limit a c) → (a c : ℕ) → minutes_in rows a c ≤ limit a c
  for_all limit h a c = by (cases_lt a n) (cases_lt c n)
    where
      by : (a < n) ⊎ (n ≤ a) → (c < n) ⊎ (n ≤ c) → minutes_in rows a c ≤ limit a c
      by (inl l) (inl m) = h a c l m
      by (inl l) (inr m) =
          let long : length (get_or rows a []) ≡ n = times.columns a [] (let r = times.rows in omega arith) in
          let none : minutes_in rows a c ≡ 0 = get_or_past (get_or rows a []) c 0 (omega arith) in
          omega arith
      by (inr l) other =
          let row : get_or rows a [] ≡ [] = get_or_past rows a [] (let r = times.rows in omega arith) in
          let none : minutes_in rows a c ≡ 0 = ap (λ (ts : List ℕ). get_or ts c 0) row ∙ get_or_past [] c 0 (omega arith) in
          omega arith

-- where no way by y is shorter, none is where ways by b are taken
through : (xz xb bz xy by' yz yb : ℕ) → xz ≤ xy + yz → bz ≤ by' + yz → xb ≤ xy + yb → min xz (xb + bz) ≤ min xy (xb + by') + min yz (yb + bz)
through xz xb bz xy by' yz yb s t u = omega arith

-- no way by b is shorter where ways by b are taken
through_it : (xz xb bz bb : ℕ) → min xz (xb + bz) ≤ min xb (xb + bb) + min bz (bb + bz)
through_it xz xb bz bb = omega arith

module _ (i : Instance) (is : IsInstance i) where
  n : ℕ
  n = length i.places

  -- the straight ways
  pub straight_ways : (rows : List (List ℕ)) → rows ≡ table_of (length i.places) (minutes_between i) → AreWaysBy i 0 rows
  straight_ways rows e = subst (AreWaysBy i 0) (sym e) (record {
    times = table_times (length i.places) (minutes_between i) (few_minutes (length i.places) i.travel is.times);
    shorter = λ a c l m. let at = minutes_at (length i.places) (minutes_between i) a c l m in omega arith;
    ways = λ a b c l. absurd (omega arith);
  })

  -- ways by one place more
  pub more_ways : (b : ℕ) (rows next : List (List ℕ)) → b < length i.places → AreWaysBy i b rows
      → next ≡ table_of (length i.places) (by_way_of rows b) → AreWaysBy i (b + 1) next
  more_ways b rows next here ways e = subst (AreWaysBy i (b + 1)) (sym e) (record {
    times = table_times (length i.places) (by_way_of rows b) (λ a c l m. let few = few_minutes (length i.places) rows ways.times a c l m in omega arith);
    shorter = λ a c l m. let s = at a c l m in let t = ways.shorter a c l m in omega arith;
    ways = λ x y z l k m. longer x y z k m (cases_lt y b) (omega arith);
  })
    where
      at : (a c : ℕ) → a < length i.places → c < length i.places → minutes_in (table_of (length i.places) (by_way_of rows b)) a c ≡ by_way_of rows b a c
      at = minutes_at (length i.places) (by_way_of rows b)

      longer : (x y z : ℕ) → x < length i.places → z < length i.places → (y < b) ⊎ (b ≤ y) → y ≤ b
          → minutes_in (table_of (length i.places) (by_way_of rows b)) x z ≤ minutes_in (table_of (length i.places) (by_way_of rows b)) x y + minutes_in (table_of (length i.places) (by_way_of rows b)) y z
      longer x y z k m (inl l) le =
          rw (at x z k m, at x y k (omega arith), at y z (omega arith) m)
          (through (minutes_in rows x z) (minutes_in rows x b) (minutes_in rows b z) (minutes_in rows x y) (minutes_in rows b y) (minutes_in rows y z) (minutes_in rows y b)
          (ways.ways x y z l k m) (ways.ways b y z l here m) (ways.ways x y b l k here))
      longer x y z k m (inr l) le =
          let same : b ≡ y = omega arith in
          subst (λ w. minutes_in (table_of (length i.places) (by_way_of rows b)) x z ≤ minutes_in (table_of (length i.places) (by_way_of rows b)) x w + minutes_in (table_of (length i.places) (by_way_of rows b)) w z) same
          (rw (at x z k m, at x b k here, at b z here m) (through_it (minutes_in rows x z) (minutes_in rows x b) (minutes_in rows b z) (minutes_in rows b b)))
