-- prices that are set one by one
use Rattle.std.proofs.Common.{◌≡◌, ◌<◌, ◌≤◌, ◌+◌, ℕ, zero, suc, ℤ, List, [], ◌∷◌, ◌++◌, length, get_or, set, take, ap, sym, subst, refl, ◌∙◌, arith, Bool, true, false, cond, ◌⊎◌, inl, inr, length-append, add-one, zero-add, get_or-set_same, get_or-set_other}
use Rattle.std.specs.Prelude.{◌≢◌, pos, map}
use Rattle.std.proofs.lemmas.Bool.{cases_eq, cases_Bool}
use Rattle.std.proofs.lemmas.List.{length-set, ext_get_or, take_more, take_more_set}
use Rattle.std.proofs.lemmas.List.Elements.{All-get_or, All-set}
use Rattle.std.specs.List.{count_by, range_with_len}
use Rattle.std.proofs.lemmas.List.Sums.{length-filter, count_by-le-length, count_by_more_yes, count_by_more_no}
use Rattle.std.proofs.lemmas.List.FromFn.{length-range_with_len, length-map-range_with_len, get_or-map-range_with_len}
use Rattle.crew_terms.specs.declared.Pair.{Pair}
use Rattle.crew_terms.specs.declared.Pair.TheVariants.{Free}
use Rattle.std.proofs.Math.Seq.{take-length}
use Rattle.crew_terms.specs.Limits.{Limits, pair_of, is_required, tasks_in, teams_in}
use Rattle.crew_terms.specs.Leaf.{Prices, rho_of}
use Rattle.dossier_terms.specs.Dossier.{Leaf, beside, extra_of, prices_of}
use Rattle.dossier_terms.specs.PricesAt.{rho_at}
use Rattle.crew_terms.specs.Minutes.{required_teams}
use Rattle.potentials.specs.Prices.{with_rho}
use Rattle.leaf_check.specs.Keys.{keys_below, keys_from}
use Rattle.leaf_check.specs.Prices.{ArePricesIn, SamePairsBut}
use Rattle.leaf_check.proofs.Listed.{keys_split, keys_keep, keys_with, keys_without, not_below, beside_more, beside_same}

-- ---- one price

module _ (n : Limits) (p : Prices) (k j : ℕ) (v : ℤ) (are : ArePricesIn n p) (team : k < teams_in n) (task : j < tasks_in n) where
  abbrev row : List ℤ
  row = get_or p.rho k []

  row_length : length row ≡ tasks_in n
  row_length = All-get_or (λ r. length r ≡ tasks_in n) p.rho k [] (let e = are.prices.teams in omega arith) are.columns

  pub still_prices : ArePricesIn n (with_rho p k j v)
  still_prices = record {
    prices = record { tasks = are.prices.tasks; teams = length-set p.rho k (set row j v) ∙ are.prices.teams };
    columns = All-set (λ r. length r ≡ tasks_in n) p.rho k (set row j v) (length-set row j v ∙ row_length) are.columns;
  }

  pub rho_set : rho_of (with_rho p k j v) k j ≡ v
  rho_set =
      ap (λ r. get_or r j (pos 0)) (get_or-set_same p.rho k (set row j v) [] (let e = are.prices.teams in omega arith))
      ∙ get_or-set_same row j v (pos 0) (let e = row_length in omega arith)

  pub rho_other_team : (g h : ℕ) → g ≢ k → rho_of (with_rho p k j v) g h ≡ rho_of p g h
  rho_other_team g h differ = ap (λ r. get_or r h (pos 0)) (get_or-set_other p.rho k g (set row j v) [] differ)

  pub rho_other_task : (g h : ℕ) → h ≢ j → rho_of (with_rho p k j v) g h ≡ rho_of p g h
  rho_other_task g h differ = by (cases_eq g k)
    where
      by : (g ≡ k) ⊎ (g ≡ k → ⊥) → rho_of (with_rho p k j v) g h ≡ rho_of p g h
      by (inr ne) = rho_other_team g h ne
      by (inl e) =
          ap (λ a. rho_of (with_rho p k j v) a h) e
          ∙ ap (λ r. get_or r h (pos 0)) (get_or-set_same p.rho k (set row j v) [] (let f = are.prices.teams in omega arith))
          ∙ get_or-set_other row j h v (pos 0) differ
          ∙ ap (λ a. rho_of p a h) (sym e)

-- ---- the pairs of a task that are set to 0, team by team

pub record Cleared (n : Limits) (old new : Prices) (j k : ℕ) : Type 0 where
  pub prices : ArePricesIn n new
  pub others : SamePairsBut j old new
  pub cleared : (g : ℕ) → g < k → rho_of new g j ≡ pos 0

-- ---- the required pairs of a task that are set to the given numbers, team by team

abbrev pub required_below : Limits → ℕ → ℕ → List ℕ
required_below n j k = keys_below (λ k. is_required (pair_of n k j)) k

pub record Given (n : Limits) (old new : Prices) (j k : ℕ) (given : List ℤ) (read : ℕ) : Type 0 where
  pub prices : ArePricesIn n new
  pub others : SamePairsBut j old new
  pub set : (g : ℕ) → g < teams_in n → rho_of new g j ≡ beside (required_below n j k) given g (rho_of old g j)
  pub count : read ≡ length (required_below n j k)

-- there are no more numbers than teams
pub given_few : (n : Limits) (j k : ℕ) → length (required_below n j k) ≤ k
given_few n j k =
    let p : ℕ → Bool = λ k. is_required (pair_of n k j) in
    let e = length-filter p (range_with_len 0 k) in
    let f = count_by-le-length p (range_with_len 0 k) in
    let g = length-range_with_len 0 k in
    omega arith

-- there is a number left for a required pair
pub given_left : (n : Limits) (j k : ℕ) (given : List ℤ) → k < teams_in n → length given ≡ length (required_teams n j) → is_required (pair_of n k j) ≡ true → length (required_below n j k) < length given
given_left n j k given team count is =
    let p : ℕ → Bool = λ k. is_required (pair_of n k j) in
    let e = ap length (keys_split p (teams_in n) k (omega arith) ∙ ap (λ xs. keys_below p k ++ xs) (keys_keep p (teams_in n) k team is)) in
    let f = length-append (keys_below p k) (k ∷ keys_from p (teams_in n) (suc k)) in
    omega arith

module _ (n : Limits) (old new : Prices) (j k : ℕ) (given : List ℤ) (read : ℕ) (team : k < teams_in n) (task : j < tasks_in n) (so : Given n old new j k given read) where
  pub given_more : is_required (pair_of n k j) ≡ true → length given ≡ length (required_teams n j)
      → Given n old (with_rho new k j (get_or given read (pos 0))) j (k + 1) given (read + 1)
  given_more is count = record {
    prices = still_prices n new k j (get_or given read (pos 0)) so.prices team task;
    others = record {
      tasks = so.others.tasks;
      others = λ g h differ. rho_other_task n new k j (get_or given read (pos 0)) so.prices team task g h differ ∙ so.others.others g h differ;
    };
    set = λ g l. by g l (cases_eq g k) ∙ ap (λ ks. beside ks given g (rho_of old g j)) (sym all);
    count = let e = ap length all in let f = length-append (required_below n j k) (k ∷ []) in let r = so.count in omega arith;
  }
    where
      all : required_below n j (k + 1) ≡ required_below n j k ++ k ∷ []
      all = ap (required_below n j) (add-one k) ∙ keys_with (λ k. is_required (pair_of n k j)) k is

      by : (g : ℕ) → g < teams_in n → (g ≡ k) ⊎ (g ≡ k → ⊥) → rho_of (with_rho new k j (get_or given read (pos 0))) g j ≡ beside (required_below n j k ++ k ∷ []) given g (rho_of old g j)
      by g l (inl e) =
          ap (λ a. rho_of (with_rho new k j (get_or given read (pos 0))) a j) e
          ∙ rho_set n new k j (get_or given read (pos 0)) so.prices team task
          ∙ ap (λ m. get_or given m (pos 0)) so.count
          ∙ sym (beside_more (required_below n j k) k given (rho_of old g j) (pos 0) (given_left n j k given team count is) (not_below (λ k. is_required (pair_of n k j)) k))
          ∙ ap (λ a. beside (required_below n j k ++ k ∷ []) given a (rho_of old g j)) (sym e)
      by g l (inr ne) =
          rho_other_team n new k j (get_or given read (pos 0)) so.prices team task g j ne
          ∙ so.set g l
          ∙ sym (beside_same (required_below n j k) k g given (rho_of old g j) (λ e. ne (sym e)))

  pub given_same : is_required (pair_of n k j) ≡ false → Given n old new j (k + 1) given read
  given_same is = record {
    prices = so.prices;
    others = so.others;
    set = λ g l. so.set g l ∙ ap (λ ks. beside ks given g (rho_of old g j)) (sym all);
    count = so.count ∙ ap length (sym all);
  }
    where
      all : required_below n j (k + 1) ≡ required_below n j k
      all = ap (required_below n j) (add-one k) ∙ keys_without (λ k. is_required (pair_of n k j)) k is

-- as many as are counted
abbrev is_required_in : ℕ → List Pair → Bool
is_required_in j row = is_required (get_or row j Free)

counted_more : (n : Limits) (j m : ℕ) → m < length n.pairs → count_by (is_required_in j) (take m n.pairs) ≡ length (required_below n j m)
    → (is_required (pair_of n m j) ≡ true) ⊎ (is_required (pair_of n m j) ≡ false)
    → count_by (is_required_in j) (take (m + 1) n.pairs) ≡ length (required_below n j (m + 1))
counted_more n j m l before (inl is) =
    count_by_more_yes (is_required_in j) n.pairs m [] l is
    ∙ ap (λ i. i + 1) before
    ∙ sym (ap (λ i. length (required_below n j i)) (add-one m) ∙ ap length (keys_with (λ k. is_required (pair_of n k j)) m is) ∙ length-append (required_below n j m) (m ∷ []))
counted_more n j m l before (inr is) =
    count_by_more_no (is_required_in j) n.pairs m [] l is
    ∙ before
    ∙ sym (ap (λ i. length (required_below n j i)) (add-one m) ∙ ap length (keys_without (λ k. is_required (pair_of n k j)) m is))

counted_upto : (n : Limits) (j m : ℕ) → m ≤ length n.pairs → count_by (is_required_in j) (take m n.pairs) ≡ length (required_below n j m)
counted_upto n j zero l = refl
counted_upto n j (suc m) l =
    ap (λ i. count_by (is_required_in j) (take i n.pairs)) (sym (add-one m))
    ∙ counted_more n j m (omega arith) (counted_upto n j m (omega arith)) (cases_Bool (is_required (pair_of n m j)))
    ∙ ap (λ i. length (required_below n j i)) (add-one m)

pub required_length : (n : Limits) (j : ℕ) → length n.pairs ≡ teams_in n → count_by (λ (row : List Pair). is_required (get_or row j Free)) n.pairs ≡ length (required_teams n j)
required_length n j rows =
    ap (count_by (is_required_in j)) (sym (take-length n.pairs) ∙ ap (λ m. take m n.pairs) rows) ∙ counted_upto n j (teams_in n) (omega arith)

-- either, as the code chooses
pub given_either : (n : Limits) (old new next : Prices) (j k : ℕ) (given : List ℤ) (read after : ℕ) → k < teams_in n → j < tasks_in n → length given ≡ length (required_teams n j)
    → Given n old new j k given read
    → next ≡ cond (is_required (pair_of n k j)) (with_rho new k j (get_or given read (pos 0))) new
    → after ≡ cond (is_required (pair_of n k j)) (read + 1) read
    → Given n old next j (k + 1) given after
given_either n old new next j k given read after team task count so e f = by (cases_Bool (is_required (pair_of n k j)))
  where
    by : (is_required (pair_of n k j) ≡ true) ⊎ (is_required (pair_of n k j) ≡ false) → Given n old next j (k + 1) given after
    by (inl is) =
        let a : next ≡ with_rho new k j (get_or given read (pos 0)) = e ∙ ap (λ b. cond b (with_rho new k j (get_or given read (pos 0))) new) is in
        let b : after ≡ read + 1 = f ∙ ap (λ b. cond b (read + 1) read) is in
        subst (λ p. Given n old p j (k + 1) given after) (sym a) (subst (λ m. Given n old (with_rho new k j (get_or given read (pos 0))) j (k + 1) given m) (sym b) (given_more n old new j k given read team task so is count))
    by (inr is) =
        let a : next ≡ new = e ∙ ap (λ b. cond b (with_rho new k j (get_or given read (pos 0))) new) is in
        let b : after ≡ read = f ∙ ap (λ b. cond b (read + 1) read) is in
        subst (λ p. Given n old p j (k + 1) given after) (sym a) (subst (λ m. Given n old new j (k + 1) given m) (sym b) (given_same n old new j k given read team task so is))

-- ---- the prices of the tasks

pub record TasksGiven (n : Limits) (new : Prices) (j : ℕ) (given : List ℤ) : Type 0 where
  pub prices : ArePricesIn n new
  pub tasks : take j new.pi ≡ take j given
  pub pairs : (g h : ℕ) → g < teams_in n → h < j → rho_of new g h ≡ pos 0

pub tasks_more : (n : Limits) (old cleared new : Prices) (j : ℕ) (given : List ℤ) → j < tasks_in n → length given ≡ tasks_in n
    → TasksGiven n old j given → ArePricesIn n cleared → SamePairsBut j old cleared → ((g : ℕ) → g < teams_in n → rho_of cleared g j ≡ pos 0)
    → new ≡ record cleared { pi = set cleared.pi j (get_or given j (pos 0)) } → TasksGiven n new (j + 1) given
tasks_more n old cleared new j given task count so are but zeros e = subst (λ p. TasksGiven n p (j + 1) given) (sym e) (record {
  prices = record {
    prices = record { tasks = length-set cleared.pi j (get_or given j (pos 0)) ∙ are.prices.tasks; teams = are.prices.teams };
    columns = are.columns;
  };
  tasks =
      take_more_set cleared.pi j (get_or given j (pos 0)) (let f = are.prices.tasks in omega arith)
      ∙ ap (λ xs. xs ++ get_or given j (pos 0) ∷ []) (ap (take j) but.tasks ∙ so.tasks)
      ∙ sym (take_more given j (pos 0) (omega arith));
  pairs = λ g h a b. by g h a b (cases_eq h j);
})
  where
    by : (g h : ℕ) → g < teams_in n → h < j + 1 → (h ≡ j) ⊎ (h ≡ j → ⊥) → rho_of cleared g h ≡ pos 0
    by g h a b (inl f) = ap (rho_of cleared g) f ∙ zeros g a
    by g h a b (inr ne) = but.others g h ne ∙ so.pairs g h a (omega arith)

-- ---- the prices that a leaf writes

-- prices are those of a leaf where each of them is
pub prices_by_each : (n : Limits) (leaf : Leaf) (p : Prices) → ArePricesIn n p → p.pi ≡ leaf.prices
    → ((k j : ℕ) → k < teams_in n → j < tasks_in n → rho_of p k j ≡ extra_of n leaf k j) → p ≡ prices_of n leaf
prices_by_each n leaf p are tasks each = ap (λ pi. record { pi = pi; rho = p.rho }) tasks ∙ ap (λ rho. record { pi = leaf.prices; rho = rho }) rows
  where
    teams : length p.rho ≡ teams_in n
    teams = are.prices.teams

    written_teams : length (prices_of n leaf).rho ≡ teams_in n
    written_teams = length-map-range_with_len (λ k. map (extra_of n leaf k) (range_with_len 0 (tasks_in n))) 0 (teams_in n)

    written_row : (k : ℕ) → k < teams_in n → get_or (prices_of n leaf).rho k [] ≡ map (extra_of n leaf k) (range_with_len 0 (tasks_in n))
    written_row k l = get_or-map-range_with_len (λ k. map (extra_of n leaf k) (range_with_len 0 (tasks_in n))) 0 (teams_in n) k k [] l (zero-add k)

    written_length : (k : ℕ) → k < teams_in n → length (get_or (prices_of n leaf).rho k []) ≡ tasks_in n
    written_length k l = ap length (written_row k l) ∙ length-map-range_with_len (extra_of n leaf k) 0 (tasks_in n)

    kept_length : (k : ℕ) → k < teams_in n → length (get_or p.rho k []) ≡ tasks_in n
    kept_length k l = All-get_or (λ r. length r ≡ tasks_in n) p.rho k [] (let e = teams in omega arith) are.columns

    same_row : (k : ℕ) → k < teams_in n → get_or p.rho k [] ≡ get_or (prices_of n leaf).rho k []
    same_row k l = ext_get_or (pos 0) (get_or p.rho k []) (get_or (prices_of n leaf).rho k []) (kept_length k l ∙ sym (written_length k l))
        (λ j m. let f = kept_length k l in let lt : j < tasks_in n = omega arith in each k j l lt ∙ sym (rho_at n leaf k j l lt))

    rows : p.rho ≡ (prices_of n leaf).rho
    rows = ext_get_or [] p.rho (prices_of n leaf).rho (teams ∙ sym written_teams) (λ k l. same_row k (let e = teams in omega arith))
