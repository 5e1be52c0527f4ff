-- the potentials of a team that hold, as the rows that are written of them
use Rattle.std.proofs.Common.{◌≡◌, ◌<◌, ◌≤◌, ◌+◌, ◌-◌, ◌⊎◌, inl, inr, ℕ, zero, suc, Bool, true, false, [], ◌∷◌, List, map, get_or, ap, sym, refl, subst, ◌∙◌, arith}
use Rattle.std.specs.Prelude.{ℤ, pos, ◌≤ℤ◌, ◌+ℤ◌, FitsSigned, nat_lt, length}
use Rattle.std.specs.Int.{w64}
use Rattle.std.specs.List.{AllByRecursion, filter, range_with_len}
use Rattle.std.proofs.lemmas.Bool.{cases_eq, eq-eqb, lt-ltb, ne_eqb}
use Rattle.std.proofs.lemmas.Int.{ints}
use Rattle.std.proofs.lemmas.List.FromFn.{get_or-map-range_with_len, length-map-range_with_len}
use Rattle.crew_terms.specs.Instance.{task_of}
use Rattle.crew_terms.specs.Leaf.{HoldsLocally, IsPrice, IsWorth}
use Rattle.crew_terms.specs.Limits.{Limits, IsPermittedVisit, tasks_in}
use Rattle.crew_terms.specs.Minutes.{first_minute, minute_count, open_tasks}
use Rattle.dossier_out.specs.Tables.{MinutesLaw, may_begin}
use Rattle.dossier_terms.specs.Dossier.{AreRows, IsSigned, Potentials, beside, phi_in}
use Rattle.squeeze_terms.specs.MinutePrices.{AreMinutePrices, MinutePrices, minute_price, price_place}
use Rattle.sheet_write.specs.Teams.{IsTeamTable}

-- the potentials of task j at the minutes at which team k may begin it
abbrev pub row_by : Limits → ℕ → (ℕ → ℕ → ℤ) → ℕ → List ℤ
row_by n k phi j = map (phi j) (range_with_len (first_minute n k j) (minute_count n k j))

-- a worth, and those of the tasks that team k may begin
abbrev pub table_by : Limits → ℕ → (ℕ → ℕ → ℤ) → ℤ → Potentials
table_by n k phi worth = record { worth = worth; phi = map (row_by n k phi) (open_tasks n k) }

-- ---- what is read of the rows

module _ (p : ℕ → Bool) (f : ℕ → List ℤ) (j : ℕ) (passes : p j ≡ true) where
  -- beside a number that passes stands its row
  beside_in : (a m : ℕ) → a ≤ j → j < a + m → beside (filter p (range_with_len a m)) (map f (filter p (range_with_len a m))) j [] ≡ f j
  beside_in a zero from below = absurd (omega arith)
  beside_in a (suc m) from below = by (p a) refl (cases_eq a j) (λ other. beside_in (a + 1) m (omega arith) (omega arith))
    where
      by : (b : Bool) → p a ≡ b → (a ≡ j) ⊎ (a ≡ j → ⊥)
          → ((a ≡ j → ⊥) → beside (filter p (range_with_len (a + 1) m)) (map f (filter p (range_with_len (a + 1) m))) j [] ≡ f j)
          → beside (filter p (range_with_len a (suc m))) (map f (filter p (range_with_len a (suc m)))) j [] ≡ f j
      by true is (inl e) rest = rw is (rw (eq-eqb a j e) (ap f e))
      by true is (inr other) rest = rw is (rw (ne_eqb a j other) (rest other))
      by false is (inl e) rest = let q : p a ≡ true = ap p e ∙ passes in cc
      by false is (inr other) rest = rw is (rest other)

-- ---- rules for other potentials that are the same at each visit

pub same_local : (n : Limits) (k : ℕ) (w f g : ℕ → ℕ → ℤ) (worth : ℤ) → ((j t : ℕ) → IsPermittedVisit n k j t → f j t ≡ g j t) → HoldsLocally n k w f worth → HoldsLocally n k w g worth
same_local n k w f g worth same h = record {
  tasks = λ j. record {
    alone = λ t v. subst (λ x. w j t ≤ℤ x) (same j t v) ((h.tasks j).alone t v);
    step = λ t i u v x s. subst (λ y. (w j t +ℤ y) ≤ℤ g j t) (same i u x) (subst (λ y. (w j t +ℤ f i u) ≤ℤ y) (same j t v) ((h.tasks j).step t i u v x s));
  };
  worth_rules = record { most = λ j t v. subst (λ x. x ≤ℤ worth) (same j t v) (h.worth_rules.most j t v); idle = h.worth_rules.idle };
}

-- ---- the numbers lie in their ranges

all_in_range : (In : ℤ → Type 0) (g : ℕ → ℤ) (a m : ℕ) → ((t : ℕ) → a ≤ t → t < a + m → In (g t)) → AllByRecursion In (map g (range_with_len a m))
all_in_range In g a zero each = tt
all_in_range In g a (suc m) each = (each a (omega arith) (omega arith), all_in_range In g (a + 1) m (λ t from below. each t (omega arith) (omega arith)))

between_fits : (w v worth : ℤ) → IsPrice w → w ≤ℤ v → v ≤ℤ worth → FitsSigned w64 worth → FitsSigned w64 v
between_fits w v worth price a b fits = let c = price.least in omega (arith, ints)

worth_most : (worth : ℤ) → FitsSigned w64 worth → worth ≤ℤ pos 9223372036854775807
worth_most worth fits = omega (arith, ints)

module _ (law : MinutesLaw) (n : Limits) (k : ℕ) (phi : ℕ → ℕ → ℤ) where
  phi_is : (worth : ℤ) (j t : ℕ) → IsPermittedVisit n k j t → phi_in n k (table_by n k phi worth) j t ≡ phi j t
  phi_is worth j t here =
      let is = (law n k j t).0 here in
      let known = is.known in
      let from = is.from in
      let until = is.until in
      let first = first_minute n k j in
      let count = minute_count n k j in
      ap (λ row. get_or row (t - first) (pos 0)) (beside_in (may_begin n k) (row_by n k phi) j (lt-ltb 0 count (omega arith)) 0 (tasks_in n) (omega arith) (omega arith))
      ∙ get_or-map-range_with_len (phi j) first count (t - first) t (pos 0) (omega arith) (omega arith)

  module _ (fits : (j t : ℕ) → IsPermittedVisit n k j t → FitsSigned w64 (phi j t)) where
    row_fits : (j : ℕ) → j < tasks_in n → AllByRecursion IsSigned (row_by n k phi j)
    row_fits j known =
        all_in_range IsSigned (phi j) (first_minute n k j) (minute_count n k j)
        (λ t from below. fits j t ((law n k j t).1 (record { known = known; from = from; until = below })))

    rows_fit : (a m : ℕ) → a + m ≤ tasks_in n → AreRows IsSigned (minute_count n k) (filter (may_begin n k) (range_with_len a m)) (map (row_by n k phi) (filter (may_begin n k) (range_with_len a m)))
    rows_fit a zero within = tt
    rows_fit a (suc m) within = by (may_begin n k a) refl (rows_fit (a + 1) m (omega arith))
      where
        by : (b : Bool) → may_begin n k a ≡ b → AreRows IsSigned (minute_count n k) (filter (may_begin n k) (range_with_len (a + 1) m)) (map (row_by n k phi) (filter (may_begin n k) (range_with_len (a + 1) m)))
            → AreRows IsSigned (minute_count n k) (filter (may_begin n k) (range_with_len a (suc m))) (map (row_by n k phi) (filter (may_begin n k) (range_with_len a (suc m))))
        by true is rest = rw is (length-map-range_with_len (phi a) (first_minute n k a) (minute_count n k a), row_fits a (omega arith), rest)
        by false is rest = rw is rest

-- a worth of minute prices with potentials that hold is a table of the team
pub team_table : MinutesLaw → (n : Limits) (p : MinutePrices) (k : ℕ) → AreMinutePrices n.instance p → (phi : ℕ → ℕ → ℤ) (worth : ℤ) → FitsSigned w64 worth
    → IsWorth n k (minute_price n.instance p) worth → HoldsLocally n k (minute_price n.instance p) phi worth → IsTeamTable n p k (table_by n k phi worth)
team_table law n p k prices phi worth fits is holds =
    let w = minute_price n.instance p in
    let all_fit = λ (j t : ℕ) (here : IsPermittedVisit n k j t).
    between_fits (w j t) (phi j t) worth (prices.range j (price_place (task_of n.instance j) t)) ((holds.tasks j).alone t here) (holds.worth_rules.most j t here) fits in
    record {
      table = record { worth = record { least = holds.worth_rules.idle; most = worth_most worth fits }; rows = rows_fit law n k phi all_fit 0 (tasks_in n) (omega arith) };
      worth = is;
      holds = same_local n k w phi (phi_in n k (table_by n k phi worth)) worth (λ j t here. sym (phi_is law n k phi worth j t here)) holds;
    }
