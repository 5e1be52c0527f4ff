-- the tables of the teams: each team has one, and how many there are
use Rattle.std.proofs.Common.{◌≡◌, ◌<◌, ◌≤◌, ◌+◌, ◌*◌, ◌-◌, ◌++◌, ℕ, zero, suc, [], ◌∷◌, List, length, get_or, ap, sym, subst, ◌∙◌, arith}
use Rattle.std.specs.Prelude.{ℤ, FitsSigned}
use Rattle.std.specs.Int.{w64}
use Rattle.std.proofs.lemmas.Int.{ints}
use Rattle.crew_terms.specs.Instance.{Instance, task_of}
use Rattle.crew_terms.specs.Leaf.{HoldsLocally, IsWorth}
use Rattle.crew_terms.specs.Limits.{Limits, IsPermittedVisit, teams_in}
use Rattle.crew_terms.specs.Rules.{IsInstance}
use Rattle.crew_terms.specs.declared.TheConstants.{MOST_PRICE}
use Rattle.dossier_out.specs.Tables.{MinutesLaw}
use Rattle.dossier_terms.specs.Dossier.{IsTable, Potentials, Tables, no_potentials}
use Rattle.label_pricing.specs.Best.{IsBest}
use Rattle.potentials.specs.Sums.{AreBoundedBy}
use Rattle.squeeze_terms.specs.MinutePrices.{AreMinutePrices, MinutePrices, minute_price, price_place}
use Rattle.sheet_write.specs.Teams.{AreTeamTables, IsTeamTable}
use Rattle.sheet_write.proofs.Rows.{table_by, team_table}

-- by minute prices a visit earns at most 2,000,000 tasks, either way
minutes_bounded : (i : Instance) (p : MinutePrices) → AreMinutePrices i p → AreBoundedBy (2 * MOST_PRICE) (minute_price i p)
minutes_bounded i p are j t =
    let price = are.range j (price_place (task_of i j) t) in
    let a = price.least in
    let b = price.most in
    record { least = omega (arith, ints); most = omega (arith, ints) }

-- ---- each team has one

-- what pricing rests on
pub record Bests : Type 0 where
  pub minutes : MinutesLaw
  pub some : (n : Limits) (k : ℕ) (w : ℕ → ℕ → ℤ) → IsInstance n.instance
      → (worth : ℤ) × (phi : ℕ → ℕ → ℤ) × IsWorth n k w worth × ((j t : ℕ) → IsPermittedVisit n k j t → IsBest n k w j t (phi j t))
  pub hold : (n : Limits) (k : ℕ) (w phi : ℕ → ℕ → ℤ) (worth : ℤ) → ((j t : ℕ) → IsPermittedVisit n k j t → IsBest n k w j t (phi j t)) → IsWorth n k w worth → HoldsLocally n k w phi worth
  pub fit : (n : Limits) (k : ℕ) (w : ℕ → ℕ → ℤ) (v : ℤ) → IsInstance n.instance → AreBoundedBy (2 * MOST_PRICE) w → k < teams_in n → IsWorth n k w v → FitsSigned w64 v

module _ (law : Bests) (n : Limits) (p : MinutePrices) (is : IsInstance n.instance) (are : AreMinutePrices n.instance p) where
  one_table : (k : ℕ) → k < teams_in n → (t : Potentials) × IsTeamTable n p k t
  one_table k known =
      let w = minute_price n.instance p in
      let found = law.some n k w is in (
        table_by n k found.1 found.0,
        team_table law.minutes n p k are found.1 found.0 (law.fit n k w found.0 is (minutes_bounded n.instance p are) known found.2) found.2 (law.hold n k w found.1 found.0 found.3 found.2),
      )

  pub tables_from : (m k : ℕ) → k + m ≡ teams_in n → (ts : List Potentials) × AreTeamTables n p k (teams_in n) ts
  tables_from zero k e = ([], (let f : k ≡ k + 0 = omega arith in f) ∙ e)
  tables_from (suc m) k e =
      let table = one_table k (omega (arith, e)) in
      let rest = tables_from m (suc k) ((let f : suc k + m ≡ k + suc m = omega arith in f) ∙ e) in
      (table.0 ∷ rest.0, (table.1, rest.1))

-- ---- how many there are, and which

module _ (n : Limits) (p : MinutePrices) where
  pub tables_count : (k past : ℕ) (ts : List Potentials) → AreTeamTables n p k past ts → k + length ts ≡ past
  tables_count k past [] are = (let e : k + 0 ≡ k = omega arith in e) ∙ are
  tables_count k past (t ∷ ts) are = (let e : k + suc (length ts) ≡ suc k + length ts = omega arith in e) ∙ tables_count (suc k) past ts are.1

  pub tables_append : (k mid past : ℕ) (ts us : List Potentials) → AreTeamTables n p k mid ts → AreTeamTables n p mid past us → AreTeamTables n p k past (ts ++ us)
  tables_append k mid past [] us are more = subst (λ m. AreTeamTables n p m past us) (sym are) more
  tables_append k mid past (t ∷ ts) us are more = (are.0, tables_append (suc k) mid past ts us are.1 more)

  pub tables_fit : (k : ℕ) (ts : List Potentials) → AreTeamTables n p k (teams_in n) ts → Tables n k ts
  tables_fit k [] are = are
  tables_fit k (t ∷ ts) are = (are.0.table, tables_fit (suc k) ts are.1)

  table_at : (k past : ℕ) (ts : List Potentials) (i : ℕ) → AreTeamTables n p k past ts → i < length ts → IsTeamTable n p (k + i) (get_or ts i no_potentials)
  table_at k past [] i are below = absurd (omega arith)
  table_at k past (t ∷ ts) zero are below = subst (λ m. IsTeamTable n p m t) (let e : k ≡ k + 0 = omega arith in e) are.0
  table_at k past (t ∷ ts) (suc i) are below =
      subst (λ m. IsTeamTable n p m (get_or ts i no_potentials)) (let e : suc k + i ≡ k + suc i = omega arith in e) (table_at (suc k) past ts i are.1 (omega arith))

  pub table_of_team : (past : ℕ) (ts : List Potentials) (k : ℕ) → AreTeamTables n p 0 past ts → k < past → IsTeamTable n p k (get_or ts k no_potentials)
  table_of_team past ts k are known =
      let c = tables_count 0 past ts are in
      subst (λ m. IsTeamTable n p m (get_or ts k no_potentials)) (let e : 0 + k ≡ k = omega arith in e) (table_at 0 past ts k are (omega (arith, c)))
