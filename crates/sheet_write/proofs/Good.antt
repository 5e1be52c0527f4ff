-- a sheet of minute prices that prove its number is good
use Rattle.std.proofs.Common.{◌≡◌, ◌<◌, ℕ, List, length, get_or, ap, sym, subst, ◌∙◌, arith}
use Rattle.std.specs.Prelude.{ℤ, pos, ◌-ℤ◌}
use Rattle.std.proofs.lemmas.List.{get_or-map}
use Rattle.crew_terms.specs.Instance.{Instance}
use Rattle.crew_terms.specs.Leaf.{HoldsLocally, IsWorth, Proves, worth_of}
use Rattle.crew_terms.specs.Limits.{Limits, root_limits, teams_in}
use Rattle.crew_terms.specs.Rules.{IsInstance}
use Rattle.crew_terms.specs.Total.{total}
use Rattle.crew_terms.specs.Totals.{total-same}
use Rattle.dossier_terms.specs.Dossier.{Potentials, no_potentials, phi_in}
use Rattle.sheet_terms.specs.Sheet.{IsGoodSheet, Sheet, phi_of, worths_in}
use Rattle.squeeze_terms.specs.Bound.{minute_bound, minute_term}
use Rattle.squeeze_terms.specs.MinutePrices.{AreMinutePrices, minute_price}
use Rattle.sheet_write.specs.Given.{IsProved, SheetGiven}
use Rattle.sheet_write.specs.Sheets.{IsSheetOf}
use Rattle.sheet_write.specs.Teams.{AreTeamTables, IsTeamTable}
use Rattle.sheet_write.proofs.Tables.{table_of_team, tables_count, tables_fit}

-- the sheet of these parts with these tables
abbrev pub sheet_with : SheetGiven → List Potentials → Sheet
sheet_with g ts = record { instance = g.instance; budget = g.budget; bound = g.bound; prices = g.prices; tables = ts }

-- a sheet of the parts is that of its own tables
pub sheet_is : (g : SheetGiven) (s : Sheet) → IsSheetOf g s → s ≡ sheet_with g s.tables
sheet_is g s is =
    ap (λ x. record s { instance = x }) is.instance
    ∙ ap (λ x. record s { instance = g.instance; budget = x }) is.budget
    ∙ ap (λ x. record s { instance = g.instance; budget = g.budget; bound = x }) is.bound
    ∙ ap (λ x. record s { instance = g.instance; budget = g.budget; bound = g.bound; prices = x }) is.prices

module _ (one_worth : (n : Limits) (k : ℕ) (w : ℕ → ℕ → ℤ) (v z : ℤ) → IsWorth n k w v → IsWorth n k w z → v ≡ z)
    (g : SheetGiven) (ts : List Potentials) (instance : IsInstance g.instance) (prices : AreMinutePrices g.instance g.prices)
    (are : AreTeamTables (root_limits g.instance) g.prices 0 (teams_in (root_limits g.instance)) ts) (proved : IsProved g) where
  abbrev n : Limits
  n = root_limits g.instance

  abbrev w : ℕ → ℕ → ℤ
  w = minute_price g.instance g.prices

  team : (k : ℕ) → k < teams_in n → IsTeamTable n g.prices k (get_or ts k no_potentials)
  team k known = table_of_team n g.prices (teams_in n) ts k are known

  worth_at : (k : ℕ) → k < teams_in n → worth_of (worths_in ts) k ≡ (get_or ts k no_potentials).worth
  worth_at k known =
      let c = tables_count n g.prices 0 (teams_in n) ts are in
      get_or-map (λ (t : Potentials). t.worth) ts k no_potentials (pos 0) (omega (arith, c))

  same_bound : minute_bound g.instance g.prices proved.is.worths ≡ minute_bound g.instance g.prices (worths_in ts)
  same_bound =
      ap (λ v. total (length g.instance.tasks) (minute_term g.instance g.prices) -ℤ v)
      (total-same (length g.instance.teams) (worth_of proved.is.worths) (worth_of (worths_in ts))
      (λ k known. one_worth n k w (worth_of proved.is.worths k) (worth_of (worths_in ts) k) (proved.is.each.each k known) (subst (IsWorth n k w) (sym (worth_at k known)) (team k known).worth)))

  pub good_with : IsGoodSheet (sheet_with g ts)
  good_with = record {
    instance = instance;
    budget = proved.budget;
    bound = proved.most;
    tables = tables_fit n g.prices 0 ts are;
    valid = record {
      prices = prices;
      valid = λ k known. subst (HoldsLocally n k w (phi_of (sheet_with g ts) k)) (sym (worth_at k known)) (team k known).holds;
    };
    proved = subst (λ b. Proves b g.bound) (proved.is.sum ∙ same_bound) proved.proves;
  }
