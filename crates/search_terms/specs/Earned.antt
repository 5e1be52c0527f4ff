-- why a node is split, and when the columns earn it
use Rattle.std.specs.Prelude.{◌≡◌, ◌<◌, ℕ, ℤ, pos, neg_ℤ, ◌*ℤ◌, ◌<ℤ◌, List, [], ◌∷◌, ◌++◌, length, Contains}
use Rattle.std.specs.Int.{int_min, int_max, int_div_euclid}
use Rattle.crew_num.specs.declared.Overflow.{Overflow}
use Rattle.crew_terms.specs.Limits.{Limits, Route, teams_in}
use Rattle.crew_terms.specs.Leaf.{Prices, IsOnRequired, IsWorth, Proves, bound_of, pi_of, rho_of, rewards, worth_of, earned}
use Rattle.crew_terms.specs.declared.TheConstants.{D, MOST_PRICE}
use Rattle.search_terms.specs.declared.Place.TheVariants.{Shortage, Missed}
use Rattle.search_terms.specs.declared.TheConstants.{VALUE}
use Rattle.share_terms.specs.Shares.{FractionalChoice, IsRouteIn}
use Rattle.search_terms.specs.Rows.{Rows, number, value_row}
use Rattle.search_terms.specs.Opening.{places, OpensWith, dual}
use Rattle.search_terms.specs.Pivot.{IsOptimal}
use Rattle.search_terms.specs.MasterRun.{IsRunOver}
use Rattle.search_terms.specs.Overflows.{OverflowAt}

-- why a node is split: shares of routes that are loose, an overflow in the run of the master, or that its pivots are spent
pub data Why : Type 0 where
  Loose : (choice : FractionalChoice) → Why
  Overflowed : (fault : Overflow) → Why
  Spent : Why

-- the routes are those of the columns that are routes in the node, in order
pub data AreLegalOf (n : Limits) : List Route → List Route → Type 0 where
  None : AreLegalOf n [] []
  Kept : {columns routes : List Route} (r : Route) (legal : IsRouteIn n r) (rest : AreLegalOf n columns routes)
      → AreLegalOf n (r ∷ columns) (r ∷ routes)
  Left : {columns routes : List Route} (r : Route) (illegal : IsRouteIn n r → ⊥) (rest : AreLegalOf n columns routes)
      → AreLegalOf n (r ∷ columns) routes

-- the run of the master over the columns that are legal in the node makes as many pivots as it may
pub record RunIsSpent (n : Limits) (pivots : ℕ) (columns : List Route) : Type 0 where
  pub front : List Route
  pub back : List Route
  pub legal : AreLegalOf n columns (front ++ back)
  pub rows : Rows
  pub run : IsRunOver n front pivots rows

-- the run comes, with a pivot left, to rows to which the overflow belongs
pub record RunOverflows (n : Limits) (pivots : ℕ) (columns : List Route) (fault : Overflow) : Type 0 where
  pub front : List Route
  pub back : List Route
  pub legal : AreLegalOf n columns (front ++ back)
  pub made : ℕ
  pub few : made < pivots
  pub rows : Rows
  pub run : IsRunOver n front made rows
  pub overflow : OverflowAt n rows back fault

-- the quotient rounded down to a whole multiple of 1/D, and cut off at the greatest price
abbrev pub rounded : ℤ → ℤ → ℤ
rounded num den = int_max (neg_ℤ (pos MOST_PRICE)) (int_min (pos MOST_PRICE) (int_div_euclid (num *ℤ pos D) den))

-- the dual number of the opening row h, rounded so
abbrev pub rounded_dual : Limits → Rows → ℕ → ℤ
rounded_dual n t h = rounded (dual (places n) (value_row t) h) (number (value_row t) VALUE)

-- the prices and extras of the rows, rounded down
pub record AreRounded (n : Limits) (t : Rows) (prices : Prices) : Type 0 where
  pub priced : IsOnRequired n prices
  pub tasks : (h j : ℕ) → OpensWith n h (Shortage j) → pi_of prices j ≡ rounded_dual n t h
  pub pairs : (h k j : ℕ) → OpensWith n h (Missed k j) → rho_of prices k j ≡ rounded_dual n t h

-- the worth of each team at these prices
pub record AreWorths (n : Limits) (prices : Prices) (worths : List ℤ) : Type 0 where
  pub count : length worths ≡ teams_in n
  pub each : (k : ℕ) → k < teams_in n → IsWorth n k (earned prices k) (worth_of worths k)

-- the worth is greater than 0 and than the rewards of each of the team's routes
pub record BeatsRoutes (routes : List Route) (k : ℕ) (prices : Prices) (worth : ℤ) : Type 0 where
  pub some : pos 0 <ℤ worth
  pub more : (r : Route) → Contains routes r → r.team ≡ k → rewards (earned prices k) r.visits <ℤ worth

-- the run ends, and no team's worth at its prices beats its routes; these prices don't prove that now tasks stay unassigned
pub record RunEndsLoose (n : Limits) (now : ℕ) (prices : Prices) (pivots : ℕ) (columns : List Route) : Type 0 where
  pub routes : List Route
  pub legal : AreLegalOf n columns routes
  pub made : ℕ
  pub few : made < pivots
  pub rows : Rows
  pub run : IsRunOver n routes made rows
  pub done : IsOptimal rows
  pub rounded : AreRounded n rows prices
  pub worths : List ℤ
  pub worth : AreWorths n prices worths
  pub unbeaten : (k : ℕ) → k < teams_in n → BeatsRoutes routes k prices (worth_of worths k) → ⊥
  pub unproved : Proves (bound_of n prices worths) now → ⊥

-- the columns earn a split of the node, for this cause
abbrev pub IsEarned : Limits → ℕ → Prices → ℕ → List Route → Why → Type 0
IsEarned n now prices pivots columns (Loose choice) = RunEndsLoose n now prices pivots columns
IsEarned n now prices pivots columns (Overflowed fault) = RunOverflows n pivots columns fault
IsEarned n now prices pivots columns Spent = RunIsSpent n pivots columns
