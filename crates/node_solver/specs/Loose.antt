-- what a loose split shows
use Rattle.std.specs.Prelude.{◌+◌, ◌-◌, ◌*◌, ℕ, ℤ, pos, ◌+ℤ◌, ◌*ℤ◌, ◌≤ℤ◌, List, All, map}
use Rattle.column_arena.specs.Legal.{IsLegalColumn}
use Rattle.crew_terms.specs.Leaf.{Prices, bound_of}
use Rattle.crew_terms.specs.Limits.{Limits, Route}
use Rattle.crew_terms.specs.declared.TheConstants.{D}
use Rattle.frac_master.specs.declared.shares.Share.{Share}
use Rattle.label_pricing.specs.Worths.{AreWorths}
use Rattle.master_laws.specs.declared.losses.TheConstants.{MOST_LOSS}
use Rattle.share_terms.specs.Shares.{FractionalChoice, IsFractional, IsLoose, choice_value}
use Rattle.master_run.specs.Shares.{ArePositive, fractional_of}
use Rattle.master_run.specs.State.{Rise}
use Rattle.node_solver.specs.declared.step.NodeEnd.{NodeEnd}
use Rattle.node_solver.specs.declared.step.NodeEnd.TheVariants.{Closed, Split}
use Rattle.node_solver.specs.declared.step.Why.TheVariants.{Loose, Overflow, Spent}

-- shares of routes of the node whose value is at most `now` less one and a thousandth; the bound of the prices is at least
-- that value less the most that rounding loses
pub record IsShownLoose (n : Limits) (now : ℕ) (prices : Prices) (c : FractionalChoice) : Type 0 where
  pub fractional : IsFractional n c
  pub loose : IsLoose n c (1000 * (now - 1) + 1) 1000
  pub worths : List ℤ
  pub worth : AreWorths n prices worths
  pub near : (pos D *ℤ choice_value n c) ≤ℤ (pos c.whole *ℤ (bound_of n prices worths +ℤ pos MOST_LOSS))

-- a split that is called loose shows it
abbrev pub IsShown : Limits → ℕ → List Route → NodeEnd → Type 0
IsShown n now columns (Closed prices) = Unit {0}
IsShown n now columns (Split choice (Loose den shares left_open) prices) = IsShownLoose n now prices (fractional_of columns den shares left_open)
IsShown n now columns (Split choice (Overflow fault) prices) = Unit {0}
IsShown n now columns (Split choice Spent prices) = Unit {0}

-- the shares are of columns that are routes in the node, by rising number, and none is negative
pub record AreHeld (n : Limits) (columns : List Route) (den : ℤ) (shares : List Share) (left_open : List ℤ) : Type 0 where
  pub legal : All (λ (s : Share). IsLegalColumn n columns s.column) shares
  pub positive : ArePositive den shares left_open
  pub rise : Rise 0 (map (λ (s : Share). s.column) shares)

-- a split that is called loose has such shares
abbrev pub HasHeld : Limits → List Route → NodeEnd → Type 0
HasHeld n columns (Closed prices) = Unit {0}
HasHeld n columns (Split choice (Loose den shares left_open) prices) = AreHeld n columns den shares left_open
HasHeld n columns (Split choice (Overflow fault) prices) = Unit {0}
HasHeld n columns (Split choice Spent prices) = Unit {0}
