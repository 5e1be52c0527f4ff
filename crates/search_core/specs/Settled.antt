-- the tree, the prices and the causes after a step
use Rattle.std.specs.Prelude.{◌≡◌, ◌++◌, ◌∷◌, [], ℕ, List, Option, None, Some, length}
use Rattle.crew_terms.specs.Leaf.{Prices}
use Rattle.crew_terms.specs.declared.Choice.{Choice}
use Rattle.search_core.specs.declared.handing.Handed.{Handed}
use Rattle.search_tree.specs.Keyed.{IsTaken, IsTurned, Keyed}
use Rattle.search_core.specs.declared.causes.Cause.{Cause}
use Rattle.search_core.specs.declared.finding.Ending.{Ending}
use Rattle.search_core.specs.declared.finding.Ending.TheVariants.{Closed, Split}

-- the prices that are put, if there are any
abbrev pub option_items : Option Prices → List Prices
option_items None = []
option_items (Some prices) = prices ∷ []

-- the number of the prices that are handed on: the own, or the next
abbrev pub number_of : ℕ → ℕ → Option Prices → ℕ
number_of own next None = own
number_of own next (Some prices) = next

-- the leaf n is closed, and its prices stand last
pub record IsPutClosed (old new : Keyed) (prices after : List Prices) (key n : ℕ) (kept : Prices) : Type 0 where
  pub taken : IsTaken old new key n (length prices)
  pub put : after ≡ prices ++ kept ∷ []

-- the leaf n is split, its cause stands last, and so do the prices that are handed on, where they are not its own
pub record IsPutSplit (old new : Keyed) (prices after : List Prices) (causes more : List Cause) (key n own : ℕ) (choice : Choice)
    (cause : Cause) (handed : Handed) : Type 0 where
  pub turned : IsTurned old new key n choice (length causes) (number_of own (length prices) handed.prices) handed.bounds
  pub put : after ≡ prices ++ option_items handed.prices
  pub cause_put : more ≡ causes ++ cause ∷ []

abbrev pub IsPut : Keyed → Keyed → List Prices → List Prices → List Cause → List Cause → ℕ → ℕ → ℕ → ℕ → Ending → Type 0
IsPut old new prices after causes more key n own now (Closed kept) = IsPutClosed old new prices after key n kept × (more ≡ causes)
IsPut old new prices after causes more key n own now (Split choice why handed) =
    IsPutSplit old new prices after causes more key n own choice (record { now = now; why = why }) handed
