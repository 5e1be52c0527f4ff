-- what a route makes of a master
use Rattle.std.specs.Prelude.{◌≡◌, ◌<◌, ◌++◌, ◌∷◌, ℕ, [], length, Some, MatchOption}
use Rattle.crew_num.specs.declared.Overflow.{Overflow}
use Rattle.crew_num.specs.Exact.{IsOverflow}
use Rattle.crew_terms.specs.Limits.{Limits, Route}
use Rattle.search_terms.specs.Rows.{row_of, number, value_row}
use Rattle.search_terms.specs.Opening.{dual, entered, openers, places, route_number}
use Rattle.search_terms.specs.Overflows.{IsOfSum}
use Rattle.search_terms.specs.declared.TheConstants.{VALUE}
use Rattle.frac_master.specs.declared.solved.Added.{Added}
use Rattle.frac_master.specs.declared.solved.Added.TheVariants.{Done, Overflow as Overflowed}
use Rattle.frac_master.specs.State.{MasterState}

-- an operation of the route's column leaves i128: one of the running sum of a row, in the order of the opening rows
pub record IsColumnFault (m : MasterState) (r : Route) (f : Overflow) : Type 0 where
  pub leaves : IsOverflow f
  pub how : (n : Limits) → m.places ≡ places n → (h : ℕ) × (h < length m.rows.rows) × IsOfSum n (route_number (places n) r) (row_of m.rows h) f

-- the route enters as the column of this number
abbrev pub with_column : MasterState → ℕ → Route → MasterState
with_column m column r = record m { columns = m.columns ++ column ∷ []; rows = entered m.places r m.rows }

-- what a route makes of a master that no overflow has ended
abbrev pub AddsOn : MasterState → ℕ → Route → Added → MasterState → Type 0
AddsOn old column r Done new = new ≡ with_column old column r
AddsOn old column r (Overflowed f) new = (new ≡ record old { ended = Some f }) × IsColumnFault old r f

-- a master that an overflow has ended answers it again
abbrev pub Adds : MasterState → ℕ → Route → Added → MasterState → Type 0
Adds old column r added new = MatchOption old.ended (AddsOn old column r added new) (λ f. (added ≡ Overflowed f) × (new ≡ old))

-- prices and extras are the same
pub record HaveSameDuals (old new : MasterState) : Type 0 where
  pub same : new.places ≡ old.places
  pub whole : number (value_row new.rows) VALUE ≡ number (value_row old.rows) VALUE
  pub each : (n : Limits) (h : ℕ) → old.places ≡ places n → h < length (openers (places n)) →
      dual (places n) (value_row new.rows) h ≡ dual (places n) (value_row old.rows) h
