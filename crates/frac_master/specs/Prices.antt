-- the value and the dual numbers, as numerator and positive denominator
use Rattle.std.specs.Prelude.{◌≡◌, ◌⊎◌, ℕ, ℤ, pos, ◌+ℤ◌, ◌-ℤ◌, ◌*ℤ◌, ◌<ℤ◌, List, Err, Result, MatchOption, MatchResult}
use Rattle.crew_num.specs.declared.Op.TheVariants.{Add, Mul}
use Rattle.crew_num.specs.declared.Overflow.{Overflow}
use Rattle.crew_num.specs.Exact.{IsOverflow, fault}
use Rattle.crew_terms.specs.Limits.{Limits, Route, tasks_in, teams_in}
use Rattle.crew_terms.specs.Leaf.{Prices}
use Rattle.crew_terms.specs.Total.{total}
use Rattle.search_terms.specs.declared.Place.{Place}
use Rattle.search_terms.specs.Rows.{number, value_row}
use Rattle.share_terms.specs.declared.TheConstants.{BIG_M}
use Rattle.search_terms.specs.declared.TheConstants.{RIGHT, VALUE}
use Rattle.search_terms.specs.Opening.{OpensWith, dual, places, times}
use Rattle.search_terms.specs.Duals.{best_reward, extras, term_over}
use Rattle.frac_master.specs.State.{MasterState}

-- BIG_M times the value's entry, with the number added; and that entry
abbrev pub IsRaised : ℤ → ℤ → Result (ℤ × ℤ) Overflow → Type 0
IsRaised whole number r = MatchResult r (λ z. (z.0 ≡ (pos BIG_M *ℤ whole) +ℤ number) × (z.1 ≡ whole))
    (λ f. IsOverflow f × ((f ≡ fault Mul (pos BIG_M) whole) ⊎ (f ≡ fault Add (pos BIG_M *ℤ whole) number)))

-- the dual number of the row that opens with p, over the value's basic entry
pub record IsDualOf (m : MasterState) (p : Place) (num den : ℤ) : Type 0 where
  pub is : (n : Limits) (h : ℕ) → m.places ≡ places n → OpensWith n h p → num ≡ dual (places n) (value_row m.rows) h
  pub whole : den ≡ number (value_row m.rows) VALUE
  pub positive : pos 0 <ℤ den

-- an operation of the dual number leaves i128: BIG_M times the value's entry, or the sum with the row's number
pub data IsDualFault (m : MasterState) (p : Place) (f : Overflow) : Type 0 where
  Scaled : (leaves : IsOverflow f) (is : f ≡ fault Mul (pos BIG_M) (number (value_row m.rows) VALUE)) → IsDualFault m p f
  Raised : (leaves : IsOverflow f) (is : (n : Limits) (h : ℕ) → m.places ≡ places n → OpensWith n h p →
      f ≡ fault Add (pos BIG_M *ℤ number (value_row m.rows) VALUE) (times (places n) (value_row m.rows) h)) → IsDualFault m p f

-- a master that an overflow has ended answers it again
abbrev pub GivesDual : MasterState → Place → Result (ℤ × ℤ) Overflow → Type 0
GivesDual m p r = MatchOption m.ended (MatchResult r (λ z. IsDualOf m p z.0 z.1) (IsDualFault m p)) (λ f. r ≡ Err f)

-- the value of the basic solution
pub record IsValueOf (m : MasterState) (num den : ℤ) : Type 0 where
  pub is : num ≡ number (value_row m.rows) RIGHT
  pub whole : den ≡ number (value_row m.rows) VALUE
  pub positive : pos 0 <ℤ den

-- a master that an overflow has ended answers it again
abbrev pub GivesValue : MasterState → Result (ℤ × ℤ) Overflow → Type 0
GivesValue m r = MatchOption m.ended (MatchResult r (λ z. IsValueOf m z.0 z.1) (λ f. ⊥)) (λ f. r ≡ Err f)

-- the value is the sum of the terms and the extras at these prices, less for each team the greater of 0 and the best reward
-- among these routes: all in parts of which `whole` make one
abbrev pub IsSumOf : Limits → List Route → Prices → ℤ → ℤ → Type 0
IsSumOf n routes prices value whole =
    value ≡ (total (tasks_in n) (term_over n whole prices) +ℤ extras n prices) -ℤ total (teams_in n) (best_reward prices routes)
