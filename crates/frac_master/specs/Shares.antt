-- the shares of the basic solution, and what `shares` tells of them
use Rattle.std.specs.Prelude.{◌≡◌, ◌<◌, ◌*◌, ◌/◌, ◌^◌, ◌==◌, ℕ, suc, ℤ, pos, ◌*ℤ◌, ◌<ℤ◌, List, [], ◌∷◌, map, length, unsigned_abs, Option, None, Some, if◌then◌else◌, Err, Result, MatchOption, MatchResult}
use Rattle.std.specs.List.{AllZip, position}
use Rattle.crew_num.specs.declared.Overflow.{Overflow}
use Rattle.crew_num.specs.Exact.{IsOverflow}
use Rattle.crew_terms.specs.Limits.{Limits, Route}
use Rattle.search_terms.specs.declared.TheConstants.{RIGHT, VALUE}
use Rattle.search_terms.specs.Rows.{Row, Rows, number, row_of, value_row}
use Rattle.search_terms.specs.Opening.{places}
use Rattle.search_terms.specs.Overflows.{IsDenominator, IsLeastMultiple, IsOfMultiple, share_places}
use Rattle.share_terms.specs.Shares.{FractionalChoice, IsFractional, choice_value}
use Rattle.search_terms.specs.BasicChoice.{choice_of}
use Rattle.frac_master.specs.declared.shares.Share.{Share}
use Rattle.frac_master.specs.State.{MasterState}

-- what a row's basic variable, at place j, has of so many parts: the right side over its number
abbrev pub parts_in : Row → ℕ → ℕ → ℕ
parts_in row whole j = unsigned_abs (number row RIGHT) * whole / unsigned_abs (number row j)

-- what the variable has that is basic in this row; one that is basic in none has nothing
abbrev pub parts_by : Rows → ℕ → ℕ → Option ℕ → ℕ
parts_by t whole j None = 0
parts_by t whole j (Some h) = parts_in (row_of t h) whole j

-- what the variable at place j has, in the basic solution, of the parts of which `whole` make one
abbrev pub parts_at : Rows → ℕ → ℕ → ℕ
parts_at t whole j = parts_by t whole j (position (λ b. b == j) t.basis)

-- the positive shares of these columns; that of the first stands at place at
abbrev pub column_shares : (ℕ → ℕ) → ℕ → List ℕ → List Share
column_shares x at [] = []
column_shares x at (c ∷ cs) =
    if x at == 0 then column_shares x (suc at) cs else record { column = c; num = pos (x at) } ∷ column_shares x (suc at) cs

-- the fractional choice that the basic solution is, in parts of which `whole` make one
abbrev pub basic_choice : Limits → List Route → Rows → ℕ → FractionalChoice
basic_choice n routes t whole = choice_of n routes whole (parts_at t whole)

-- the least common multiple of the denominators, in lowest terms, of the shares at these places
pub record IsCommonOf (t : Rows) (at : List ℕ) (whole : ℕ) : Type 0 where
  pub denominators : List ℕ
  pub each : AllZip (λ j d. IsDenominator t j d) at denominators
  pub least : IsLeastMultiple denominators whole
  pub some : 0 < whole
  pub fits : whole < 2 ^ 127

-- a product in forming that multiple leaves i128
pub record IsCommonFault (t : Rows) (at : List ℕ) (f : Overflow) : Type 0 where
  pub leaves : IsOverflow f
  pub denominators : List ℕ
  pub each : AllZip (λ j d. IsDenominator t j d) at denominators
  pub how : IsOfMultiple denominators f

-- the positive shares of routes by rising column, and the unassigned share of each task, over the least common multiple of
-- their denominators in lowest terms
pub record AreShares (n : Limits) (m : MasterState) (den : ℤ) (out : List Share) (left_open : List ℤ) : Type 0 where
  pub positive : pos 0 <ℤ den
  pub common : IsCommonOf m.rows (share_places n m.rows) (unsigned_abs den)
  pub shares : out ≡ column_shares (parts_at m.rows (unsigned_abs den)) (length (places n)) m.columns
  pub unassigned : left_open ≡ map pos (basic_choice n [] m.rows (unsigned_abs den)).unassigned

-- a master that an overflow has ended answers it again
abbrev pub GivesShares : Limits → MasterState → Result ℤ Overflow → List Share → List ℤ → Type 0
GivesShares n m r out left_open = MatchOption m.ended
    (MatchResult r (λ den. AreShares n m den out left_open) (IsCommonFault m.rows (share_places n m.rows))) (λ f. r ≡ Err f)

-- a fractional choice of the value of these rows
pub record IsOptimalChoice (n : Limits) (t : Rows) (c : FractionalChoice) : Type 0 where
  pub fractional : IsFractional n c
  pub value : number (value_row t) VALUE *ℤ choice_value n c ≡ number (value_row t) RIGHT *ℤ pos c.whole
