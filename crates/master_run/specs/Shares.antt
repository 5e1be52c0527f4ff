-- the shares of columns, as the fractional choice that they are
use Rattle.std.specs.Prelude.{ℤ, pos, ◌≤ℤ◌, ◌<ℤ◌, List, All, map, unsigned_abs}
use Rattle.crew_terms.specs.Limits.{Route}
use Rattle.share_terms.specs.Shares.{FractionalChoice, Share as RouteShare}
use Rattle.column_arena.specs.Columns.{column_of}
use Rattle.frac_master.specs.declared.shares.Share.{Share}

-- the share of the column's route
abbrev pub share_of : List Route → Share → RouteShare
share_of columns s = record { route = column_of columns s.column; parts = unsigned_abs s.num }

-- the whole and each share are positive, and nothing that is left unassigned is negative
pub record ArePositive (den : ℤ) (shares : List Share) (left_open : List ℤ) : Type 0 where
  pub whole : pos 0 <ℤ den
  pub parts : All (λ (s : Share). pos 0 <ℤ s.num) shares
  pub left : All (λ z. pos 0 ≤ℤ z) left_open

-- the shares of these columns' routes and the unassigned share of each task, in parts of which `den` make one
abbrev pub fractional_of : List Route → ℤ → List Share → List ℤ → FractionalChoice
fractional_of columns den shares left_open = record {
  whole = unsigned_abs den;
  shares = map (share_of columns) shares;
  unassigned = map unsigned_abs left_open;
}
