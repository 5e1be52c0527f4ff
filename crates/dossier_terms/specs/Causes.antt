-- why a split was made, and when it shows that its node had to be split
use Rattle.std.specs.Prelude.{◌≡◌, ◌≤◌, ◌<◌, ◌+◌, ◌-◌, ◌*◌, ℕ, suc, List, [], ◌∷◌, length, map, slice_index_or}
use Rattle.std.specs.List.{AllByRecursion}
use Rattle.crew_num.specs.declared.Overflow.{Overflow}
use Rattle.crew_num.specs.Exact.{FitsI128, IsOverflow}
use Rattle.crew_terms.specs.Limits.{Limits, Route, tasks_in}
use Rattle.crew_terms.specs.declared.TheConstants.{MOST_NUMBER}
use Rattle.share_terms.specs.Shares.{Share, FractionalChoice, IsFractional, IsLoose}
use Rattle.dossier_terms.specs.declared.DossierForm.{DossierForm}
use Rattle.dossier_terms.specs.declared.DossierForm.TheVariants.{One, Two}

-- a column of the pool, and how many parts of it are taken
pub record Part : Type 0 where
  pub column : ℕ
  pub parts : ℕ

-- shares of columns, and the share of each task that is left unassigned, in parts of which `whole` make one
pub record Shares : Type 0 where
  pub whole : ℕ
  pub parts : List Part
  pub spare : List ℕ

-- why a node was split, while the plan left `now` tasks unassigned: it is not said; shares of columns leave hardly more than
-- now - 1 tasks unassigned; a number of the master's run left the range of i128; or its pivots were spent
pub data Cause : Type 0 where
  NoCause : Cause
  Loose : (now : ℕ) (shares : Shares) → Cause
  Overflowed : (now : ℕ) (fault : Overflow) → Cause
  Spent : (now : ℕ) → Cause

-- 1 of a cause that does not show that the node had to be split
abbrev pub unshown_in : Cause → ℕ
unshown_in NoCause = 1
unshown_in (Loose now shares) = 0
unshown_in (Overflowed now fault) = 1
unshown_in (Spent now) = 1

-- the route of a column; one without visits where the pool has none of this number
abbrev pub column_of : List Route → ℕ → Route
column_of pool c = slice_index_or pool c (record { team = 0; visits = [] })

-- a share of a column is one of its route
abbrev pub share_of : List Route → Part → Share
share_of pool p = record { route = column_of pool p.column; parts = p.parts }

-- the choice that the shares say
abbrev pub choice_of : List Route → Shares → FractionalChoice
choice_of pool s = record { whole = s.whole; shares = map (share_of pool) s.parts; unassigned = s.spare }

-- a number of tasks that a plan could leave unassigned, and not less than the dossier's plan does
pub record IsNow (n : Limits) (u now : ℕ) : Type 0 where
  pub some : 1 ≤ now
  pub known : now ≤ tasks_in n
  pub enough : u ≤ now

-- one part or more of a column, and no more than a whole
pub record IsPartOf (columns whole : ℕ) (p : Part) : Type 0 where
  pub known : p.column < columns
  pub some : 1 ≤ p.parts
  pub most : p.parts ≤ whole

-- the columns' numbers are at least `from`, and rise
abbrev pub PartsRise : ℕ → List Part → Type 0
PartsRise from [] = Unit {0}
PartsRise from (p ∷ ps) = (from ≤ p.column) × PartsRise (suc p.column) ps

-- shares of columns of the pool, each once
pub record AreShares (pool : List Route) (s : Shares) : Type 0 where
  pub whole : s.whole ≤ 170141183460469231731687303715884105727
  pub count : length s.parts ≤ MOST_NUMBER
  pub parts : AllByRecursion (IsPartOf (length pool) s.whole) s.parts
  pub rise : PartsRise 0 s.parts

-- the shares are a fractional choice in the node, and it leaves at most now - 1 tasks and a thousandth of one unassigned
pub record IsLooseAt (pool : List Route) (n : Limits) (now : ℕ) (s : Shares) : Type 0 where
  pub choice : IsFractional n (choice_of pool s)
  pub loose : IsLoose n (choice_of pool s) ((now - 1) * 1000 + 1) 1000

-- an operation on two numbers of 128 bits, whose exact result has more
pub record IsFault (fault : Overflow) : Type 0 where
  pub a : FitsI128 fault.a
  pub b : FitsI128 fault.b
  pub leaves : IsOverflow fault

-- the cause may be told of a split of the node n, where the plan leaves u tasks unassigned
abbrev pub IsCauseIn : List Route → Limits → ℕ → Cause → Type 0
IsCauseIn pool n u NoCause = Unit {0}
IsCauseIn pool n u (Loose now s) = IsNow n u now × AreShares pool s × IsLooseAt pool n now s
IsCauseIn pool n u (Overflowed now fault) = IsNow n u now × IsFault fault
IsCauseIn pool n u (Spent now) = IsNow n u now

-- the same, as the form has it: form 1 tells none
abbrev pub IsCauseOf : DossierForm → List Route → Limits → ℕ → Cause → Type 0
IsCauseOf One pool n u cause = cause ≡ NoCause
IsCauseOf Two pool n u cause = IsCauseIn pool n u cause
