-- uses: visits that routes of a node make in part
use Rattle.std.specs.Prelude.{◌≡◌, ◌≤◌, ◌<◌, ℕ, List, Contains}
use Rattle.crew_terms.specs.Limits.{Limits, IsPermittedVisit, teams_in}
use Rattle.branch_choice.specs.declared.uses.Use.{Use}

-- a team of the node may begin the task at the minute
pub record IsPermittedUse (n : Limits) (u : Use) : Type 0 where
  pub team : u.team < teams_in n
  pub visit : IsPermittedVisit n u.team u.task u.start

-- some use begins task j at minute t
abbrev pub BeginsAt : List Use → ℕ → ℕ → Type 0
BeginsAt uses j t = (u : Use) × Contains uses u × (u.task ≡ j) × (u.start ≡ t)

-- some use is of team k at task j
abbrev pub HasUse : List Use → ℕ → ℕ → Type 0
HasUse uses k j = (u : Use) × Contains uses u × (u.team ≡ k) × (u.task ≡ j)

-- the least and the greatest minute at which uses begin task j
pub record AreEnds (uses : List Use) (j least greatest : ℕ) : Type 0 where
  pub first : BeginsAt uses j least
  pub last : BeginsAt uses j greatest
  pub between : (t : ℕ) → BeginsAt uses j t → (least ≤ t) × (t ≤ greatest)

-- uses begin task j at two minutes
abbrev pub HasTwoStarts : List Use → ℕ → Type 0
HasTwoStarts uses j = (t : ℕ) × (u : ℕ) × BeginsAt uses j t × BeginsAt uses j u × (t < u)
