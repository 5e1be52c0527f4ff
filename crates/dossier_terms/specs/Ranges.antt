-- the ranges of the words of each kind of line, and the shapes of lines
use Rattle.std.specs.Prelude.{◌≡◌, ◌≤◌, ◌<◌, ◌+◌, ◌*◌, ◌++◌, ℕ, ℤ, List, [], ◌∷◌, length, slice_index_or, codes, All}
use Rattle.std.specs.List.{AllByRecursion}
use Rattle.std.specs.Fmt.{decimal}
use Rattle.crew_terms.specs.Words.{Words}
use Rattle.crew_terms.specs.Name.{IsName}
use Rattle.crew_terms.specs.Rules.{IsTeamCount}
use Rattle.crew_terms.specs.Plan.{Job}
use Rattle.crew_terms.specs.Limits.{Route}
use Rattle.crew_terms.specs.declared.Visit.{Visit}
use Rattle.crew_terms.specs.declared.Team.{Team}
use Rattle.crew_terms.specs.declared.Task.{Task}
use Rattle.crew_terms.specs.declared.TreeCounts.{TreeCounts}
use Rattle.crew_terms.specs.declared.TheConstants.{MOST_PLACES, MOST_TEAMS, MOST_TASKS, SKILLS, LAST_MINUTE, MOST_NODES, MOST_NUMBER}
use Rattle.dossier_terms.specs.declared.Size.{Size}
use Rattle.dossier_terms.specs.Dossier.{IsSigned}
use Rattle.crew_num.specs.declared.Op.{Op}
use Rattle.crew_num.specs.declared.Overflow.{Overflow}
use Rattle.crew_num.specs.Exact.{FitsI128}
use Rattle.dossier_terms.specs.Runs.{Run}
use Rattle.dossier_terms.specs.Lines.{op_word}

-- ---- ranges

-- the ranges of the line `size`
pub record IsSize (z : Size) : Type 0 where
  pub teams : z.teams ≤ MOST_TEAMS
  pub tasks : z.tasks ≤ MOST_TASKS
  pub places : z.places ≤ MOST_PLACES
  pub nodes : z.nodes ≤ MOST_NODES

-- the ranges of a line `travel`
pub record IsTravel (places : ℕ) (row : List ℕ) : Type 0 where
  pub count : length row ≡ places
  pub minutes : All (λ t. t ≤ LAST_MINUTE) row

-- a team or a task as its line spells it: the ranges of its numbers
pub record IsTeamLine (places : ℕ) (p : Team × List ℕ) : Type 0 where
  pub name : IsName p.0.name
  pub home : p.0.home < places
  pub from : p.0.from ≤ LAST_MINUTE
  pub until : p.0.until ≤ LAST_MINUTE
  pub none : p.0.skills ≡ 0
  pub skills : AllByRecursion (λ s. s < SKILLS) p.1

-- the same of a task
pub record IsTaskLine (places : ℕ) (p : Task × List ℕ) : Type 0 where
  pub name : IsName p.0.name
  pub place : p.0.place < places
  pub earliest : p.0.earliest ≤ LAST_MINUTE
  pub latest : p.0.latest ≤ LAST_MINUTE
  pub some_minutes : 1 ≤ p.0.minutes
  pub minutes : p.0.minutes ≤ LAST_MINUTE
  pub teams : IsTeamCount p.0.teams
  pub none : p.0.skills ≡ 0
  pub skills : AllByRecursion (λ s. s < SKILLS) p.1

-- the ranges of a line `route`, where there are m teams and n tasks
pub record IsRouteLine (m n : ℕ) (r : Route) : Type 0 where
  pub team : r.team < m
  pub some : 1 ≤ length r.visits
  pub tasks : AllByRecursion (λ (v : Visit). v.task < n) r.visits
  pub starts : AllByRecursion (λ (v : Visit). v.start ≤ LAST_MINUTE) r.visits

-- the ranges of a line `do` or `keep`, where there are m teams and n tasks
pub record IsDoLine (m n : ℕ) (p : ℕ × Job) : Type 0 where
  pub task : p.0 < n
  pub start : p.1.start ≤ LAST_MINUTE
  pub teams : AllByRecursion (λ k. k < m) p.1.teams

-- the ranges of the line `tree`
pub record IsCounts (c : TreeCounts) : Type 0 where
  pub splits : c.splits ≤ MOST_NODES
  pub closed : c.closed ≤ MOST_NODES
  pub left_open : c.left_open ≤ MOST_NODES + 1
  pub depth : c.depth ≤ MOST_NODES

-- so many numbers of a range
pub record AreNumbers (In : ℤ → Type 0) (n : ℕ) (vs : List ℤ) : Type 0 where
  pub count : length vs ≡ n
  pub each : AllByRecursion In vs

-- the ranges of a line `steps`
pub record IsStepsLine (runs : List Run) : Type 0 where
  pub some : 1 ≤ length runs
  pub minutes : AllByRecursion (λ (r : Run). r.from ≤ LAST_MINUTE) runs
  pub numbers : AllByRecursion (λ (r : Run). IsSigned r.value) runs

-- the range of the number of unassigned tasks that a cause tells, where there are n tasks
pub record IsNowWord (n now : ℕ) : Type 0 where
  pub some : 1 ≤ now
  pub known : now ≤ n

-- the ranges of the first line of a loose cause: what the plan left unassigned, the parts of a share, and the columns
pub record IsLooseLine (n : ℕ) (p : ℕ × ℕ × ℕ) : Type 0 where
  pub now : IsNowWord n p.0
  pub some : 1 ≤ p.1
  pub whole : p.1 ≤ 170141183460469231731687303715884105727
  pub count : p.2 ≤ MOST_NUMBER

-- the ranges of a line `spare`
pub record IsSpareLine (n whole : ℕ) (spare : List ℕ) : Type 0 where
  pub count : length spare ≡ n
  pub most : AllByRecursion (λ z. z ≤ whole) spare

-- the ranges of the line of an overflow
pub record IsOverflowLine (n : ℕ) (p : ℕ × Overflow) : Type 0 where
  pub now : IsNowWord n p.0
  pub a : FitsI128 p.1.a
  pub b : FitsI128 p.1.b

-- ---- shapes

-- the word behind the first one is a name
abbrev pub HasName : Words → Type 0
HasName ws = IsName (slice_index_or ws 1 [])

-- two words, and then one pair of words or more
abbrev pub IsPairs : Words → Type 0
IsPairs ws = (k : ℕ) × (length ws ≡ 4 + 2 * k)

-- the first word, the task that is due, and this many words
abbrev pub IsRow : (ℕ → List ℤ → Words) → ℕ → ℕ → Words → Type 0
IsRow line j n ws = (rest : Words) × (ws ≡ line j [] ++ rest) × (length rest ≡ n)

-- a cause of this kind, and n words more
abbrev pub IsWhy : List ℕ → ℕ → Words → Type 0
IsWhy kind n ws = (rest : Words) × (ws ≡ codes "why" ∷ kind ∷ rest) × (length rest ≡ n)

-- a cause of this kind
abbrev pub BeginsWhy : List ℕ → Words → Type 0
BeginsWhy kind ws = (rest : Words) × (ws ≡ codes "why" ∷ kind ∷ rest)

-- an overflow of one of the operations, and three numbers
abbrev pub IsWhyOverflow : Words → Type 0
IsWhyOverflow ws = (op : Op) × (now a b : List ℕ) × (ws ≡ codes "why" ∷ codes "overflow" ∷ now ∷ op_word op ∷ a ∷ b ∷ [])

-- the first word, and the task that is due
abbrev pub BeginsAt : List ℕ → ℕ → Words → Type 0
BeginsAt word j ws = (rest : Words) × (ws ≡ word ∷ decimal j ∷ rest)
