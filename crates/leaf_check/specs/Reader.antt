-- what a reader of a leaf keeps, and what it says of a line
use Rattle.std.specs.Prelude.{◌≡◌, ◌<◌, ◌+◌, ℕ, suc, ℤ, pos, List, [], ◌∷◌, ◌++◌, length, take, slice_index_or, Option, None, Some, Result, Ok, Err}
use Rattle.crew_terms.specs.Words.{Words}
use Rattle.crew_terms.specs.Plan.{unassigned_count}
use Rattle.crew_terms.specs.Limits.{Limits, IsPermittedVisit, tasks_in, teams_in}
use Rattle.potentials.specs.Room.{HasRoom}
use Rattle.potentials.specs.Table.{IsTableOf, phi}
use Rattle.dossier_terms.specs.declared.Reason.{Reason}
use Rattle.dossier_terms.specs.Dossier.{Leaf, Potentials, phi_in, prices_of, worths_of}
use Rattle.dossier_terms.specs.Reading.{Reading, Answer, More as Goes, No as Refuses, Prices, Extras, Worths, Phis, limits_of, leaf_done, LeafSite}
use Rattle.dossier_terms.specs.declared.DossierForm.{DossierForm}
use Rattle.dossier_terms.specs.LeafTable.{after_phi, potentials_row, table_row}
use Rattle.dossier_terms.specs.Table.{Says}
use Rattle.leaf_check.specs.Keys.{IsOpenTask, IsExtraDue, IsPhiDue}
use Rattle.leaf_check.specs.Prices.{ArePricesIn}
use Rattle.leaf_check.specs.declared.reader.Goal.{Goal}
use Rattle.leaf_check.specs.declared.reader.LeafDue.{LeafDue}
use Rattle.leaf_check.specs.declared.reader.LeafDue.TheVariants as due
use Rattle.leaf_check.specs.declared.reader.LeafReader.{LeafReader}
use Rattle.leaf_check.specs.declared.reader.LeafStep.{LeafStep}
use Rattle.leaf_check.specs.declared.reader.LeafStep.TheVariants.{More, Done}

-- ---- the room of a reader

-- the task and the team of the line that is due have one
abbrev pub IsLeafDue : Limits → LeafDue → Type 0
IsLeafDue n due.Price = Unit {0}
IsLeafDue n (due.Extra task) = task < tasks_in n
IsLeafDue n (due.Worth team) = team < teams_in n
IsLeafDue n (due.Phi team task) = (team < teams_in n) × IsOpenTask n team task

-- the reader has room for a leaf of these limits, and its next line is one of such a leaf
pub record IsReady (n : Limits) (r : LeafReader) : Type 0 where
  pub prices : ArePricesIn n r.prices
  pub table : IsTableOf n.instance r.table
  pub room : HasRoom n.instance r.room
  pub worths : length r.worths.items ≡ teams_in n
  pub due : IsLeafDue n r.due

-- ---- what a reader keeps of a leaf

-- the prices and the worths are those of the leaf so far
pub record HasReadLeaf (n : Limits) (r : LeafReader) (leaf : Leaf) : Type 0 where
  pub prices : r.prices ≡ prices_of n leaf
  pub worths : take (length leaf.tables) r.worths.items ≡ worths_of leaf

-- the reader has read the leaf up to this team, from which on so many teams are left
pub record HasReadUpTo (n : Limits) (r : LeafReader) (leaf : Leaf) (team left : ℕ) : Type 0 where
  pub read : HasReadLeaf n r leaf
  pub count : length leaf.tables ≡ team
  pub teams : team + left ≡ teams_in n

-- team k's worth is the one of the table, and so are its potentials at the tasks below a number
pub record HasPotentials (n : Limits) (r : LeafReader) (k : ℕ) (table : Potentials) (below : ℕ)
    : Type 0 where
  pub worth : slice_index_or r.worths.items k (pos 0) ≡ table.worth
  pub phi : (j t : ℕ) → j < below → IsPermittedVisit n k j t
      → phi r.table j t ≡ phi_in n k table j t

-- the tasks before the next one, or all
abbrev pub below_next : Limits → Option ℕ → ℕ
below_next n None = tasks_in n
below_next n (Some j) = j

-- team k's worth is the table's, and so are its potentials at the tasks before the next one
abbrev pub HasPotentialsBefore : Limits → LeafReader → ℕ → Potentials → Option ℕ → Type 0
HasPotentialsBefore n r k table next = HasPotentials n r k table (below_next n next)

-- the leaf with no table yet
abbrev pub priced_leaf : List ℤ → List (List ℤ) → Leaf
priced_leaf prices extras = record { prices = prices; extras = extras; tables = [] }

-- the reader stands for a state of the table of lines at the site of a leaf
pub data StandsFor (a : LeafSite) (r : LeafReader) (s : Reading) : Type 0 where
  AtPrices : (line : r.due ≡ due.Price) (is : s ≡ Prices a) → StandsFor a r s
  AtExtras : (prices : List ℤ) (rows : List (List ℤ)) (j : ℕ) (js : List ℕ)
      (line : r.due ≡ due.Extra j)
      (read : HasReadLeaf (limits_of a) r (priced_leaf prices rows))
      (row : IsExtraDue (limits_of a) rows j js)
      (is : s ≡ Extras a (priced_leaf prices rows) j js) → StandsFor a r s
  AtWorths : (leaf : Leaf) (left : ℕ)
      (line : r.due ≡ due.Worth (length leaf.tables))
      (read : HasReadLeaf (limits_of a) r leaf)
      (teams : length leaf.tables + suc left ≡ teams_in (limits_of a))
      (is : s ≡ Worths a leaf left) → StandsFor a r s
  AtPhis : (leaf : Leaf) (left : ℕ) (table : Potentials) (j : ℕ) (js : List ℕ)
      (line : r.due ≡ due.Phi (length leaf.tables) j)
      (read : HasReadLeaf (limits_of a) r leaf)
      (teams : length leaf.tables + suc left ≡ teams_in (limits_of a))
      (potentials : HasPotentials (limits_of a) r (length leaf.tables) table j)
      (row : IsPhiDue (limits_of a) (length leaf.tables) table.phi j js)
      (is : s ≡ Phis a leaf left table j js) → StandsFor a r s

-- the rules of a line of the next team's potentials at task j, in this form
abbrev pub row_in : DossierForm → LeafSite → Leaf → ℕ → Potentials → ℕ → List ℕ → Words
    → Answer → Type 0
row_in form a leaf left table j js ws =
    potentials_row form (limits_of a) (length leaf.tables) j ws λ vs.
    after_phi a leaf left (record table { phi = table.phi ++ vs ∷ [] }) js

-- ---- what a reader says of a line

-- the form and the limits are those of the site, and the leaf has to prove what is asked for there
pub record IsGoalAt (a : LeafSite) (n : Limits) (goal : Goal) : Type 0 where
  pub limits : limits_of a ≡ n
  pub form : goal.form ≡ a.begun.form
  pub bound : goal.bound ≡ a.begun.bound
  pub unassigned : goal.unassigned ≡ unassigned_count a.begun.plan
  pub is_closed : goal.is_closed ≡ a.is_closed

-- the step, or the reason, is what the rules say; the reader stands for the state that they lead to
pub data LeafTells (a : LeafSite) (Rules : Answer → Type 0)
    (step : Result LeafStep Reason) (new : LeafReader) : Type 0 where
  TellsMore : (next : Reading) (says : Rules (Goes next)) (stands : StandsFor a new next)
      (is : step ≡ Ok More) → LeafTells a Rules step new
  TellsDone : (leaf : Leaf) (says : Rules (Goes (leaf_done a leaf)))
      (is : step ≡ Ok Done) → LeafTells a Rules step new
  TellsNo : (reason : Reason) (says : Rules (Refuses reason))
      (is : step ≡ Err reason) → LeafTells a Rules step new

-- it is what the table says of the line, at each state that the reader stands for
abbrev pub IsLeafStep : Limits → Goal → Words
    → LeafReader → LeafReader → Result LeafStep Reason → Type 0
IsLeafStep n goal words old new step =
    (a : LeafSite) (s : Reading) → IsGoalAt a n goal → StandsFor a old s
    → LeafTells a (Says s words) step new

-- it is what the table says of a line of a team's potentials at a task, wherever that is due
abbrev pub IsTableStep : Limits → Goal → ℕ → ℕ → Words
    → LeafReader → LeafReader → Result LeafStep Reason → Type 0
IsTableStep n goal team task words old new step =
    (a : LeafSite) (leaf : Leaf) (left : ℕ) (table : Potentials) (js : List ℕ)
    → IsGoalAt a n goal → HasReadUpTo n old leaf team (suc left)
    → HasPotentials n old team table task → IsPhiDue n team table.phi task js
    → LeafTells a (table_row a leaf left table task js words) step new
