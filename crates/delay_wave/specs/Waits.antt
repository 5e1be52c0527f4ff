-- when each task really begins, and what it waits for
use Rattle.std.specs.Prelude.{◌≡◌, ◌≤◌, ◌<◌, ◌+◌, ◌++◌, ℕ, zero, suc, List, [], ◌∷◌, Option, None, Some, length, is_some, slice_index_or, unwrap_or, option_and_then, MatchOption}
use Rattle.std.specs.Option.{option_map, option_map_or}
use Rattle.crew_terms.specs.Instance.{Instance}
use Rattle.crew_terms.specs.Plan.{Plan, Job, job_of}
use Rattle.delay_wave.specs.declared.lates.Late.{Late}
use Rattle.delay_wave.specs.declared.waits.Wait.{Wait}
use Rattle.delay_wave.specs.Delays.{AreEarliest, HoldsUp}

-- what is told of task j
abbrev pub wait_of : List (Option Wait) → ℕ → Option Wait
wait_of w j = slice_index_or w j None

-- when task j really begins, if it is assigned
abbrev pub start_of : List (Option Wait) → ℕ → Option ℕ
start_of w j = option_map (λ wait. wait.start) (wait_of w j)

-- the task that task j waits for, if there is one
abbrev pub holder_of : List (Option Wait) → ℕ → Option ℕ
holder_of w j = option_and_then (λ wait. wait.held_by) (wait_of w j)

-- when each task really begins, 0 where it is unassigned
abbrev pub starts_in : List (Option Wait) → ℕ → ℕ
starts_in w j = unwrap_or (start_of w j) 0

-- the earliest starts, and for each task that begins later than planned the one that holds it up
pub record AreWaits (i : Instance) (p : Plan) (lates : List Late) (w : List (Option Wait)) : Type 0 where
  pub whole : length w ≡ length p
  pub assigned : (j : ℕ) → is_some (wait_of w j) ≡ is_some (job_of p j)
  pub earliest : AreEarliest i p lates (starts_in w)
  pub held : (j : ℕ) (job : Job) → job_of p j ≡ Some job
      → MatchOption (holder_of w j) (starts_in w j ≡ job.start) (λ h. (job.start < starts_in w j) × HoldsUp i p lates (starts_in w) h j)

-- from a task that begins as planned to task j: each waits for the one before
pub data IsChain (w : List (Option Wait)) : List ℕ → ℕ → Type 0 where
  Begins : (j : ℕ) → holder_of w j ≡ None → IsChain w (j ∷ []) j
  Waits : (front : List ℕ) (h j : ℕ) → IsChain w front h → holder_of w j ≡ Some h → IsChain w (front ++ j ∷ []) j

-- the last tasks of the chain to task j, at most n before it
abbrev pub chain_within : List (Option Wait) → ℕ → ℕ → List ℕ
chain_within w zero j = j ∷ []
chain_within w (suc n) j = option_map_or (chain_within w n) (holder_of w j) [] ++ j ∷ []

-- the chain to task j
unfoldable pub chain_of : List (Option Wait) → ℕ → List ℕ
chain_of w j = chain_within w (length w) j
