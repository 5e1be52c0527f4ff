-- which columns of a team visit a task, as it is kept: a table with a list for each team and task
use Rattle.std.specs.Prelude.{◌≡◌, ◌+◌, ◌-◌, ◌*◌, ℕ, Bool, ◌&&◌, nat_eq, nat_lt, if◌then◌else◌, List, [], ◌∷◌, ◌++◌, length, slice_index_or}
use Rattle.std.specs.List.{list_any}
use Rattle.crew_terms.specs.declared.Visit.{Visit}
use Rattle.crew_terms.specs.declared.TheConstants.{MOST_TASKS}

-- numbers of columns, and the room for further ones
pub record Held : Type 0 where
  pub ids : List ℕ
  pub spare : ℕ

abbrev pub none_held : Held
none_held = record { ids = []; spare = 0 }

-- the place of a team and a task in the table
abbrev pub place : ℕ → ℕ → ℕ
place k j = k * MOST_TASKS + j

abbrev pub held_at : List Held → ℕ → Held
held_at table p = slice_index_or table p none_held

-- the number stands last
abbrev pub is_last : List ℕ → ℕ → Bool
is_last ids id = nat_lt 0 (length ids) && nat_eq (slice_index_or ids (length ids - 1) 0) id

-- the number is put last, once
abbrev pub with_number : Held → ℕ → Held
with_number h id = record { ids = h.ids ++ id ∷ []; spare = h.spare - 1 }

abbrev pub with_last : Held → ℕ → Held
with_last h id = if is_last h.ids id then h else with_number h id

abbrev pub with_number_if : Bool → Held → ℕ → Held
with_number_if b h id = if b then with_number h id else h

-- some visit of the team is at this place of the table
abbrev pub is_at : ℕ → List Visit → ℕ → Bool
is_at k visits p = list_any (λ (v : Visit). nat_eq (place k v.task) p) visits

-- each list has the same numbers
abbrev pub HaveSameNumbers : List Held → List Held → Type 0
HaveSameNumbers old new = (p : ℕ) → (held_at new p).ids ≡ (held_at old p).ids

-- the number stands last in the list of each place that the team's visits have, and the others are as before
abbrev pub IsNoted : List Held → ℕ → List Visit → ℕ → List Held → Type 0
IsNoted old k visits id new = (p : ℕ) → held_at new p ≡ with_number_if (is_at k visits p) (held_at old p) id
