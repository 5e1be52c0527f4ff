-- one step of the wave: a task begins when each of its teams can come from what it did last
use Rattle.std.specs.Prelude.{◌≡◌, ◌≤◌, ◌<◌, ◌+◌, ℕ, List, Option, None, Some, length, max, slice_index, slice_index_or, slice_set, Contains, MatchOption}
use Rattle.crew_terms.specs.Instance.{Instance, task_of}
use Rattle.crew_instance.specs.declared.turns.Turn.{Turn}
use Rattle.delay_wave.specs.declared.steps.Ended.{Ended}
use Rattle.delay_wave.specs.declared.waits.Wait.{Wait}
use Rattle.delay_wave.specs.Ends.{minutes_to}

-- what team k did last
abbrev pub last_of : List (Option Ended) → ℕ → Option Ended
last_of last k = slice_index_or last k None

-- when a team that did this last can begin task h
abbrev pub ready_from : Instance → Ended → ℕ → ℕ
ready_from i e h = e.end + minutes_to i e.task h

-- what the teams did last are tasks of the instance, which ended by minute b
pub record EndBy (i : Instance) (last : List (Option Ended)) (b : ℕ) : Type 0 where
  pub task : (k : ℕ) (e : Ended) → last_of last k ≡ Some e → e.task < length i.tasks
  pub end : (k : ℕ) (e : Ended) → last_of last k ≡ Some e → e.end ≤ b

-- of the first n teams, the first from whose last task nobody can come before this start did task j last
pub record IsHeldAt (i : Instance) (last : List (Option Ended)) (teams : List ℕ) (h n start j : ℕ) : Type 0 where
  pub place : ℕ
  pub below : place < n
  pub ended : Ended
  pub did : last_of last (slice_index teams place) ≡ Some ended
  pub task : ended.task ≡ j
  pub meets : start ≡ ready_from i ended h
  pub first : (b : ℕ) (e : Ended) → b < place → last_of last (slice_index teams b) ≡ Some e → ready_from i e h < start

-- the turn's task begins as planned, or as soon as the first n of its teams can come
pub record IsWaitAfter (i : Instance) (last : List (Option Ended)) (turn : Turn) (teams : List ℕ) (n : ℕ) (wait : Wait) : Type 0 where
  pub planned : turn.start ≤ wait.start
  pub comes : (b : ℕ) (e : Ended) → b < n → last_of last (slice_index teams b) ≡ Some e → ready_from i e turn.task ≤ wait.start
  pub held : MatchOption wait.held_by (wait.start ≡ turn.start)
      (λ j. (turn.start < wait.start) × IsHeldAt i last teams turn.task n wait.start j)

-- each of the first n teams did this last, and the others what they did before
pub record AreNoted (old : List (Option Ended)) (teams : List ℕ) (n : ℕ) (e : Ended) (new : List (Option Ended)) : Type 0 where
  pub noted : (b : ℕ) → b < n → last_of new (slice_index teams b) ≡ Some e
  pub others : (k : ℕ) → ((b : ℕ) → b < n → slice_index teams b ≡ k → ⊥) → last_of new k ≡ last_of old k

-- the turn's task begins, and its teams have it as their last
pub record IsStep (i : Instance) (told : ℕ) (turn : Turn) (teams : List ℕ) (last : List (Option Ended)) (waits : List (Option Wait))
    (new_last : List (Option Ended)) (new_waits : List (Option Wait)) : Type 0 where
  pub wait : Wait
  pub is : IsWaitAfter i last turn teams (length teams) wait
  pub placed : new_waits ≡ slice_set waits turn.task (Some wait)
  pub noted : AreNoted last teams (length teams) (record { task = turn.task; end = max (wait.start + (task_of i turn.task).minutes) told }) new_last
