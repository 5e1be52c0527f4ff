-- sources and sinks in memory
use Rattle.std.specs.Prelude.{◌≡◌, ◌≢◌, ◌+◌, ◌⊎◌, ℕ, List, [], length, drop, ◌++◌, Contains}
use Rattle.crew_io.specs.Io.{one_more}

-- a source: the bytes left, the most that a read gives, the numbers of the calls that fail, and the counts of calls and of faults
pub record Feed : Type 0 where
  pub left : List ℕ
  pub piece : ℕ
  pub fails : List ℕ
  pub calls : ℕ
  pub faults : ℕ

-- a source that never fails
pub record SteadyFeed : Type 0 where
  pub left : List ℕ
  pub piece : ℕ

-- a sink: the bytes taken, how many it has room for, the most that a write takes, and as for a source
pub record Store : Type 0 where
  pub got : List ℕ
  pub room : ℕ
  pub piece : ℕ
  pub fails : List ℕ
  pub calls : ℕ
  pub faults : ℕ

-- the number of the next call, counted from 1, stands in the list
abbrev pub FailsNext : List ℕ → ℕ → Type 0
FailsNext fails calls = Contains fails (calls + 1)

-- after a read that failed
abbrev pub feed_failed : Feed → Feed
feed_failed f = record f { calls = one_more f.calls; faults = one_more f.faults }

-- after a read that gave n bytes
abbrev pub feed_gave : Feed → ℕ → Feed
feed_gave f n = record f { left = drop n f.left; calls = one_more f.calls }

-- the call is due to fail, or a piece that is not empty meets a full room
abbrev pub IsRefused : Store → List ℕ → Type 0
IsRefused s piece = FailsNext s.fails s.calls ⊎ ((length s.got ≡ s.room) × (piece ≢ []))

-- after a write or a flush that failed
abbrev pub store_failed : Store → Store
store_failed s = record s { calls = one_more s.calls; faults = one_more s.faults }

-- after a write that took these bytes, or a flush that took none
abbrev pub store_took : Store → List ℕ → Store
store_took s bytes = record s { got = s.got ++ bytes; calls = one_more s.calls }
