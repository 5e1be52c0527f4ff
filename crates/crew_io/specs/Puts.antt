-- what it means that a call writes a text, and what is said of faults where it does
use Rattle.std.specs.Prelude.{◌≡◌, ◌≤◌, ℕ, List, Result, OnOk, OnErr, IsErr}
use Rattle.crew_io.specs.Io.{Rose, Appended, AppendedPart}
use Rattle.crew_io.specs.declared.sink.Sink.{Ghosts}

-- the call writes this text: all of it, or where it fails a front of it; it fails only where the sink's count of faults
-- rose in it, and tells each fault that came; a sink that fails only where its room is used up is full where it fails
pub record Puts {K T E : Type 0} (sink : Ghosts K) (text : List ℕ) (old new : K) (result : Result T E) : Type 0 where
  pub all : OnOk result (Appended (sink.got old) (sink.got new) text)
  pub part : OnErr result (AppendedPart (sink.got old) (sink.got new) text)
  pub later : sink.faults old ≤ sink.faults new
  pub cause : IsErr result → Rose (sink.faults old) (sink.faults new)
  pub told : OnOk result (sink.faults new ≡ sink.faults old)
  pub steady : sink.steady old → sink.steady new × (IsErr result → sink.full new)

-- the same of faults alone, of a call that answers a write fault where this says so
pub record TellsWrites {K : Type 0} (sink : Ghosts K) (old new : K) (fault : Type 0) : Type 0 where
  pub cause : fault → Rose (sink.faults old) (sink.faults new)
  pub told : (fault → ⊥) → sink.faults new ≡ sink.faults old
  pub later : sink.faults old ≤ sink.faults new
  pub steady : sink.steady old → sink.steady new × (fault → sink.full new)
