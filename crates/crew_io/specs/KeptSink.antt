-- what the fields of a sink in memory stand for
use Rattle.std.specs.Prelude.{◌≤◌, length, take}
use Rattle.crew_io.specs.Memory.{Store}
use Rattle.crew_io.specs.declared.sink.MemSink.TheInside.{Inside}

-- the first len bytes were taken
abbrev pub store_of : Inside → Store
store_of a = record { got = take a.len a.bytes.items; room = length a.bytes.items; piece = a.piece; fails = a.script.fails.items; calls = a.script.calls; faults = a.script.faults }

-- what was taken lies in the room, and a write takes something
pub record IsStore (a : Inside) : Type 0 where
  pub within : a.len ≤ length a.bytes.items
  pub some : 1 ≤ a.piece
