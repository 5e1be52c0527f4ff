-- what the fields of a source in memory stand for
use Rattle.std.specs.Prelude.{◌≤◌, length, drop}
use Rattle.crew_io.specs.Memory.{Feed}
use Rattle.crew_io.specs.declared.source.MemSource.TheInside.{Inside}

-- the bytes from at on are left
abbrev pub feed_of : Inside → Feed
feed_of a = record { left = drop a.at a.bytes.items; piece = a.piece; fails = a.script.fails.items; calls = a.script.calls; faults = a.script.faults }

-- what was given lies in the bytes, and a read gives something
pub record IsFeed (a : Inside) : Type 0 where
  pub within : a.at ≤ length a.bytes.items
  pub some : 1 ≤ a.piece
