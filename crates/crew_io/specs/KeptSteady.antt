-- what the fields of a source that never fails stand for
use Rattle.std.specs.Prelude.{◌≤◌, length, drop}
use Rattle.crew_io.specs.Memory.{SteadyFeed}
use Rattle.crew_io.specs.declared.source.SteadySource.TheInside.{Inside}

-- the bytes from at on are left
abbrev pub steady_of : Inside → SteadyFeed
steady_of a = record { left = drop a.at a.bytes.items; piece = a.piece }

-- what was given lies in the bytes, and a read gives something
pub record IsSteady (a : Inside) : Type 0 where
  pub within : a.at ≤ length a.bytes.items
  pub some : 1 ≤ a.piece
