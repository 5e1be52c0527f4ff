-- what the fields of a reader stand for
use Rattle.std.specs.Prelude.{◌≡◌, ◌≤◌, length, slice_range}
use Rattle.crew_io.specs.Lines.{Reader, NoFeed}
use Rattle.crew_io.specs.declared.lines.LineReader.TheInside.{Inside}
use Rattle.crew_io.specs.declared.lines.TheConstants.{ROOM}

-- what is held and the last line, as lists of bytes, and the counts
abbrev pub reader_of : Inside → Reader
reader_of a = record { limit = a.limit; handed = a.handed; held = slice_range a.buf.items a.at a.end; line = slice_range a.buf.items a.line_from a.line_to; stopped = a.stopped }

-- the line and what is held lie within the room, and what was searched has no LF
pub record IsReader (a : Inside) : Type 0 where
  pub room : length a.buf.items ≡ ROOM
  pub line : a.line_from ≤ a.line_to
  pub line_in : a.line_to ≤ a.end
  pub held : a.at ≤ a.searched
  pub searched : a.searched ≤ a.end
  pub within : a.end ≤ ROOM
  pub plain : NoFeed (slice_range a.buf.items a.at a.searched)
  pub handed : a.handed ≤ a.limit
