-- what the front of a line stands for
use Rattle.std.specs.Prelude.{ℕ, List}
use Rattle.crew_terms.specs.Words.{IsLine}
use Rattle.trial_command.specs.declared.line_front.LineFront.TheInside.{Inside}

-- its bytes
abbrev pub bytes_of : Inside → List ℕ
bytes_of a = a.bytes.items

-- they are of a line
abbrev pub IsFrontOfLine : Inside → Type 0
IsFrontOfLine a = IsLine a.bytes.items
