-- the faults of a day, each with its line
use Rattle.std.specs.Prelude.{ℕ, List, map}
use Rattle.std.specs.List.{flat_map}
use Rattle.crew_io.specs.Lines.{NoFeed}
use Rattle.day_faults.specs.declared.faults.Fault.{Fault}
use Rattle.day_faults.specs.declared.faults.FaultyRecord.{FaultyRecord}
use Rattle.day_explain.specs.declared.told.Placed.{Placed}
use Rattle.day_explain.specs.declared.told.Told.{Told}

-- a fault that is told, with its line
abbrev pub placed_of : Told → Placed
placed_of told = told.placed

-- it is told in one line
abbrev pub IsOneLine : Told → Type 0
IsOneLine told = NoFeed told.hint.items

-- a fault of a record that begins on this line
abbrev pub placed_at : ℕ → Fault → Placed
placed_at line fault = record { line = line; fault = fault }

-- the faults of a record, each with the line on which the record begins
abbrev pub record_placed : FaultyRecord → List Placed
record_placed r = map (placed_at r.span.line) r.faults.items

-- the faults of records, in order
abbrev pub faults_placed : List FaultyRecord → List Placed
faults_placed records = flat_map record_placed records
