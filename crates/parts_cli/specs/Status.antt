-- how a call ended
use Rattle.std.specs.Prelude.{ℕ, Bool, true, false, Result, Ok, Err}
use Rattle.dossier_commands.specs.declared.read.Ended.{Ended}
use Rattle.dossier_commands.specs.declared.read.Ended.TheVariants as check
use Rattle.bundle_command.specs.declared.command.PiecesEnded.{PiecesEnded}
use Rattle.bundle_command.specs.declared.command.PiecesEnded.TheVariants as pieces
use Rattle.parts_cli.specs.declared.status.Status.{Status}
use Rattle.parts_cli.specs.declared.status.Status.TheVariants.{Done, No, Words, ReadFault, WriteFault, Memory, Unproved}

-- the exit status of the program
abbrev pub number_of : Status → ℕ
number_of Done = 0
number_of No = 1
number_of Words = 2
number_of ReadFault = 4
number_of WriteFault = 5
number_of Memory = 6
number_of Unproved = 7

-- the work was done to the end of the input
abbrev pub is_done : Status → Bool
is_done Done = true
is_done Unproved = true
is_done _ = false

-- the status of a check of bundles that ended so, or for which memory was wanting
abbrev pub check_status : {E : Type 0} → Result Ended E → Status
check_status (Ok check.Done) = Done
check_status (Ok check.No) = No
check_status (Ok check.ReadFault) = ReadFault
check_status (Ok check.WriteFault) = WriteFault
check_status (Err fault) = Memory

-- the status of a command that writes a text for each dossier and ended so, or for which memory was wanting
abbrev pub pieces_status : {E : Type 0} → Result PiecesEnded E → Status
pieces_status (Ok pieces.Proved) = Done
pieces_status (Ok pieces.Open) = Unproved
pieces_status (Ok pieces.No) = No
pieces_status (Ok pieces.ReadFault) = ReadFault
pieces_status (Ok pieces.WriteFault) = WriteFault
pieces_status (Err fault) = Memory
