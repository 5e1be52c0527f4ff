-- a day that is refused is not fine
use Rattle.std.proofs.Common.{ℕ, List, Some, arith}
use Rattle.day_commands.specs.Legal.{may_have}
use Rattle.day_commands.specs.Outputs.{MayHave, TextsOf}
use Rattle.day_commands.specs.Rounds.{IsFineDay, IsRefusedOutput, IsTooLong, IsStopped, change_stop}
use Rattle.day_commands.specs.declared.ended.DayOutput.{DayOutput}

-- where the output refuses it, it is not fine
pub refused_not_fine : (output : DayOutput) (text written : List ℕ) → IsRefusedOutput change_stop (TextsOf output) text written → IsFineDay change_stop (MayHave output) text → ⊥
refused_not_fine output text written (IsTooLong more is) fine = let b = fine.0 in absurd (omega arith)
refused_not_fine output text written (IsStopped within plans rounds stop c stay lines texts is) fine =
    absurd (let e = fine.1 plans rounds (Some stop) c (may_have output plans rounds lines texts) in cc)
