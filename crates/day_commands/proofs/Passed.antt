-- what was written whole, and then could not be passed on
use Rattle.std.proofs.Common.{◌≡◌, Bool, ℕ, List, Option, sym, subst}
use Rattle.crew_io.specs.Fronts.{all_is_part}
use Rattle.crew_io.specs.Io.{AppendedPart}
use Rattle.day_terms.specs.declared.Entry.{Entry}
use Rattle.replan.specs.Planning.{Planning}
use Rattle.day_commands.specs.Taken.{IsTakenSo}
use Rattle.day_commands.specs.declared.ended.DayOutput.{DayOutput}
use Rattle.day_commands.specs.declared.entries.Taken.TheVariants.{Whole, WriteFault}

-- a round whose text was written and not passed on is one of which a front was written
pub held_back : (output : DayOutput) (s : Planning) (entry : Entry) (proved : Bool) (new : Planning) (got mid later : Option (List ℕ)) → IsTakenSo output s entry (Whole proved) new got mid → later ≡ mid
    → IsTakenSo output s entry WriteFault new got later
held_back output s entry proved new got mid later taken same =
    let w = taken.2 in
    (taken.0, (w.0, w.1, proved, new.handed, w.3, subst (λ m. AppendedPart got m w.1) (sym same) (all_is_part got mid w.1 w.4), w.5))
