-- laws of entries: which of them are refused, and which begin rounds
use Rattle.std.proofs.Common.{◌≡◌, ◌≢◌, ◌⊎◌, inl, inr, [], ℕ, Option, None, Some, sym, refl}
use Rattle.std.specs.Prelude.{option_map}
use Rattle.day_terms.specs.declared.Entry.{Entry}
use Rattle.day_terms.specs.declared.Entry.TheVariants.{Place, Travel, RouteTime, DefaultTravel, Team, Task, Cancel, Move, Longer, Needs, Sick, Shift, Skill, Unskill, Plan, Now, Thaw}
use Rattle.day_terms.specs.State.{DayState}
use Rattle.day_terms.specs.Refusal.{Refusal, TooMany, SameName, NoPlace, NoTask, NoTeam, BadWindow, BadShift, BadTeams, MissingTravel as Lacks, FrozenWork}
use Rattle.day_terms.specs.Rounds.{round_at}
use Rattle.flight_changes.specs.Faults.{fault_of}
use Rattle.flight_changes.specs.declared.faults.ChangeFault.{ChangeFault}
use Rattle.flight_changes.specs.declared.faults.ChangeFault.TheVariants.{OutOfMemory}

-- a fault other than want of memory is a refusal
pub refusal_known : (told : Option Refusal) (fault : ChangeFault) → (fault ≡ OutOfMemory) ⊎ (option_map fault_of told ≡ Some fault) → fault ≢ OutOfMemory
    → (t : Refusal) × (told ≡ Some t) × (fault ≡ fault_of t)
refusal_known told fault (inl want) n = absurd (n want)
refusal_known None fault (inr is) n = absurd (cc)
refusal_known (Some t) fault (inr is) n = (t, refl, (let e : fault_of t ≡ fault = cc in sym e))

-- a refusal is not told as want of memory
pub told_is_no_want : (t : Refusal) → fault_of t ≢ OutOfMemory
told_is_no_want TooMany e = cc
told_is_no_want SameName e = cc
told_is_no_want NoPlace e = cc
told_is_no_want NoTask e = cc
told_is_no_want NoTeam e = cc
told_is_no_want BadWindow e = cc
told_is_no_want BadShift e = cc
told_is_no_want BadTeams e = cc
told_is_no_want (Lacks from to) e = cc
told_is_no_want (FrozenWork task) e = cc

-- an entry that is none of a plan begins no round
pub no_round : (s : DayState) (entry : Entry) → ((nodes : ℕ) → entry ≢ Plan nodes) → round_at s entry ≡ []
no_round s (Place name) n = refl
no_round s (Travel from to minutes) n = refl
no_round s (RouteTime from to minutes) n = refl
no_round s (DefaultTravel minutes) n = refl
no_round s (Team name home from until skills) n = refl
no_round s (Task name place earliest latest minutes teams skills) n = refl
no_round s (Cancel task) n = refl
no_round s (Move task earliest latest) n = refl
no_round s (Longer task minutes) n = refl
no_round s (Needs task teams) n = refl
no_round s (Sick team) n = refl
no_round s (Shift team from until) n = refl
no_round s (Skill team skill) n = refl
no_round s (Unskill team skill) n = refl
no_round s (Plan nodes) n = absurd (n nodes refl)
no_round s (Now time) n = refl
no_round s (Thaw task) n = refl
