-- the minutes at which uses begin a task, as they are gathered
use Rattle.std.specs.Prelude.{◌≡◌, ◌≤◌, ◌<◌, ◌+◌, ◌/◌, ℕ, List, Option, None, Some, min, max}
use Rattle.branch_choice.specs.Uses.{AreEnds, BeginsAt}
use Rattle.branch_choice.specs.declared.ends.Ends.{Ends}
use Rattle.branch_choice.specs.declared.uses.Use.{Use}

-- the ends of the uses of task j, or none where it has no uses
abbrev pub AreEndsAt : List Use → ℕ → Option Ends → Type 0
AreEndsAt uses j None = (t : ℕ) → BeginsAt uses j t → ⊥
AreEndsAt uses j (Some ends) = AreEnds uses j ends.least ends.greatest

-- the ends with one minute more
abbrev pub widened_ends : Option Ends → ℕ → Ends
widened_ends None t = record { least = t; greatest = t }
widened_ends (Some ends) t = record { least = min ends.least t; greatest = max ends.greatest t }

-- there are no two minutes
abbrev pub AreTogether : Option Ends → Type 0
AreTogether None = Unit {0}
AreTogether (Some ends) = ends.greatest ≤ ends.least

-- the ends differ, and the cut is half their sum
abbrev pub IsMiddle : Option Ends → ℕ → Type 0
IsMiddle None cut = ⊥
IsMiddle (Some ends) cut = (ends.least < ends.greatest) × (cut ≡ (ends.least + ends.greatest) / 2)
