-- what stands above a chart
use Rattle.std.specs.Prelude.{◌++◌, ℕ, List, [], ◌∷◌, Option, codes, nat_le, if◌then◌else◌}
use Rattle.std.specs.Option.{option_map_or}
use Rattle.std.specs.Fmt.{decimal}
use Rattle.each_out.specs.Pieces.{joined}
use Rattle.round_changes.specs.Named.{RoundByNames}
use Rattle.round_changes.specs.Changes.{counts_of}
use Rattle.round_changes.specs.declared.changes.Counts.{Counts}

-- the number of the round, how many tasks are open of how many, and how many are in every plan
unfoldable pub open_line : ℕ → ℕ → ℕ → ℕ → List ℕ
open_line round open_tasks tasks bound = joined (
    (10 ∷ codes "<section>" ++ 10 ∷ codes "<h2>Round ") ∷ decimal round ∷ (codes "</h2>" ++ 10 ∷ codes "<p>") ∷ decimal open_tasks
    ∷ codes " of " ∷ decimal tasks ∷ codes " open, at least " ∷ decimal bound ∷ codes " in every plan: " ∷ [])

-- that this is proved best
unfoldable pub best_text : List ℕ
best_text = joined (codes "proved best</p>" ∷ [])

-- between which numbers the best one lies
unfoldable pub gap_text : ℕ → ℕ → List ℕ
gap_text open_tasks bound = joined (codes "not yet proved: between " ∷ decimal bound ∷ codes " and " ∷ decimal open_tasks ∷ codes "</p>" ∷ [])

-- whether this is proved best
abbrev pub proof_of : ℕ → ℕ → List ℕ
proof_of open_tasks bound = if nat_le open_tasks bound then best_text else gap_text open_tasks bound

-- how many jobs are different since the round before
unfoldable pub counts_line : Counts → List ℕ
counts_line c = joined (
    (10 ∷ codes "<p>since the round before: ") ∷ decimal c.moved ∷ codes " moved, " ∷ decimal c.others ∷ codes " by other teams, " ∷ decimal c.new
    ∷ codes " new, " ∷ decimal c.gone ∷ codes " gone</p>" ∷ [])

-- the same, if there was a round before
abbrev pub since_of : Option RoundByNames → RoundByNames → List ℕ
since_of before now = option_map_or (λ (old : RoundByNames). counts_line (counts_of old now)) before []

-- all of it
abbrev pub heading_of : ℕ → ℕ → ℕ → ℕ → Option RoundByNames → RoundByNames → List ℕ
heading_of round open_tasks tasks bound before now = (open_line round open_tasks tasks bound ++ proof_of open_tasks bound) ++ since_of before now
