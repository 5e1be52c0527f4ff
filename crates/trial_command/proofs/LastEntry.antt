-- the last entry of a generated day begins its one round
use Rattle.std.proofs.Common.{◌+◌, ◌*◌, ◌++◌, ℕ, zero, suc, List, [], ◌∷◌, refl}
use Rattle.std.specs.Prelude.{All}
use Rattle.std.proofs.lemmas.List.Elements.{All-nil, All-cons, All-append}
use Rattle.day_gen.specs.Draws.{generator_of, after}
use Rattle.day_gen.specs.Day.{generated_day, place_entries, task_draws, task_entries, task_entry, team_entries, team_entry, travel_entries, ways}
use Rattle.trial_command.specs.LastRound.{BeginsNoRound, EndsInRound}

places : (n count : ℕ) → All BeginsNoRound (place_entries n count)
places n zero = All-nil _
places n (suc more) = All-cons BeginsNoRound _ (place_entries (n + 1) more) (λ nodes e. cc) (places (n + 1) more)

travels : (g : _) (all : List (ℕ × ℕ)) → All BeginsNoRound (travel_entries g all)
travels g [] = All-nil _
travels g (way ∷ later) = All-cons BeginsNoRound _ (travel_entries (after 1 g) later) (λ nodes e. cc) (travels (after 1 g) later)

teams_of : (g : _) (k count : ℕ) → All BeginsNoRound (team_entries g k count)
teams_of g k zero = All-nil _
teams_of g k (suc more) = All-cons BeginsNoRound (team_entry g k) (team_entries (after 3 g) (k + 1) more) (λ nodes e. cc) (teams_of (after 3 g) (k + 1) more)

tasks_of : (g : _) (j count : ℕ) → All BeginsNoRound (task_entries g j count)
tasks_of g j zero = All-nil _
tasks_of g j (suc more) = All-cons BeginsNoRound (task_entry g j) (task_entries (after (task_draws g) g) (j + 1) more) (λ nodes e. cc) (tasks_of (after (task_draws g) g) (j + 1) more)

pub ends_in_round : (number teams tasks nodes : ℕ) → EndsInRound (generated_day number teams tasks nodes)
unfolding generated_day
ends_in_round number teams tasks nodes =
    let g = generator_of number in
    let a = place_entries 0 6 in
    let b = travel_entries g ways in
    let d = team_entries (after 15 g) 0 teams in
    let e = task_entries (after (3 * teams) (after 15 g)) 0 tasks in
    record {
      front = a ++ b ++ d ++ e;
      nodes = nodes;
      are = refl;
      no_round = All-append BeginsNoRound (a ++ b ++ d) e (All-append BeginsNoRound (a ++ b) d (All-append BeginsNoRound a b (places 0 6) (travels g ways)) (teams_of (after 15 g) 0 teams))
          (tasks_of (after (3 * teams) (after 15 g)) 0 tasks);
    }
