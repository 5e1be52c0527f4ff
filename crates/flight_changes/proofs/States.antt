-- a state with one part changed is within the limits
use Rattle.std.proofs.Common.{◌≡◌, ◌≢◌, ◌<◌, ◌≤◌, ◌+◌, ◌++◌, List, [], ◌∷◌, Bool, length, map, filter, arith, sym, ap, subst, if◌then◌else◌}
use Rattle.std.specs.Prelude.{All, AllPairs}
use Rattle.std.proofs.lemmas.List.{length_push}
use Rattle.std.proofs.lemmas.List.Elements.{All-weaker, All-push, All-cons, All-head, All-tail, All-nil}
use Rattle.crew_terms.specs.Name.{IsName}
use Rattle.crew_terms.specs.Rules.{IsTeam, IsTask}
use Rattle.crew_terms.specs.declared.TheConstants.{MOST_PLACES, MOST_TEAMS, MOST_TASKS, LAST_MINUTE}
use Rattle.crew_terms.specs.declared.Team.{Team}
use Rattle.crew_terms.specs.declared.Task.{Task}
use Rattle.crew_terms.specs.Places.{team_at_home, task_in_place}
use Rattle.day_terms.specs.State.{DayState, Given}
use Rattle.flight_changes.specs.Limits.{IsState}
use Rattle.day_terms.specs.ByTest.{by_test}
use Rattle.flight_changes.proofs.Keyed.{Bytes}

-- what holds of each element and of v holds where v replaces some
pub all_replaced : {X : Type 0} (P : X → Type 0) (test : X → Bool) (v : X) (xs : List X) → P v → All P xs → All P (map (λ x. if test x then v else x) xs)
all_replaced P test v [] p all = All-nil P
all_replaced P test v (x ∷ xs) p all =
    let rest = all_replaced P test v xs p (All-tail P x xs all) in
    let new = map (λ x. if test x then v else x) xs in
    by_test (test x) (λ t.
    let e : map (λ x. if test x then v else x) (x ∷ xs) ≡ v ∷ new = ap (λ b. (if b then v else x) ∷ new) t in
    subst (All P) (sym e) (All-cons P v new p rest)) (λ t.
    let e : map (λ x. if test x then v else x) (x ∷ xs) ≡ x ∷ new = ap (λ b. (if b then v else x) ∷ new) t in
    subst (All P) (sym e) (All-cons P x new (All-head P x xs all) rest))

pub length_filter : {X : Type 0} (test : X → Bool) (xs : List X) → length (filter test xs) ≤ length xs
length_filter test [] = omega arith
length_filter test (x ∷ xs) =
    let r = length_filter test xs in
    by_test (test x) (λ t. rw t (omega arith)) (λ t. rw t (omega arith))

module _ (s : DayState) (is : IsState s) where
  pub place_more : (name : Bytes) → length s.places < MOST_PLACES → IsName name → AllPairs (λ a b. a ≢ b) (s.places ++ name ∷ []) → IsState (record s { places = s.places ++ name ∷ [] })
  place_more name room spelled new =
      let n = length_push s.places name in
      record {
        parts = record {
          few_places = omega arith;
          few_teams = is.parts.few_teams;
          few_tasks = is.parts.few_tasks;
          places = All-push IsName s.places name is.parts.places spelled;
          teams = rw n (All-weaker (IsTeam (length s.places)) (IsTeam (length s.places + 1)) (team_at_home (length s.places)) s.teams is.parts.teams);
          tasks = rw n (All-weaker (IsTask (length s.places)) (IsTask (length s.places + 1)) (task_in_place (length s.places)) s.tasks is.parts.tasks);
          place_names = new;
          team_names = is.parts.team_names;
          task_names = is.parts.task_names;
        };
        times = is.times;
        default_minutes = is.default_minutes;
      }

  pub other_teams : (ts : List Team) → length ts ≤ MOST_TEAMS → All (IsTeam (length s.places)) ts → AllPairs (λ (a b : Team). a.name ≢ b.name) ts → IsState (record s { teams = ts })
  other_teams ts few all names = record {
    parts = record {
      few_places = is.parts.few_places;
      few_teams = few;
      few_tasks = is.parts.few_tasks;
      places = is.parts.places;
      teams = all;
      tasks = is.parts.tasks;
      place_names = is.parts.place_names;
      team_names = names;
      task_names = is.parts.task_names;
    };
    times = is.times;
    default_minutes = is.default_minutes;
  }

  pub other_tasks : (ts : List Task) → length ts ≤ MOST_TASKS → All (IsTask (length s.places)) ts → AllPairs (λ (a b : Task). a.name ≢ b.name) ts → IsState (record s { tasks = ts })
  other_tasks ts few all names = record {
    parts = record {
      few_places = is.parts.few_places;
      few_teams = is.parts.few_teams;
      few_tasks = few;
      places = is.parts.places;
      teams = is.parts.teams;
      tasks = all;
      place_names = is.parts.place_names;
      team_names = is.parts.team_names;
      task_names = names;
    };
    times = is.times;
    default_minutes = is.default_minutes;
  }

  pub other_times : (ts : List Given) → All (λ g. g.minutes ≤ LAST_MINUTE) ts → IsState (record s { times = ts })
  other_times ts all = record { parts = is.parts; times = all; default_minutes = is.default_minutes }
