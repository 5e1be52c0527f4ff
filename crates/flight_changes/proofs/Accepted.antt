-- what holds where an entry is not refused
use Rattle.std.proofs.Common.{◌≡◌, ◌<◌, ◌≤◌, ◌-◌, ◌||◌, ℕ, Bool, true, false, not, List, [], ◌∷◌, None, length, nat_le, nat_lt, arith, refl}
use Rattle.std.proofs.lemmas.Bool.Decides.{nat_tests}
use Rattle.crew_terms.specs.Rules.{IsTeamCount}
use Rattle.crew_terms.specs.declared.TheConstants.{MOST_PLACES, MOST_TEAMS, MOST_TASKS, MOST_TEAMS_PER_TASK, WIDEST_WINDOW}
use Rattle.day_terms.specs.State.{DayState, has_place, has_team, has_task}
use Rattle.day_terms.specs.Refusal.{Refusal, TooMany, SameName, NoPlace, NoTask, NoTeam, BadWindow, BadShift, BadTeams, first_of, refusal_by_lists, is_bad_window, is_bad_count}
use Rattle.day_terms.specs.declared.Entry.TheVariants.{Place, Team, Task, Cancel, Move, Needs, Sick, Shift}

-- no first condition holds, so the first one fails, and none of the rest holds
pub passes : (b : Bool) (told : Refusal) (rows : List (Bool × Refusal)) → first_of ((b, told) ∷ rows) ≡ None → (b ≡ false) × (first_of rows ≡ None)
passes true told rows e = cc
passes false told rows e = (refl, e)

pub true_by_not : (b : Bool) → not b ≡ false → b ≡ true
true_by_not true e = refl
true_by_not false e = cc

pub below : (a b : ℕ) → nat_le a b ≡ false → b < a
below a b e = grind (arith, nat_tests)

-- the window is in order and not too wide
pub record IsGoodWindow (earliest latest : ℕ) : Type 0 where
  pub order : earliest ≤ latest
  pub width : latest - earliest ≤ WIDEST_WINDOW

pub neither : (a b : Bool) → a || b ≡ false → (a ≡ false) × (b ≡ false)
neither false false e = (refl, refl)
neither true b e = cc
neither false true e = cc

not_less : (a b : ℕ) → nat_lt a b ≡ false → b ≤ a
not_less a b e = grind (arith, nat_tests)

pub good_window : (earliest latest : ℕ) → is_bad_window earliest latest ≡ false → IsGoodWindow earliest latest
good_window earliest latest e =
    let n = neither _ _ e in
    record { order = not_less latest earliest n.0; width = not_less WIDEST_WINDOW (latest - earliest) n.1 }

pub good_count : (teams : ℕ) → is_bad_count teams ≡ false → IsTeamCount teams
good_count teams e =
    let n = neither _ _ e in
    record { some = not_less teams 1 n.0; few = not_less MOST_TEAMS_PER_TASK teams n.1 }

module _ (s : DayState) where
  pub place_accepted : (name : List ℕ) → refusal_by_lists s (Place name) ≡ None → (length s.places < MOST_PLACES) × (has_place s name ≡ false)
  place_accepted name e =
      let p = passes (nat_le MOST_PLACES (length s.places)) TooMany ((has_place s name, SameName) ∷ []) e in
      let q = passes (has_place s name) SameName [] p.1 in
      (below MOST_PLACES (length s.places) p.0, q.0)

  -- a team that may be added
  pub record IsNewTeam (name home : List ℕ) (from until : ℕ) : Type 0 where
    pub room : length s.teams < MOST_TEAMS
    pub new : has_team s name ≡ false
    pub home_known : has_place s home ≡ true
    pub shift : from < until

  pub team_accepted : (name home : List ℕ) (from until skills : ℕ) → refusal_by_lists s (Team name home from until skills) ≡ None → IsNewTeam name home from until
  team_accepted name home from until skills e =
      let bad = (nat_le until from, BadShift) ∷ [] in
      let none = (not (has_place s home), NoPlace) ∷ bad in
      let p = passes (nat_le MOST_TEAMS (length s.teams)) TooMany ((has_team s name, SameName) ∷ none) e in
      let q = passes (has_team s name) SameName none p.1 in
      let r = passes (not (has_place s home)) NoPlace bad q.1 in
      let t = passes (nat_le until from) BadShift [] r.1 in
      record { room = below MOST_TEAMS (length s.teams) p.0; new = q.0; home_known = true_by_not (has_place s home) r.0; shift = below until from t.0 }

  -- a task that may be added
  pub record IsNewTask (name place : List ℕ) (earliest latest teams : ℕ) : Type 0 where
    pub room : length s.tasks < MOST_TASKS
    pub new : has_task s name ≡ false
    pub place_known : has_place s place ≡ true
    pub window : IsGoodWindow earliest latest
    pub count : IsTeamCount teams

  pub task_accepted : (name place : List ℕ) (earliest latest minutes teams skills : ℕ) → refusal_by_lists s (Task name place earliest latest minutes teams skills) ≡ None → IsNewTask name place earliest latest teams
  task_accepted name place earliest latest minutes teams skills e =
      let count = (is_bad_count teams, BadTeams) ∷ [] in
      let window = (is_bad_window earliest latest, BadWindow) ∷ count in
      let none = (not (has_place s place), NoPlace) ∷ window in
      let p = passes (nat_le MOST_TASKS (length s.tasks)) TooMany ((has_task s name, SameName) ∷ none) e in
      let q = passes (has_task s name) SameName none p.1 in
      let r = passes (not (has_place s place)) NoPlace window q.1 in
      let t = passes (is_bad_window earliest latest) BadWindow count r.1 in
      let u = passes (is_bad_count teams) BadTeams [] t.1 in
      record {
        room = below MOST_TASKS (length s.tasks) p.0;
        new = q.0;
        place_known = true_by_not (has_place s place) r.0;
        window = good_window earliest latest t.0;
        count = good_count teams u.0;
      }

  pub task_known : (task : List ℕ) → refusal_by_lists s (Cancel task) ≡ None → has_task s task ≡ true
  task_known task e = true_by_not (has_task s task) (passes (not (has_task s task)) NoTask [] e).0

  pub move_accepted : (task : List ℕ) (earliest latest : ℕ) → refusal_by_lists s (Move task earliest latest) ≡ None → (has_task s task ≡ true) × IsGoodWindow earliest latest
  move_accepted task earliest latest e =
      let p = passes (not (has_task s task)) NoTask ((is_bad_window earliest latest, BadWindow) ∷ []) e in
      let q = passes (is_bad_window earliest latest) BadWindow [] p.1 in
      (true_by_not (has_task s task) p.0, good_window earliest latest q.0)

  pub needs_accepted : (task : List ℕ) (teams : ℕ) → refusal_by_lists s (Needs task teams) ≡ None → (has_task s task ≡ true) × IsTeamCount teams
  needs_accepted task teams e =
      let p = passes (not (has_task s task)) NoTask ((is_bad_count teams, BadTeams) ∷ []) e in
      let q = passes (is_bad_count teams) BadTeams [] p.1 in
      (true_by_not (has_task s task) p.0, good_count teams q.0)

  pub team_known : (team : List ℕ) → refusal_by_lists s (Sick team) ≡ None → has_team s team ≡ true
  team_known team e = true_by_not (has_team s team) (passes (not (has_team s team)) NoTeam [] e).0

  pub shift_accepted : (team : List ℕ) (from until : ℕ) → refusal_by_lists s (Shift team from until) ≡ None → (has_team s team ≡ true) × (from < until)
  shift_accepted team from until e =
      let p = passes (not (has_team s team)) NoTeam ((nat_le until from, BadShift) ∷ []) e in
      let q = passes (nat_le until from) BadShift [] p.1 in
      (true_by_not (has_team s team) p.0, below until from q.0)
