-- teams and tasks that stand, and a change of one
use Rattle.std.proofs.Common.{◌≡◌, true, List, Some, is_some, map, sym, ap, ◌∙◌}
use Rattle.std.specs.Prelude.{find}
use Rattle.std.proofs.lemmas.Map.Made.{IsDistinct-from_AllPairs}
use Rattle.std.proofs.lemmas.Slice.Eq.{bytes_eq-Decides}
use Rattle.crew_terms.specs.declared.Team.{Team}
use Rattle.crew_terms.specs.declared.Task.{Task}
use Rattle.day_terms.specs.State.{DayState, is_team, is_task, has_team, has_task, with_changed_team, with_changed_task}
use Rattle.flight_changes.specs.Limits.{IsState}
use Rattle.flight_changes.proofs.Keyed.{Bytes, changed_one, found_has, is_some_find, named_pairs, same_bytes}

module _ (s : DayState) (is : IsState s) (name : Bytes) (old : Team) (found : find (is_team name) s.teams ≡ Some old) where
  pub team_name : name ≡ old.name
  team_name = same_bytes name old.name (found_has (λ (t : Team). t.name) s.teams name old found)

  pub team_stands : has_team s old.name ≡ true
  team_stands = ap (has_team s) (sym team_name) ∙ sym (is_some_find (λ (t : Team). t.name) s.teams (is_team name)) ∙ ap is_some found

  -- the changed team in its place is the change of the one that has the name
  pub team_changed : (change : Team → Team) → with_changed_team s old.name (λ _. change old) ≡ with_changed_team s name change
  team_changed change =
      let with : List Team → DayState = λ ts. record s { teams = ts } in
      let d = IsDistinct-from_AllPairs bytes_eq-Decides (map (λ t. t.name) s.teams) (named_pairs (λ t. t.name) s.teams is.parts.team_names) in
      ap (λ n. with_changed_team s n (λ _. change old)) (sym team_name) ∙ ap with (changed_one (λ t. t.name) s.teams name change old d found)

module _ (s : DayState) (is : IsState s) (name : Bytes) (old : Task) (found : find (is_task name) s.tasks ≡ Some old) where
  pub task_name : name ≡ old.name
  task_name = same_bytes name old.name (found_has (λ (t : Task). t.name) s.tasks name old found)

  pub task_stands : has_task s old.name ≡ true
  task_stands = ap (has_task s) (sym task_name) ∙ sym (is_some_find (λ (t : Task). t.name) s.tasks (is_task name)) ∙ ap is_some found

  -- the changed task in its place is the change of the one that has the name
  pub task_changed : (change : Task → Task) → with_changed_task s old.name (λ _. change old) ≡ with_changed_task s name change
  task_changed change =
      let with : List Task → DayState = λ ts. record s { tasks = ts } in
      let d = IsDistinct-from_AllPairs bytes_eq-Decides (map (λ t. t.name) s.tasks) (named_pairs (λ t. t.name) s.tasks is.parts.task_names) in
      ap (λ n. with_changed_task s n (λ _. change old)) (sym task_name) ∙ ap with (changed_one (λ t. t.name) s.tasks name change old d found)
