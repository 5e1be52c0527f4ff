-- names mean one route: since the names of an instance differ, a route is known by them
use Rattle.std.proofs.Common.{◌≡◌, ◌≢◌, ◌<◌, inl, inr, ℕ, List, [], ◌∷◌, length, map, get_or, All, sym, ap, refl, ◌∙◌}
use Rattle.std.proofs.Math.ListN.{get_or-map}
use Rattle.std.specs.Prelude.{AllPairs}
use Rattle.std.proofs.lemmas.Bool.{cases_order}
use Rattle.std.proofs.lemmas.List.Elements.{All-head, All-tail}
use Rattle.crew_terms.specs.Instance.{Instance, team_of, task_of, no_team, no_task}
use Rattle.crew_terms.specs.Limits.{Route}
use Rattle.crew_terms.specs.Rules.{IsInstance}
use Rattle.crew_terms.specs.declared.Team.{Team}
use Rattle.crew_terms.specs.declared.Task.{Task}
use Rattle.crew_terms.specs.declared.Visit.{Visit}
use Rattle.route_terms.specs.KeyLaws.{visit_at}
use Rattle.route_terms.specs.Routes.{route_of}
use Rattle.route_terms.specs.Named.{IsOfInstance, NamedRoute, NamedVisit, by_names, name_of, task_names, team_names, visit_named}

-- the names of teams and tasks, at each number
pub team_name : (i : Instance) (k : ℕ) → name_of (team_names i) k ≡ (team_of i k).name
team_name i k = get_or-map (λ (t : Team). t.name) i.teams k no_team

pub task_name : (i : Instance) (j : ℕ) → name_of (task_names i) j ≡ (task_of i j).name
task_name i j = get_or-map (λ (t : Task). t.name) i.tasks j no_task

-- elements whose f differs stand at one place where f is the same
one_place : {A B : Type 0} (f : A → B) (xs : List A) (d : A) → AllPairs (λ a b. f a ≢ f b) xs → (i j : ℕ) → i < length xs → j < length xs
    → f (get_or xs i d) ≡ f (get_or xs j d) → i ≡ j
one_place f xs d apart i j a b e = elim (cases_order i j) [
  | inl same ↦ same
  | inr (inl less) ↦ absurd (apart i j d less b e)
  | inr (inr more) ↦ absurd (apart j i d more a (sym e))
]

module _ (i : Instance) (is : IsInstance i) where
  pub one_team : (k l : ℕ) → k < length i.teams → l < length i.teams → name_of (team_names i) k ≡ name_of (team_names i) l → k ≡ l
  one_team k l a b e =
      one_place (λ (t : Team). t.name) i.teams no_team is.parts.team_names k l a b (sym (team_name i k) ∙ e ∙ team_name i l)

  pub one_task : (j h : ℕ) → j < length i.tasks → h < length i.tasks → name_of (task_names i) j ≡ name_of (task_names i) h → j ≡ h
  one_task j h a b e =
      one_place (λ (t : Task). t.name) i.tasks no_task is.parts.task_names j h a b (sym (task_name i j) ∙ e ∙ task_name i h)

  one_visit : (v w : Visit) → v.task < length i.tasks → w.task < length i.tasks → visit_named (task_names i) v ≡ visit_named (task_names i) w → v ≡ w
  one_visit v w a b e =
      let task : v.task ≡ w.task = one_task v.task w.task a b (ap (λ (c : NamedVisit). c.task) e) in
      ap (λ t. visit_at t v.start) task ∙ ap (visit_at w.task) (ap (λ (c : NamedVisit). c.start) e)

  abbrev AreKnown : List Visit → Type 0
  AreKnown vs = All (λ (v : Visit). v.task < length i.tasks) vs

  one_list : (vs ws : List Visit) → AreKnown vs → AreKnown ws → map (visit_named (task_names i)) vs ≡ map (visit_named (task_names i)) ws → vs ≡ ws
  one_list [] [] a b e = refl
  one_list [] (w ∷ ws) a b e = cc
  one_list (v ∷ vs) [] a b e = cc
  one_list (v ∷ vs) (w ∷ ws) a b e =
      let P = λ (v : Visit). v.task < length i.tasks in
      let head : visit_named (task_names i) v ≡ visit_named (task_names i) w = cc in
      let tail : map (visit_named (task_names i)) vs ≡ map (visit_named (task_names i)) ws = cc in
      let first = one_visit v w (All-head P v vs a) (All-head P w ws b) head in
      let rest = one_list vs ws (All-tail P v vs a) (All-tail P w ws b) tail in
      cc

  -- routes of the instance that have the same names are equal
  pub one_route : (r s : Route) → IsOfInstance i r → IsOfInstance i s → by_names i r ≡ by_names i s → r ≡ s
  one_route r s a b e =
      let team : r.team ≡ s.team = one_team r.team s.team a.team b.team (ap (λ (c : NamedRoute). c.team) e) in
      let visits : r.visits ≡ s.visits = one_list r.visits s.visits a.tasks b.tasks (ap (λ (c : NamedRoute). c.visits) e) in
      ap (λ k. route_of k r.visits) team ∙ ap (route_of s.team) visits
