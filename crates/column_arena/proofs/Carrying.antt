-- the routes that are kept, keeps they are placed one by one
use Rattle.std.proofs.Common.{◌≡◌, ◌≢◌, ◌<◌, ◌+◌, ℕ, zero, suc, List, [], ◌∷◌, ◌++◌, length, map, take, get_or, All, sym, ap, subst, ◌∙◌, arith}
use Rattle.std.specs.Prelude.{AllPairs, Result, Ok, Err, OnErr}
use Rattle.std.proofs.lemmas.List.{get_or_default, get_or-map, get_or-take, length-map, length-take-le, take_more}
use Rattle.crew_terms.specs.Instance.{Instance}
use Rattle.crew_terms.specs.Limits.{IsRoute, Limits, Route, teams_in, tasks_in}
use Rattle.crew_terms.specs.Rules.{IsInstance}
use Rattle.crew_terms.specs.declared.Task.{Task}
use Rattle.crew_terms.specs.declared.Team.{Team}
use Rattle.crew_terms.specs.declared.Visit.{Visit}
use Rattle.route_terms.specs.Kept.{AreKeptIn, IsKeptAs}
use Rattle.route_terms.specs.Kept.AreKeptIn.{None, Kept, Left}
use Rattle.route_terms.specs.NameLaws.{one_route}
use Rattle.route_terms.specs.Named.{IsOfInstance, NamedRoute, NamedVisit, by_names, name_of, route_named, task_names, team_names, visit_named}
use Rattle.column_arena.specs.Carried.{AreCarried, AreRenumbered, IsRenumbered, TwoNames}
use Rattle.route_terms.specs.Routes.{IsNew, route_of}
use Rattle.column_arena.specs.Columns.{FitsColumns, IsAdded, column_of, no_column}
use Rattle.column_arena.specs.Columns.IsAdded.{Stood, Last}

abbrev pub no_name : NamedRoute
no_name = record { team = []; visits = [] }

abbrev named_by : List ℕ → List NamedVisit → NamedRoute
named_by team visits = record { team = team; visits = visits }

-- ---- kept routes, with one more at the end

module _ (n : Limits) where
  pub kept_none : (carried : List NamedRoute) (kept : List Route) (named : NamedRoute) → AreKeptIn n carried kept → ((r : Route) → IsKeptAs n named r → ⊥)
      → AreKeptIn n (carried ++ named ∷ []) kept
  kept_none carried kept named None none = Left named none None
  kept_none carried kept named (Kept first r is rest) none = Kept first r is (kept_none _ _ named rest none)
  kept_none carried kept named (Left first not rest) none = Left first not (kept_none _ _ named rest none)

  pub kept_one : (carried : List NamedRoute) (kept : List Route) (named : NamedRoute) (s : Route) → AreKeptIn n carried kept → IsKeptAs n named s
      → AreKeptIn n (carried ++ named ∷ []) (kept ++ s ∷ [])
  kept_one carried kept named s None keeps = Kept named s keeps None
  kept_one carried kept named s (Kept first r is rest) keeps = Kept first r is (kept_one _ _ named s rest keeps)
  kept_one carried kept named s (Left first not rest) keeps = Left first not (kept_one _ _ named s rest keeps)

  -- a kept route has the names of one that is carried
  kept_named : (carried : List NamedRoute) (kept : List Route) → AreKeptIn n carried kept → (k : ℕ) (d : Route) → k < length kept
      → (m : ℕ) × (m < length carried) × (get_or carried m no_name ≡ by_names n.instance (get_or kept k d))
  kept_named carried kept None k d below = absurd (omega arith)
  kept_named carried kept (Kept first r is rest) zero d below = (0, omega arith, sym is.names)
  kept_named carried kept (Kept first r is rest) (suc k) d below =
      let (m, l, e) = kept_named _ _ rest k d (omega arith) in (suc m, omega arith, e)
  kept_named carried kept (Left first not rest) k d below =
      let (m, l, e) = kept_named _ _ rest k d below in (suc m, omega arith, e)

module _ (n : Limits) (carried : List NamedRoute) (m : ℕ) (below : m < length carried) (kept : List Route) (so : AreKeptIn n (take m carried) kept) where
  pub kept_skip : ((r : Route) → IsKeptAs n (get_or carried m no_name) r → ⊥) → AreKeptIn n (take (m + 1) carried) kept
  kept_skip none = subst (λ front. AreKeptIn n front kept) (sym (take_more carried m no_name below)) (kept_none n (take m carried) kept (get_or carried m no_name) so none)

  kept_push : (r : Route) → IsKeptAs n (get_or carried m no_name) r → AreKeptIn n (take (m + 1) carried) (kept ++ r ∷ [])
  kept_push r is = subst (λ front. AreKeptIn n front (kept ++ r ∷ [])) (sym (take_more carried m no_name below)) (kept_one n (take m carried) kept (get_or carried m no_name) r so is)

  -- a route with other names than all before is no column yet
  kept_fresh : (r : Route) → AllPairs (λ a b. a ≢ b) carried → IsKeptAs n (get_or carried m no_name) r → IsNew kept r
  kept_fresh r apart is k d less e =
      let (h, l, same) = kept_named n (take m carried) kept so k d less in
      let long : length (take m carried) ≡ m = length-take-le m carried (omega arith) in
      let under : h < m = omega arith in
      apart h m no_name under below (sym (get_or-take m carried h no_name under) ∙ same ∙ ap (by_names n.instance) e ∙ is.names)

  pub kept_added : (r : Route) (new : List Route) (id : ℕ) → AllPairs (λ a b. a ≢ b) carried → IsKeptAs n (get_or carried m no_name) r → IsAdded kept r id new
      → AreKeptIn n (take (m + 1) carried) new
  kept_added r new id apart is (Stood known e same) = absurd (kept_fresh r apart is id no_column known e)
  kept_added r new id apart is (Last fresh number last) = subst (AreKeptIn n (take (m + 1) carried)) (sym last) (kept_push r is)

-- ---- the route of the limits that has the names of one that is carried

module _ (n : Limits) (is : IsInstance n.instance) (teams tasks : TwoNames) (e : teams.new ≡ team_names n.instance) (f : tasks.new ≡ task_names n.instance) (old : Route) where
  abbrev the_name : NamedRoute
  the_name = route_named teams.old tasks.old old

  many_teams : length teams.new ≡ teams_in n
  many_teams = ap length e ∙ length-map n.instance.teams (λ (t : Team). t.name)

  many_tasks : length tasks.new ≡ tasks_in n
  many_tasks = ap length f ∙ length-map n.instance.tasks (λ (t : Task). t.name)

  renumbered_team : (r : Route) → IsKeptAs n the_name r → IsRenumbered teams old.team r.team
  renumbered_team r keeps = record {
    known = let l = keeps.exists.team in omega (arith, many_teams);
    name = ap (λ names. name_of names r.team) e ∙ ap (λ (named : NamedRoute). named.team) keeps.names;
  }

  renumbered_visits : (r : Route) → IsKeptAs n the_name r → AreRenumbered tasks old.visits r.visits
  renumbered_visits r keeps = record {
    known = subst (λ m. All (λ (v : Visit). v.task < m) r.visits) (sym many_tasks) keeps.exists.tasks;
    named = ap (λ names. map (visit_named names) r.visits) f ∙ ap (λ (named : NamedRoute). named.visits) keeps.names;
  }

  pub no_team : ((k : ℕ) → IsRenumbered teams old.team k → ⊥) → (r : Route) → IsKeptAs n the_name r → ⊥
  no_team none r keeps = none r.team (renumbered_team r keeps)

  pub no_visits : ((vs : List Visit) → AreRenumbered tasks old.visits vs → ⊥) → (r : Route) → IsKeptAs n the_name r → ⊥
  no_visits none r keeps = none r.visits (renumbered_visits r keeps)

  module _ (k : ℕ) (vs : List Visit) (team : IsRenumbered teams old.team k) (visits : AreRenumbered tasks old.visits vs) where
    exists : IsOfInstance n.instance (route_of k vs)
    exists = record {
      team = let l = team.known in omega (arith, many_teams);
      tasks = subst (λ m. All (λ (v : Visit). v.task < m) vs) many_tasks visits.known;
    }

    names : by_names n.instance (route_of k vs) ≡ the_name
    names =
        let first : name_of (team_names n.instance) k ≡ name_of teams.old old.team = ap (λ names. name_of names k) (sym e) ∙ team.name in
        let others : map (visit_named (task_names n.instance)) vs ≡ map (visit_named tasks.old) old.visits =
        ap (λ names. map (visit_named names) vs) (sym f) ∙ visits.named in
        ap (λ t. named_by t (map (visit_named (task_names n.instance)) vs)) first ∙ ap (named_by (name_of teams.old old.team)) others

    pub is_kept : IsRoute n k vs → IsKeptAs n the_name (route_of k vs)
    is_kept legal = record { exists = exists; names = names; route = legal }

    pub no_route : (IsRoute n k vs → ⊥) → (r : Route) → IsKeptAs n the_name r → ⊥
    no_route not r keeps =
        let same : r ≡ route_of k vs = one_route n.instance is r (route_of k vs) keeps.exists exists (keeps.names ∙ sym names) in
        not (subst (λ (s : Route). IsRoute n s.team s.visits) same keeps.route)

-- ---- columns by names, and back

-- a kept route has as many visits as the one that has its names
pub some_visits : (n : Limits) (teams tasks : List (List ℕ)) (old r : Route) → 0 < length old.visits → IsKeptAs n (route_named teams tasks old) r → 0 < length r.visits
some_visits n teams tasks old r some keeps =
    let long : length r.visits ≡ length old.visits = sym (length-map r.visits (visit_named (task_names n.instance)))
    ∙ ap (λ (c : NamedRoute). length c.visits) keeps.names ∙ length-map old.visits (visit_named tasks) in omega arith

at_map : (teams tasks : List (List ℕ)) (cs : List Route) (k : ℕ) (d : NamedRoute) → k < length cs
    → get_or (map (route_named teams tasks) cs) k d ≡ route_named teams tasks (column_of cs k)
at_map teams tasks cs k d below = get_or-map (route_named teams tasks) cs k no_column d below

-- what is carried at this number, by the names that it was carried with
pub named_at : (ts js : List (List ℕ)) (rs : List Route) (id : ℕ) (teams tasks : TwoNames) (r : Route) → id < length rs → teams.old ≡ ts → tasks.old ≡ js
    → r ≡ get_or rs id r → route_named teams.old tasks.old r ≡ get_or (map (route_named ts js) rs) id no_name
named_at ts js rs id teams tasks r below e f at =
    ap (λ names. route_named names tasks.old r) e ∙ ap (λ names. route_named ts names r) f
    ∙ ap (route_named ts js) (at ∙ get_or_default rs id r no_column below) ∙ sym (at_map ts js rs id no_name below)

pub carried : (i : Instance) → IsInstance i → (cs : List Route) → All (IsOfInstance i) cs → All FitsColumns cs → AllPairs (λ a b. a ≢ b) cs → AreCarried (team_names i) (task_names i) cs
carried i is cs of_i fit apart = record {
  each = λ k d below. record {
    team = let l = (of_i k d below).team in omega (arith, length-map i.teams (λ (t : Team). t.name));
    some = (fit k d below).some;
    tasks_known = subst (λ m. All (λ (v : Visit). v.task < m) (get_or cs k d).visits) (sym (length-map i.tasks (λ (t : Task). t.name))) (of_i k d below).tasks;
  };
  apart = λ k l d less below e.
      let long = length-map cs (by_names i) in
      let b : l < length cs = omega arith in
      let a : k < length cs = omega arith in
      apart k l no_column less b
      (one_route i is (column_of cs k) (column_of cs l) (of_i k no_column a) (of_i l no_column b)
      (sym (at_map (team_names i) (task_names i) cs k d a) ∙ e ∙ at_map (team_names i) (task_names i) cs l d b));
}

-- ---- the ends of placing

pub on_err : {T E P : Type 0} (r : Result T E) → P → OnErr r P
on_err (Ok x) p = tt
on_err (Err e) p = p

-- before the first route, none is placed
pub none_placed : (n : Limits) (carried : List NamedRoute) (kept : List Route) → kept ≡ [] → (m : ℕ) × AreKeptIn n (take m carried) kept
none_placed n carried kept none = (0, subst (AreKeptIn n []) (sym none) None)
