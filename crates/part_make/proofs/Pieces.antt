-- the instance of some tasks
use Rattle.std.proofs.Common.{◌≡◌, ◌≤◌, ◌<◌, ◌+◌, ◌∙◌, ℕ, zero, suc, List, length, get_or, map, ap, sym, subst, arith}
use Rattle.std.specs.Prelude.{All}
use Rattle.std.specs.List.Sorted.{IsStrictlyIncreasing}
use Rattle.std.proofs.lemmas.List.{get_or-map, length-map}
use Rattle.std.proofs.lemmas.List.Kept.{AllPairs-from_increasing}
use Rattle.crew_terms.specs.Instance.{Instance, minutes_between, no_task, task_of}
use Rattle.crew_terms.specs.Legal.{IsFeasible, IsLegal}
use Rattle.crew_terms.specs.Plan.{Plan, empty_plan}
use Rattle.crew_terms.specs.Rules.{AreParts, IsInstance, IsTask}
use Rattle.crew_terms.specs.Rising.{rises_at}
use Rattle.crew_terms.specs.declared.Task.{Task}
use Rattle.crew_terms.specs.declared.Team.{Team}
use Rattle.crew_terms.specs.declared.TheConstants.{MOST_TASKS}
use Rattle.part_terms.specs.Parts.{Restricts, cut_down}
use Rattle.part_make.specs.Tables.{AreWaysBy, minutes_in}
use Rattle.part_make.proofs.Ways.{for_all}

-- numbers that rise are at least as great as their places
at_least : (xs : List ℕ) → IsStrictlyIncreasing xs → (k : ℕ) → k < length xs → k ≤ get_or xs k 0
at_least xs rising zero l = omega arith
at_least xs rising (suc k) l =
    let before = at_least xs rising k (omega arith) in
    let step = rises_at xs rising k l in
    omega arith

-- so there are no more of them than there are numbers below their limit
pub no_more : (xs : List ℕ) (n : ℕ) → IsStrictlyIncreasing xs → All (λ x. x < n) xs → length xs ≤ n
no_more xs n rising below = by (length xs) (λ k l. let a = at_least xs rising k l in let b : get_or xs k 0 < n = below k 0 l in omega arith)
  where
    by : (m : ℕ) → ((k : ℕ) → k < m → k < n) → m ≤ n
    by zero h = omega arith
    by (suc m) h = let l = h m (omega arith) in omega arith

module _ (i : Instance) (is : IsInstance i) (tasks : List ℕ) (known : All (λ t. t < length i.tasks) tasks) (rising : IsStrictlyIncreasing tasks) where
  -- there are few of them
  pub few_tasks : length tasks ≤ MOST_TASKS
  few_tasks = let a = no_more tasks (length i.tasks) rising known in let b = is.parts.few_tasks in omega arith

  -- they are tasks of an instance
  pub are_parts : AreParts i.places i.teams (map (task_of i) tasks)
  are_parts = record {
    few_places = is.parts.few_places;
    few_teams = is.parts.few_teams;
    few_tasks = let a = few_tasks in omega (arith, long);
    places = is.parts.places;
    teams = is.parts.teams;
    tasks = λ k d l. subst (IsTask (length i.places)) (sym (at k d (omega (arith, long)))) (is.parts.tasks (get_or tasks k 0) no_task (known k 0 (omega (arith, long))));
    place_names = is.parts.place_names;
    team_names = is.parts.team_names;
    task_names = λ a b d l m e.
        is.parts.task_names (get_or tasks a 0) (get_or tasks b 0) no_task (AllPairs-from_increasing tasks rising a b 0 l (omega (arith, long))) (known b 0 (omega (arith, long)))
        (ap (λ (t : Task). t.name) (sym (at a d (omega (arith, long)))) ∙ e ∙ ap (λ (t : Task). t.name) (at b d (omega (arith, long))));
  }
    where
      long : length (map (task_of i) tasks) ≡ length tasks
      long = length-map tasks (task_of i)

      at : (k : ℕ) (d : Task) → k < length tasks → get_or (map (task_of i) tasks) k d ≡ task_of i (get_or tasks k 0)
      at k d l = get_or-map (task_of i) tasks k 0 d l

  module _ (ps : List (List ℕ)) (ts : List Team) (kept : List Task) (rows : List (List ℕ)) (f : Plan) (same_places : ps ≡ i.places) (same_teams : ts ≡ i.teams)
      (are_kept : kept ≡ map (task_of i) tasks) (ways : AreWaysBy i (length i.places) rows) (cut : f ≡ cut_down i.frozen tasks) where
    -- the instance
    abbrev pub part : Instance
    part = record { places = ps; teams = ts; tasks = kept; travel = rows; frozen = f }

    -- it restricts the whole
    pub restricts : Restricts i part tasks
    restricts = record {
      known = known;
      rising = rising;
      places = same_places;
      teams = same_teams;
      kept = are_kept;
      frozen = cut;
      times = record {
        shorter = for_all (length i.places) rows ways.times (minutes_between i) ways.shorter;
        triangle = λ a b c l.
            let here : b < length i.places = subst (λ (qs : List (List ℕ)). b < length qs) same_places l in
            for_all (length i.places) rows ways.times (λ x z. minutes_in rows x b + minutes_in rows b z) (λ x z k m. ways.ways x b z here k m) a c;
      };
    }

    -- its frozen jobs can be done, whichever are frozen
    pub are_done : ((i j : Instance) (tasks : List ℕ) (p : Plan) → IsInstance i → Restricts i j tasks → IsLegal i p → IsLegal j (cut_down p tasks))
        → ((i : Instance) (frozen p : Plan) → IsFeasible i p → IsFeasible (record i { frozen = frozen }) p)
        → IsFeasible (record { places = ps; teams = ts; tasks = kept; travel = rows; frozen = empty_plan (length kept) }) f
    are_done legal whatever =
        let done = legal i part tasks i.frozen is restricts (record { feasible = is.frozen; frozen = λ j job e. e }) in
        subst (IsFeasible (record { places = ps; teams = ts; tasks = kept; travel = rows; frozen = empty_plan (length kept) })) (sym cut)
        (whatever part (empty_plan (length kept)) (cut_down i.frozen tasks) done.feasible)
