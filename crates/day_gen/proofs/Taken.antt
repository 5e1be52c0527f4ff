-- a new desk takes a generated day
use Rattle.std.proofs.Common.{◌≡◌, ◌≤◌, ◌<◌, ◌+◌, ◌-◌, ◌*◌, ◌^◌, ◌==◌, ◌||◌, ◌∷◌, ◌++◌, [], ℕ, zero, suc, List, Bool, true, false, not, None, length, ap, subst, sym, refl, ◌∙◌, length-append, arith}
use Rattle.std.specs.Prelude.{option_map, if◌then◌else◌}
use Rattle.std.specs.List.{fold}
use Rattle.std.specs.Option.{option_or}
use Rattle.std.specs.Fmt.{digits}
use Rattle.std.specs.Str.{bytes_eq}
use Rattle.std.proofs.lemmas.Bool.{lt-leb, le-ltb}
use Rattle.std.proofs.lemmas.List.Folds.{list_any-append}
use Rattle.std.proofs.lemmas.List.Sums.{fold-append}
use Rattle.crew_terms.specs.declared.TheConstants.{MOST_TASKS, MOST_TEAMS}
use Rattle.crew_terms.specs.Plan.{Plan as Jobs}
use Rattle.day_terms.specs.declared.Entry.{Entry}
use Rattle.day_terms.specs.declared.Entry.TheVariants.{Plan}
use Rattle.day_terms.specs.State.{DayState, start, has_place, has_team, has_task}
use Rattle.day_terms.specs.Entries.{after_entry, after_round, state_after}
use Rattle.day_terms.specs.Refusal.{Refusal, MissingTravel, FrozenWork, AreTaken, first_of, refusal_by_lists, refusal_of, work_against, is_bad_count}
use Rattle.day_terms.specs.Rounds.{first_missing}
use Rattle.rand_pcg.specs.Lcg.{Lcg}
use Rattle.day_gen.specs.Draws.{draw, after, generator_of}
use Rattle.day_gen.specs.Day.{place_name, place_entries, ways, travel_entries, team_name, team_entry, team_entries, task_name, task_entry, task_draws, task_entries, generated_day}
use Rattle.day_gen.proofs.Names.{numbered_differ}
use Rattle.day_gen.proofs.Ranges.{draw_below}

-- the state that entries come to, from a state on
abbrev pub after_all : DayState → List Entry → DayState
after_all s entries = fold after_entry s entries

taken-append : (s : DayState) (front back : List Entry) → AreTaken s front → AreTaken (after_all s front) back → AreTaken s (front ++ back)
taken-append s [] back front_taken back_taken = back_taken
taken-append s (x ∷ xs) back front_taken back_taken = (front_taken.0, taken-append (after_entry s x) xs back front_taken.1 back_taken)

-- where no job is frozen, frozen work forbids nothing
abbrev pub ForbidsNothing : Type 0
ForbidsNothing = (s : DayState) (entry : Entry) → s.frozen ≡ [] → work_against s entry ≡ None

accepted : ForbidsNothing → (s : DayState) (entry : Entry) → refusal_by_lists s entry ≡ None → s.frozen ≡ [] → refusal_of s entry ≡ None
accepted law s entry listed free = ap (λ refusal. option_or refusal (option_map FrozenWork (work_against s entry))) listed ∙ ap (option_map FrozenWork) (law s entry free)

-- none of these entries is refused by the lists that it comes to
abbrev AreListed : DayState → List Entry → Type 0
AreListed s [] = Unit {0}
AreListed s (x ∷ xs) = (refusal_by_lists s x ≡ None) × AreListed (after_entry s x) xs

-- each of them comes to a state without frozen jobs
abbrev AreFree : DayState → List Entry → Type 0
AreFree s [] = Unit {0}
AreFree s (x ∷ xs) = (s.frozen ≡ []) × AreFree (after_entry s x) xs

all_accepted : ForbidsNothing → (s : DayState) (entries : List Entry) → AreListed s entries → AreFree s entries → AreTaken s entries
all_accepted law s [] listed free = tt
all_accepted law s (x ∷ xs) listed free = (accepted law s x listed.0 free.0, all_accepted law (after_entry s x) xs listed.1 free.1)

-- six places and their times stand, so many teams and tasks, no name of a later one is there, and no job is frozen
record IsReady (s : DayState) (k j : ℕ) : Type 0 where
  places : (n : ℕ) → n < 6 → has_place s (place_name n) ≡ true
  team_count : length s.teams ≡ k
  team_names : (i : ℕ) → k ≤ i → i < 2 ^ 64 → has_team s (team_name i) ≡ false
  task_count : length s.tasks ≡ j
  task_names : (i : ℕ) → j ≤ i → i < 2 ^ 64 → has_task s (task_name i) ≡ false
  whole : first_missing s ≡ None
  free : s.frozen ≡ []

-- the places and the ways between them
abbrev ground_entries : Lcg → List Entry
ground_entries g = place_entries 0 6 ++ travel_entries g ways

ground_listed : (g : Lcg) → AreListed start (ground_entries g)
unfolding digits ways
ground_listed g =
    (refl, (refl, (refl, (refl, (refl, (refl, (refl, (refl, (refl, (refl, (refl, (refl, (refl, (refl, (refl, (refl, (refl, (refl, (refl, (refl, (refl, tt)))))))))))))))))))))

ground_free : (g : Lcg) → AreFree start (ground_entries g)
unfolding digits ways
ground_free g =
    (refl, (refl, (refl, (refl, (refl, (refl, (refl, (refl, (refl, (refl, (refl, (refl, (refl, (refl, (refl, (refl, (refl, (refl, (refl, (refl, (refl, tt)))))))))))))))))))))

ground_places : (g : Lcg) (n : ℕ) → n < 6 → has_place (after_all start (ground_entries g)) (place_name n) ≡ true
unfolding digits ways
ground_places g zero h = refl
ground_places g (suc zero) h = refl
ground_places g (suc (suc zero)) h = refl
ground_places g (suc (suc (suc zero))) h = refl
ground_places g (suc (suc (suc (suc zero)))) h = refl
ground_places g (suc (suc (suc (suc (suc zero))))) h = refl
ground_places g (suc (suc (suc (suc (suc (suc n)))))) h = absurd (omega arith)

ground_whole : (g : Lcg) → first_missing (after_all start (ground_entries g)) ≡ None
unfolding digits ways
ground_whole g = refl

ground_ready : (g : Lcg) → IsReady (after_all start (ground_entries g)) 0 0
unfolding digits ways
ground_ready g = record {
  places = ground_places g;
  team_count = refl;
  team_names = λ i above small. refl;
  task_count = refl;
  task_names = λ i above small. refl;
  whole = ground_whole g;
  free = refl;
}

-- of conditions none holds
four_hold : (a b c d : Bool) (w x y z : Refusal) → a ≡ false → b ≡ false → c ≡ false → d ≡ false
    → first_of ((a, w) ∷ (b, x) ∷ (c, y) ∷ (d, z) ∷ []) ≡ None
four_hold a b c d w x y z e f g h = rw (e, f, g, h) refl

five_hold : (a b c d e : Bool) (v w x y z : Refusal) → a ≡ false → b ≡ false → c ≡ false → d ≡ false → e ≡ false
    → first_of ((a, v) ∷ (b, w) ∷ (c, x) ∷ (d, y) ∷ (e, z) ∷ []) ≡ None
five_hold a b c d e v w x y z f g h i j = rw (f, g, h, i, j) refl

either_false : (a b : Bool) → a ≡ false → b ≡ false → (a || b) ≡ false
either_false a b e f = rw (e, f) refl

team_accepted : ForbidsNothing → (g : Lcg) (s : DayState) (k j : ℕ) → IsReady s k j → k < MOST_TEAMS → refusal_of s (team_entry g k) ≡ None
team_accepted law g s k j ready few =
    let from : ℕ = 360 + 60 * draw g 4 in
    let count = ready.team_count in
    accepted law s (team_entry g k)
    (four_hold _ _ _ _ _ _ _ _
    (lt-leb MOST_TEAMS (length s.teams) (omega arith))
    (ready.team_names k (omega arith) (omega arith))
    (ap not (ready.places 0 (omega arith)))
    (lt-leb (from + 480) from (omega arith)))
    ready.free

team_kept : (g : Lcg) (s : DayState) (k j : ℕ) → IsReady s k j → k < MOST_TEAMS → IsReady (after_entry s (team_entry g k)) (k + 1) j
team_kept g s k j ready few = record {
  places = ready.places;
  team_count = length-append s.teams (_ ∷ []) ∙ ap (λ n. n + 1) ready.team_count;
  team_names = λ i above small.
      list_any-append (λ t. bytes_eq (team_name i) t.name) s.teams (_ ∷ [])
      ∙ either_false _ _ (ready.team_names i (omega arith) small)
      (either_false _ _ (numbered_differ 84 i k (λ e. absurd (omega (arith, e))) small (omega arith)) refl);
  task_count = ready.task_count;
  task_names = ready.task_names;
  whole = ready.whole;
  free = ready.free;
}

teams_taken : ForbidsNothing → (g : Lcg) (s : DayState) (k j n : ℕ) → IsReady s k j → k + n ≤ MOST_TEAMS
    → AreTaken s (team_entries g k n) × IsReady (after_all s (team_entries g k n)) (k + n) j
teams_taken law g s k j zero ready few = (tt, subst (λ m. IsReady s m j) (omega arith) ready)
teams_taken law g s k j (suc n) ready few =
    let below : k < MOST_TEAMS = omega arith in
    let later = teams_taken law (after 3 g) (after_entry s (team_entry g k)) (k + 1) j n (team_kept g s k j ready below) (omega arith) in
    ((team_accepted law g s k j ready below, later.0), subst (λ m. IsReady (after_all s (team_entries g k (suc n))) m j) (omega arith) later.1)

one_or_two : (b : Bool) → is_bad_count (if b then 2 else 1) ≡ false
one_or_two true = refl
one_or_two false = refl

task_accepted : ForbidsNothing → (g : Lcg) (s : DayState) (k j : ℕ) → IsReady s k j → j < MOST_TASKS → refusal_of s (task_entry g j) ≡ None
task_accepted law g s k j ready few =
    let earliest : ℕ = 360 + draw (after 1 g) 541 in
    let wide : draw (after 2 g) 61 < 61 = draw_below (after 2 g) 61 (omega arith) in
    let count = ready.task_count in
    accepted law s (task_entry g j)
    (five_hold _ _ _ _ _ _ _ _ _ _
    (lt-leb MOST_TASKS (length s.tasks) (omega arith))
    (ready.task_names j (omega arith) (omega arith))
    (ap not (ready.places (draw g 6) (draw_below g 6 (omega arith))))
    (either_false _ _ (le-ltb (earliest + draw (after 2 g) 61) earliest (omega arith)) (le-ltb 720 (earliest + draw (after 2 g) 61 - earliest) (omega arith)))
    (one_or_two (draw (after 4 g) 4 == 0)))
    ready.free

task_kept : (g : Lcg) (s : DayState) (k j : ℕ) → IsReady s k j → j < MOST_TASKS → IsReady (after_entry s (task_entry g j)) k (j + 1)
task_kept g s k j ready few = record {
  places = ready.places;
  team_count = ready.team_count;
  team_names = ready.team_names;
  task_count = length-append s.tasks (_ ∷ []) ∙ ap (λ n. n + 1) ready.task_count;
  task_names = λ i above small.
      list_any-append (λ t. bytes_eq (task_name i) t.name) s.tasks (_ ∷ [])
      ∙ either_false _ _ (ready.task_names i (omega arith) small)
      (either_false _ _ (numbered_differ 74 i j (λ e. absurd (omega (arith, e))) small (omega arith)) refl);
  whole = ready.whole;
  free = ready.free;
}

tasks_taken : ForbidsNothing → (g : Lcg) (s : DayState) (k j n : ℕ) → IsReady s k j → j + n ≤ MOST_TASKS
    → AreTaken s (task_entries g j n) × IsReady (after_all s (task_entries g j n)) k (j + n)
tasks_taken law g s k j zero ready few = (tt, subst (λ m. IsReady s k m) (omega arith) ready)
tasks_taken law g s k j (suc n) ready few =
    let below : j < MOST_TASKS = omega arith in
    let next : Lcg = after (task_draws g) g in
    let later = tasks_taken law next (after_entry s (task_entry g j)) k (j + 1) n (task_kept g s k j ready below) (omega arith) in
    ((task_accepted law g s k j ready below, later.0), subst (λ m. IsReady (after_all s (task_entries g j (suc n))) k m) (omega arith) later.1)

-- entries that are taken one after another, and a plan behind them
taken_on : (s : DayState) (front back : List Entry) → AreTaken s front → AreTaken (after_all s front) back → first_missing (after_all (after_all s front) back) ≡ None
    → AreTaken s (front ++ back) × (first_missing (after_all s (front ++ back)) ≡ None)
taken_on s front back front_taken back_taken whole =
    (taken-append s front back front_taken back_taken, subst (λ r. first_missing r ≡ None) (sym (fold-append after_entry s front back)) whole)

-- a round changes no time
behind_round : (s : DayState) (plans : List Jobs) → first_missing (after_round s plans) ≡ first_missing s
behind_round s [] = refl
behind_round s (p ∷ ps) = refl

with_plan : (entries : List Entry) (nodes : ℕ) → AreTaken start entries × (first_missing (after_all start entries) ≡ None)
    → AreTaken start (entries ++ Plan nodes ∷ []) × (first_missing (after_all start (entries ++ Plan nodes ∷ [])) ≡ None)
with_plan entries nodes h =
    let s = after_all start entries in
    taken_on start entries (Plan nodes ∷ []) h.0 (ap (λ told. option_or (option_map (λ p. MissingTravel p.0 p.1) told) None) h.1, tt) (behind_round s s.plans ∙ h.1)

-- the entries, the places and the ways behind one name
chained : (ground teams tasks : List Entry) (nodes k j : ℕ) → AreTaken start ground → AreTaken (after_all start ground) teams
    → IsReady (after_all (after_all start ground) teams) k 0 → AreTaken (after_all (after_all start ground) teams) tasks
    → IsReady (after_all (after_all (after_all start ground) teams) tasks) k j
    → AreTaken start (ground ++ teams ++ tasks ++ Plan nodes ∷ []) × (first_missing (after_all start (ground ++ teams ++ tasks ++ Plan nodes ∷ [])) ≡ None)
chained ground teams tasks nodes k j ground_is teams_are with_teams tasks_are with_tasks =
    let first = taken_on start ground teams ground_is teams_are with_teams.whole in
    let same : after_all start (ground ++ teams) ≡ after_all (after_all start ground) teams = fold-append after_entry start ground teams in
    with_plan (ground ++ teams ++ tasks) nodes
    (taken_on start (ground ++ teams) tasks first.0 (subst (λ s. AreTaken s tasks) (sym same) tasks_are) (subst (λ s. first_missing (after_all s tasks) ≡ None) (sym same) with_tasks.whole))

pub day_taken : ForbidsNothing → (number teams tasks nodes : ℕ) → teams ≤ MOST_TEAMS → tasks ≤ MOST_TASKS
    → AreTaken start (generated_day number teams tasks nodes) × (first_missing (state_after [] (generated_day number teams tasks nodes)) ≡ None)
unfolding generated_day
day_taken law number teams tasks nodes few_teams few_tasks =
    let g : Lcg = generator_of number in
    let t = teams_taken law (after 15 g) (after_all start (ground_entries g)) 0 0 teams (ground_ready g) (omega arith) in
    let later : Lcg = after (3 * teams) (after 15 g) in
    let j = tasks_taken law later (after_all (after_all start (ground_entries g)) (team_entries (after 15 g) 0 teams)) (0 + teams) 0 tasks t.1 (omega arith) in
    chained (ground_entries g) (team_entries (after 15 g) 0 teams) (task_entries later 0 tasks) nodes (0 + teams) (0 + tasks)
    (all_accepted law start (ground_entries g) (ground_listed g) (ground_free g)) t.0 t.1 j.0 j.1
