-- the lines of an instance
use Rattle.std.proofs.Common.{◌≡◌, ◌≤◌, ◌<◌, ◌++◌, ℕ, List, length, subst, sym, arith, inl, inr}
use Rattle.std.specs.Prelude.{◌==◌, map, filter, Bool}
use Rattle.std.specs.Int.{bit_at}
use Rattle.std.specs.List.{All, AllByRecursion, range_with_len}
use Rattle.std.proofs.lemmas.Bool.{cases_lt}
use Rattle.std.proofs.lemmas.List.{get_or_past}
use Rattle.std.proofs.lemmas.List.Elements.{recursion_from_All}
use Rattle.std.proofs.lemmas.List.FromFn.{length-range_with_len}
use Rattle.std.proofs.lemmas.List.Sums.{length-filter, count_by-le-length}
use Rattle.crew_terms.specs.Name.{IsName}
use Rattle.crew_terms.specs.Instance.{Instance, team_of, no_team, task_of, no_task}
use Rattle.crew_terms.specs.Rules.{IsInstance, IsTeam, IsTask}
use Rattle.crew_terms.specs.declared.TheConstants.{MOST_PLACES, SKILLS, LAST_MINUTE, MOST_NODES}
use Rattle.crew_terms.specs.declared.Team.{Team}
use Rattle.crew_terms.specs.declared.Task.{Task}
use Rattle.dossier_terms.specs.Dossier.{skills_of}
use Rattle.dossier_terms.specs.Lines.{size_of, size_line, place_line, travel_line, team_line, task_line, instance_lines}
use Rattle.text_laws.specs.Texts.{AreLine}
use Rattle.text_laws.proofs.Lists.{rec-append, rec-map, rec_weaker, rec-filter, range_less}
use Rattle.text_laws.proofs.Spellings.{IsFew, size_is_line, place_is_line, travel_is_line, team_is_line, task_is_line}

-- those below n that pass
pub picked_few : (n : ℕ) (p : ℕ → Bool) → length (filter p (range_with_len 0 n)) ≤ n
picked_few n p = omega (arith, length-filter p (range_with_len 0 n), count_by-le-length p (range_with_len 0 n), length-range_with_len 0 n)

pub picked_less : (n : ℕ) (p : ℕ → Bool) → AllByRecursion (λ s. s < n) (filter p (range_with_len 0 n))
picked_less n p = rec-filter (λ s. s < n) p (range_with_len 0 n) (range_less 0 n n (omega arith))

pub less_few : (n : ℕ) (xs : List ℕ) → n < 10000 → AllByRecursion (λ s. s < n) xs → AllByRecursion IsFew xs
less_few n xs l h = rec_weaker (λ s. s < n) IsFew (λ s a. omega arith) xs h

abbrev has : ℕ → ℕ → Bool
has mask s = bit_at mask s == 1

skills_few : (mask : ℕ) → AllByRecursion IsFew (skills_of mask)
skills_few mask = less_few SKILLS (skills_of mask) (omega arith) (picked_less SKILLS (has mask))

skills_count : (mask : ℕ) → length (skills_of mask) ≤ SKILLS
skills_count mask = picked_few SKILLS (has mask)

pub team_good : (places : ℕ) → places ≤ MOST_PLACES → (t : Team) → IsTeam places t → AreLine (team_line t)
team_good places few t h = team_is_line (record t { skills = 0 }, skills_of t.skills) h.name (omega (arith, h.home)) (omega (arith, h.shift)) (omega (arith, h.shift))
    (skills_count t.skills) (skills_few t.skills)

pub task_good : (places : ℕ) → places ≤ MOST_PLACES → (t : Task) → IsTask places t → AreLine (task_line t)
task_good places few t h = task_is_line (record t { skills = 0 }, skills_of t.skills) h.name (omega (arith, h.place)) (omega (arith, h.window)) (omega (arith, h.window)) (omega (arith, h.window)) (omega (arith, h.teams))
    (skills_count t.skills) (skills_few t.skills)

-- a row of travel times
pub record IsTravel (places : ℕ) (row : List ℕ) : Type 0 where
  pub count : length row ≡ places
  pub minutes : All (λ t. t ≤ LAST_MINUTE) row

pub travel_good : (places : ℕ) → places ≤ MOST_PLACES → (row : List ℕ) → IsTravel places row → AreLine (travel_line row)
travel_good places few row h = travel_is_line row (omega (arith, h.count)) (rec_weaker (λ t. t ≤ LAST_MINUTE) IsFew (λ t l. omega arith) row (recursion_from_All (λ t. t ≤ LAST_MINUTE) row h.minutes))

pub size_good : (i : Instance) (budget : ℕ) → IsInstance i → budget ≤ MOST_NODES → AreLine (size_line (size_of i budget))
size_good i budget h spend = let few = h.parts.few_places in size_is_line (size_of i budget) (omega (arith, h.parts.few_teams)) (omega (arith, h.parts.few_tasks)) (omega arith) (omega arith)

pub instance_good : (i : Instance) (budget : ℕ) → IsInstance i → budget ≤ MOST_NODES → AllByRecursion AreLine (instance_lines i budget)
instance_good i budget h spend =
    let few = h.parts.few_places in
    let n : ℕ = length i.places in
    let travels : All (IsTravel n) i.travel = λ k d l. record { count = h.times.columns k d l; minutes = h.times.minutes k d l } in
    let places = rec-map IsName AreLine place_line place_is_line i.places (recursion_from_All IsName i.places h.parts.places) in
    let rows = rec-map (IsTravel n) AreLine travel_line (travel_good n few) i.travel (recursion_from_All (IsTravel n) i.travel travels) in
    let teams = rec-map (IsTeam n) AreLine team_line (team_good n few) i.teams (recursion_from_All (IsTeam n) i.teams h.parts.teams) in
    let tasks = rec-map (IsTask n) AreLine task_line (task_good n few) i.tasks (recursion_from_All (IsTask n) i.tasks h.parts.tasks) in (
      size_good i budget h spend,
      rec-append AreLine (map place_line i.places ++ map travel_line i.travel ++ map team_line i.teams) (map task_line i.tasks)
          (rec-append AreLine (map place_line i.places ++ map travel_line i.travel) (map team_line i.teams)
          (rec-append AreLine (map place_line i.places) (map travel_line i.travel) places rows) teams) tasks,
    )

-- ---- what its numbers are

pub until_day : (i : Instance) → IsInstance i → (k : ℕ) → (team_of i k).until ≤ LAST_MINUTE
until_day i h k = elim (cases_lt k (length i.teams)) [
  | inl l ↦ (h.parts.teams k no_team l).shift.day
  | inr l ↦ let e : team_of i k ≡ no_team = get_or_past i.teams k no_team l in subst (λ (t : Team). t.until ≤ LAST_MINUTE) (sym e) (omega arith)
]

pub task_at : (i : Instance) → IsInstance i → (j : ℕ) → j < length i.tasks → IsTask (length i.places) (task_of i j)
task_at i h j l = h.parts.tasks j no_task l
