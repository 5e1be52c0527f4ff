-- the lines of a good head are read
use Rattle.std.proofs.Common.{◌≡◌, ◌≤◌, ℕ, suc, List, [], ◌∷◌, ◌++◌, length, ap, sym, refl, ◌∙◌, subst, arith, None}
use Rattle.std.specs.Prelude.{◌≢◌, map, All}
use Rattle.std.specs.Fmt.{decimal}
use Rattle.std.proofs.lemmas.List.{length-map}
use Rattle.crew_terms.specs.Name.{IsName}
use Rattle.crew_terms.specs.Instance.{Instance}
use Rattle.crew_terms.specs.Rules.{IsInstance, IsTeam, IsTask}
use Rattle.crew_terms.specs.Plan.{empty_plan}
use Rattle.crew_terms.specs.declared.TheConstants.{LAST_MINUTE, MOST_NODES}
use Rattle.dossier_laws.proofs.Empty.{empty_more}
use Rattle.crew_terms.specs.declared.Team.{Team}
use Rattle.crew_terms.specs.declared.Task.{Task}
use Rattle.dossier_terms.specs.declared.DossierForm.{DossierForm}
use Rattle.dossier_terms.specs.declared.DossierForm.TheVariants.{Two}
use Rattle.dossier_terms.specs.declared.Size.{Size}
use Rattle.dossier_terms.specs.Dossier.{skills_of}
use Rattle.dossier_terms.specs.Lines.{place_line, travel_line, team_line, task_line, instance_lines, frozen_lines, head_lines, size_of}
use Rattle.dossier_terms.specs.Reading.{More, Opening, nothing, Form, Sizes, Pools, places_due, travels_due, teams_due, tasks_due, tasks_done}
use Rattle.dossier_terms.specs.Rules.{Holds, Spelled, On}
use Rattle.dossier_terms.specs.Table.{Says, Reaches}
use Rattle.dossier_terms.specs.Ranges.{IsTaskLine}
use Rattle.dossier_laws.proofs.SoFar.{IsHead}
use Rattle.dossier_laws.proofs.Frozen.{frozen_reached}
use Rattle.dossier_laws.proofs.Skills.{mask_again, skills_rise, skills_in}
use Rattle.dossier_laws.proofs.Lists.{All-at, AllPairs-at}
use Rattle.dossier_laws.proofs.Rules.{reaches-append, reaches_all}

-- the lines of an instance lead to the last of its tasks
instance_reached : (form : DossierForm) (i : Instance) (budget : ℕ) → IsHead form i budget
    → Reaches (Sizes form) (instance_lines i budget) (tasks_done form (size_of i budget) (record i { frozen = empty_plan (length i.tasks) }))
instance_reached form i budget h = (
  places_due o z.places nothing,
  Holds (_, refl, refl) (Spelled z (record { teams = h.instance.parts.few_teams; tasks = h.instance.parts.few_tasks; places = h.instance.parts.few_places; nodes = h.budget }) refl (On refl)),
  reaches-append (places_due o z.places nothing) (map place_line i.places ++ map travel_line i.travel ++ map team_line i.teams) (tasks_due o z.tasks i3) (map task_line i.tasks) (tasks_done form z (record i { frozen = empty_plan (length i.tasks) }))
      (reaches-append (places_due o z.places nothing) (map place_line i.places ++ map travel_line i.travel) (teams_due o z.teams i2) (map team_line i.teams) (tasks_due o z.tasks i3)
      (reaches-append (places_due o z.places nothing) (map place_line i.places) (travels_due o z.places i1) (map travel_line i.travel) (teams_due o z.teams i2)
      (reaches_all place_line (λ ps k. places_due o k (record nothing { places = ps })) i.places place_one [] i.places refl)
      (subst (λ n. Reaches (travels_due o n i1) (map travel_line i.travel) (teams_due o z.teams i2)) h.instance.times.rows
      (reaches_all travel_line (λ rows k. travels_due o k (record i1 { travel = rows })) i.travel travel_one [] i.travel refl)))
      (reaches_all team_line (λ ts k. teams_due o k (record i2 { teams = ts })) i.teams team_one [] i.teams refl))
      (reaches_all task_line (λ ts k. tasks_due o k (record i3 { tasks = ts; frozen = empty_plan (length ts) })) i.tasks task_one [] i.tasks refl),
)
  where
    z : Size
    z = size_of i budget

    o : Opening
    o = record { form = form; size = z }

    i1 : Instance
    i1 = record nothing { places = i.places }

    i2 : Instance
    i2 = record i1 { travel = i.travel }

    i3 : Instance
    i3 = record i2 { teams = i.teams }

    place_one : (ys : List (List ℕ)) (x : List ℕ) (zs : List (List ℕ)) → i.places ≡ ys ++ x ∷ zs
        → Says (places_due o (suc (length zs)) (record nothing { places = ys })) (place_line x) (More (places_due o (length zs) (record nothing { places = ys ++ x ∷ [] })))
    place_one ys x zs e = Holds (_, refl, refl) (Spelled x (All-at IsName i.places ys x zs e h.instance.parts.places) refl
        (Holds (AllPairs-at (λ a b. a ≢ b) i.places ys x zs e h.instance.parts.place_names) (On refl)))

    travel_one : (ys : List (List ℕ)) (x : List ℕ) (zs : List (List ℕ)) → i.travel ≡ ys ++ x ∷ zs
        → Says (travels_due o (suc (length zs)) (record i1 { travel = ys })) (travel_line x) (More (travels_due o (length zs) (record i1 { travel = ys ++ x ∷ [] })))
    travel_one ys x zs e =
        let wide = All-at (λ row. length row ≡ length i.places) i.travel ys x zs e h.instance.times.columns in
        let minutes = All-at (All (λ t. t ≤ LAST_MINUTE)) i.travel ys x zs e h.instance.times.minutes in
        Holds (_, refl, length-map x decimal ∙ wide) (Spelled x (record { count = wide; minutes = minutes }) refl (On refl))

    team_one : (ys : List Team) (x : Team) (zs : List Team) → i.teams ≡ ys ++ x ∷ zs
        → Says (teams_due o (suc (length zs)) (record i2 { teams = ys })) (team_line x) (More (teams_due o (length zs) (record i2 { teams = ys ++ x ∷ [] })))
    team_one ys x zs e =
        let good = All-at (IsTeam (length i.places)) i.teams ys x zs e h.instance.parts.teams in
        let fresh = AllPairs-at (λ (a b : Team). a.name ≢ b.name) i.teams ys x zs e h.instance.parts.team_names in
        let shift = good.shift in
        let set = mask_again x.skills good.skills in
        Holds (_, refl, omega arith) (Holds good.name (Spelled (record x { skills = 0 }, skills_of x.skills)
        (record { name = good.name; home = good.home; from = omega arith; until = shift.day; none = refl; skills = skills_in x.skills }) refl
        (Holds fresh (Holds (record { order = shift.order; day = shift.day }, skills_rise x.skills)
        (On (ap (λ n. More (teams_due o (length zs) (record i2 { teams = ys ++ record x { skills = n } ∷ [] }))) (sym set)))))))

    task_one : (ys : List Task) (x : Task) (zs : List Task) → i.tasks ≡ ys ++ x ∷ zs
        → Says (tasks_due o (suc (length zs)) (record i3 { tasks = ys; frozen = empty_plan (length ys) })) (task_line x)
        (More (tasks_due o (length zs) (record i3 { tasks = ys ++ x ∷ []; frozen = empty_plan (length (ys ++ x ∷ [])) })))
    task_one ys x zs e =
        let good = All-at (IsTask (length i.places)) i.tasks ys x zs e h.instance.parts.tasks in
        let fresh = AllPairs-at (λ (a b : Task). a.name ≢ b.name) i.tasks ys x zs e h.instance.parts.task_names in
        let window = good.window in
        let set = mask_again x.skills good.skills in
        let same = ap (λ p. More (tasks_due o (length zs) (record i3 { tasks = ys ++ x ∷ []; frozen = p }))) (sym (empty_more ys x))
        ∙ ap (λ n. More (tasks_due o (length zs) (record i3 { tasks = ys ++ record x { skills = n } ∷ []; frozen = empty_plan (length ys) ++ None ∷ [] }))) (sym set) in
        let line : IsTaskLine z.places (record x { skills = 0 }, skills_of x.skills) = record {
          name = good.name;
          place = good.place;
          earliest = omega arith;
          latest = window.day;
          some_minutes = window.some_minutes;
          minutes = window.minutes;
          teams = good.teams;
          none = refl;
          skills = skills_in x.skills;
        } in
        Holds (_, refl, omega arith) (Holds good.name (Spelled (record x { skills = 0 }, skills_of x.skills) line refl
        (Holds fresh (Holds (record { order = window.order; width = window.width; day = window.day; some_minutes = window.some_minutes; minutes = window.minutes }, skills_rise x.skills) (On same)))))

-- with its frozen jobs they lead to the pool
sizes_reached : (form : DossierForm) (i : Instance) (budget : ℕ) → IsHead form i budget → Reaches (Sizes form) (instance_lines i budget ++ frozen_lines form i.frozen) (Pools form i budget)
sizes_reached form i budget h =
    reaches-append (Sizes form) (instance_lines i budget) (tasks_done form (size_of i budget) (record i { frozen = empty_plan (length i.tasks) })) (frozen_lines form i.frozen) (Pools form i budget)
    (instance_reached form i budget h)
    (frozen_reached form (size_of i budget) i h.instance h.frozen)

pub head_reached : (form : DossierForm) (i : Instance) (budget : ℕ) → IsHead form i budget → Reaches Form (head_lines form i budget) (Pools form i budget)
head_reached form i budget h = (Sizes form, Spelled form tt refl (On refl), sizes_reached form i budget h)

-- in form 2
pub head_behind_form : (i : Instance) (budget : ℕ) → IsInstance i → budget ≤ MOST_NODES → Reaches (Sizes Two) (instance_lines i budget ++ frozen_lines Two i.frozen) (Pools Two i budget)
head_behind_form i budget is few = sizes_reached Two i budget (record { instance = is; frozen = tt; budget = few })
