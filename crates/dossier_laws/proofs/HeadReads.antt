-- what is read of a head is its lines, and good
use Rattle.std.proofs.Common.{◌≡◌, ◌+◌, ℕ, zero, suc, List, [], ◌∷◌, ◌++◌, length, ap, sym, refl, ◌∙◌, subst, append-nil, append_assoc, arith, length-append, None}
use Rattle.std.specs.Prelude.{◌≢◌, map, All}
use Rattle.std.proofs.lemmas.List.{map-append, nil_from_length}
use Rattle.std.proofs.lemmas.List.Elements.{All-nil, All-push}
use Rattle.std.proofs.lemmas.List.Quantifiers.{all_pairs_push}
use Rattle.crew_terms.specs.Name.{IsName}
use Rattle.crew_terms.specs.Instance.{Instance}
use Rattle.crew_terms.specs.Rules.{IsTeam, IsTask, AreParts, AreTimes}
use Rattle.crew_terms.specs.Legal.{IsFeasible}
use Rattle.crew_terms.specs.declared.Team.{Team}
use Rattle.crew_terms.specs.declared.Task.{Task}
use Rattle.dossier_terms.specs.declared.DossierForm.{DossierForm}
use Rattle.dossier_terms.specs.declared.DossierForm.TheVariants.{One, Two}
use Rattle.dossier_terms.specs.declared.Size.{Size}
use Rattle.dossier_terms.specs.Dossier.{FitsForm, skills_of, mask_of}
use Rattle.crew_terms.specs.Words.{Words}
use Rattle.crew_terms.specs.EmptyPlan.{empty_feasible}
use Rattle.dossier_terms.specs.Lines.{form_line, size_line, place_line, travel_line, team_line, task_line, size_of, team_words, task_words}
use Rattle.dossier_terms.specs.Reading.{Reading, Answer, Opening, nothing, Form, Sizes, Places, Travels, Teams, Tasks, places_due, travels_due, teams_due, tasks_due, tasks_done}
use Rattle.dossier_terms.specs.Ranges.{IsSize, IsTravel}
use Rattle.dossier_terms.specs.HeadTable.{form_row, size_row, place_row, travel_row, team_row, task_row}
use Rattle.dossier_laws.proofs.SoFar.{head_so_far, AreNamed, IsPart, HasRead, ArePlaces, AreTravels, AreTeams, AreTasks, IsHead, IsReading, spelled, Follows}
use Rattle.dossier_laws.proofs.Empty.{empty_more}
use Rattle.dossier_laws.proofs.Skills.{skills_again, mask_small}
use Rattle.dossier_laws.proofs.Rules.{must_then, spells_then, goes_then}

-- ---- the states that are due

pub parts_whole : (o : Opening) (i : Instance) → IsPart o i → HasRead i o.size.places o.size.places o.size.teams o.size.tasks → AreParts i.places i.teams i.tasks
parts_whole o i p h = record {
  few_places = omega (arith, h.places, p.size.places);
  few_teams = omega (arith, h.teams, p.size.teams);
  few_tasks = omega (arith, h.tasks, p.size.tasks);
  places = p.places.each;
  teams = subst (λ n. All (IsTeam n) i.teams) (sym h.places) p.teams.each;
  tasks = subst (λ n. All (IsTask n) i.tasks) (sym h.places) p.tasks.each;
  place_names = p.places.differ;
  team_names = p.teams.differ;
  task_names = p.tasks.differ;
}

pub times_whole : (o : Opening) (i : Instance) → IsPart o i → HasRead i o.size.places o.size.places o.size.teams o.size.tasks → AreTimes (length i.places) i.travel
times_whole o i p h = subst (λ n. AreTimes n i.travel) (sym h.places) (record { rows = h.travel; columns = λ k d l. (p.travel k d l).count; minutes = λ k d l. (p.travel k d l).minutes })

instance_whole : (o : Opening) (i : Instance) → IsPart o i → HasRead i o.size.places o.size.places o.size.teams o.size.tasks → FitsForm o.form i → IsHead o.form i o.size.nodes
instance_whole o i p h fits = record {
  instance = record { parts = parts_whole o i p h; times = times_whole o i p h; frozen = subst (IsFeasible i) (sym p.frozen) (empty_feasible i) };
  frozen = fits;
  budget = p.size.nodes;
}

pub size_is : (o : Opening) (i : Instance) → HasRead i o.size.places o.size.places o.size.teams o.size.tasks → size_line o.size ≡ size_line (size_of i o.size.nodes)
size_is o i h = cc

-- the lines of an instance without frozen jobs, in form 1
head_text : (form line : Words) (rest : List Words) → form ∷ line ∷ rest ≡ form ∷ ((line ∷ rest) ++ [])
head_text form line rest = ap (λ ls. form ∷ ls) (sym (append-nil (line ∷ rest)))

done_tasks : (form : DossierForm) (z : Size) (i : Instance) → IsPart (record { form = form; size = z }) i → HasRead i z.places z.places z.teams z.tasks
    → (spelled (tasks_done form z i) ≡ head_so_far (record { form = form; size = z }) i) × IsReading (tasks_done form z i)
done_tasks One z i p h =
    let o : Opening = record { form = One; size = z } in
    let rest = map place_line i.places ++ map travel_line i.travel ++ map team_line i.teams ++ map task_line i.tasks in
    (sym (head_text (form_line One) (size_line z) rest ∙ ap (λ l. form_line One ∷ ((l ∷ rest) ++ [])) (size_is o i h)), instance_whole o i p h p.frozen)
done_tasks Two z i p h = (refl, record { part = p; read = h; form = refl })

due_tasks : (o : Opening) (k : ℕ) (i : Instance) → AreTasks o k i → (spelled (tasks_due o k i) ≡ head_so_far o i) × IsReading (tasks_due o k i)
due_tasks o zero i h = done_tasks o.form o.size i h.2 (record { places = h.3.places; travel = h.3.travel; teams = h.3.teams; tasks = omega (arith, h.3.tasks) })
due_tasks o (suc k) i h = (refl, h)

due_teams : (o : Opening) (k : ℕ) (i : Instance) → AreTeams o k i → (spelled (teams_due o k i) ≡ head_so_far o i) × IsReading (teams_due o k i)
due_teams o zero i h = due_tasks o o.size.tasks i (0, omega arith, h.2, record { places = h.3.places; travel = h.3.travel; teams = omega (arith, h.3.teams); tasks = h.3.tasks })
due_teams o (suc k) i h = (refl, h)

due_travels : (o : Opening) (k : ℕ) (i : Instance) → AreTravels o k i → (spelled (travels_due o k i) ≡ head_so_far o i) × IsReading (travels_due o k i)
due_travels o zero i h = due_teams o o.size.teams i (0, omega arith, h.2, record { places = h.3.places; travel = omega (arith, h.3.travel); teams = h.3.teams; tasks = h.3.tasks })
due_travels o (suc k) i h = (refl, h)

due_places : (o : Opening) (k : ℕ) (i : Instance) → ArePlaces o k i → (spelled (places_due o k i) ≡ head_so_far o i) × IsReading (places_due o k i)
due_places o zero i h = due_travels o o.size.places i (0, omega arith, h.2, record { places = omega (arith, h.3.places); travel = h.3.travel; teams = h.3.teams; tasks = h.3.tasks })
due_places o (suc k) i h = (refl, h)

-- ---- the rows

pub form_follows : (ws : Words) (said : Answer) → form_row ws said → Follows Form ws said
form_follows ws said h = spells_then Form ws said (λ form is e g.
    goes_then Form ws said (ap (λ w. w ∷ []) (sym e), tt) g) h

none_named : {A : Type 0} (IsOne : A → Type 0) (name : A → List ℕ) → AreNamed IsOne name []
none_named IsOne name = record { each = All-nil IsOne; differ = λ i j d a l. absurd (omega arith) }

part_nothing : (o : Opening) → IsSize o.size → IsPart o nothing
part_nothing o s = record {
  size = s;
  places = none_named IsName (λ name. name);
  travel = All-nil (IsTravel o.size.places);
  teams = none_named (IsTeam o.size.places) (λ (t : Team). t.name);
  tasks = none_named (IsTask o.size.places) (λ (t : Task). t.name);
  frozen = refl;
}

pub size_follows : (form : DossierForm) (ws : Words) (said : Answer) → size_row form ws said → Follows (Sizes form) ws said
size_follows form ws said h = must_then s ws said (λ shape g.
    spells_then s ws said (λ z is e g.
    let o : Opening = record { form = form; size = z } in
    let due = due_places o z.places nothing (0, omega arith, part_nothing o is, record { places = refl; travel = refl; teams = refl; tasks = refl }) in
    goes_then s ws said (due.0 ∙ ap (λ w. form_line form ∷ w ∷ []) (sym e), due.1) g) g) h
  where
    s : Reading
    s = Sizes form

-- ---- one more

place_text : (o : Opening) (i : Instance) (name : List ℕ) → i.travel ≡ [] → i.teams ≡ [] → i.tasks ≡ []
    → head_so_far o (record i { places = i.places ++ name ∷ [] }) ≡ head_so_far o i ++ place_line name ∷ []
place_text o i name a b c = simp (map-append, a, b, c, append-nil)

travel_text : (o : Opening) (i : Instance) (row : List ℕ) → i.teams ≡ [] → i.tasks ≡ []
    → head_so_far o (record i { travel = i.travel ++ row ∷ [] }) ≡ head_so_far o i ++ travel_line row ∷ []
travel_text o i row b c = simp (map-append, b, c, append-nil, append_assoc)

team_text : (o : Opening) (i : Instance) (t : Team) → i.tasks ≡ []
    → head_so_far o (record i { teams = i.teams ++ t ∷ [] }) ≡ head_so_far o i ++ team_line t ∷ []
team_text o i t c = simp (map-append, c, append-nil, append_assoc)

task_text : (o : Opening) (i : Instance) (t : Task)
    → head_so_far o (record i { tasks = i.tasks ++ t ∷ []; frozen = i.frozen ++ None ∷ [] }) ≡ head_so_far o i ++ task_line t ∷ []
task_text o i t = simp (map-append, append_assoc)

one_more : {A : Type 0} (xs : List A) (x : A) (p : ℕ) → length xs ≡ p → length (xs ++ x ∷ []) ≡ p + 1
one_more xs x p h = omega (arith, length-append xs (x ∷ []))

one_named : {A : Type 0} (IsOne : A → Type 0) (name : A → List ℕ) (xs : List A) (x : A) → AreNamed IsOne name xs → IsOne x → All (λ o. name o ≢ name x) xs → AreNamed IsOne name (xs ++ x ∷ [])
one_named IsOne name xs x h is fresh = record { each = All-push IsOne xs x h.each is; differ = all_pairs_push (λ a b. name a ≢ name b) xs x h.differ fresh }

pub place_follows : (o : Opening) (k : ℕ) (i : Instance) (ws : Words) (said : Answer) → ArePlaces o (suc k) i → place_row o k i ws said → Follows (Places o k i) ws said
place_follows o k i ws said r h = must_then s ws said (λ shape g.
    spells_then s ws said (λ name is e g.
    must_then s ws said (λ fresh g.
    let j : Instance = record i { places = i.places ++ name ∷ [] } in
    let part : IsPart o j = record {
      size = r.2.size;
      places = one_named IsName (λ name. name) i.places name r.2.places is fresh;
      travel = r.2.travel;
      teams = r.2.teams;
      tasks = r.2.tasks;
      frozen = r.2.frozen;
    } in
    let due = due_places o k j (r.0 + 1, omega arith, part, record { places = one_more i.places name r.0 r.3.places; travel = r.3.travel; teams = r.3.teams; tasks = r.3.tasks }) in
    goes_then s ws said (
      due.0 ∙ place_text o i name (nil_from_length i.travel r.3.travel) (nil_from_length i.teams r.3.teams) (nil_from_length i.tasks r.3.tasks)
          ∙ ap (λ w. head_so_far o i ++ w ∷ []) (sym e),
      due.1,
    ) g) g) g) h
  where
    s : Reading
    s = Places o k i

pub travel_follows : (o : Opening) (k : ℕ) (i : Instance) (ws : Words) (said : Answer) → AreTravels o (suc k) i → travel_row o k i ws said → Follows (Travels o k i) ws said
travel_follows o k i ws said r h = must_then s ws said (λ shape g.
    spells_then s ws said (λ row is e g.
    let j : Instance = record i { travel = i.travel ++ row ∷ [] } in
    let part : IsPart o j = record {
      size = r.2.size;
      places = r.2.places;
      travel = All-push (IsTravel o.size.places) i.travel row r.2.travel is;
      teams = r.2.teams;
      tasks = r.2.tasks;
      frozen = r.2.frozen;
    } in
    let due = due_travels o k j (r.0 + 1, omega arith, part, record { places = r.3.places; travel = one_more i.travel row r.0 r.3.travel; teams = r.3.teams; tasks = r.3.tasks }) in
    goes_then s ws said (
      due.0 ∙ travel_text o i row (nil_from_length i.teams r.3.teams) (nil_from_length i.tasks r.3.tasks)
          ∙ ap (λ w. head_so_far o i ++ w ∷ []) (sym e),
      due.1,
    ) g) g) h
  where
    s : Reading
    s = Travels o k i

pub team_follows : (o : Opening) (k : ℕ) (i : Instance) (ws : Words) (said : Answer) → AreTeams o (suc k) i → team_row o k i ws said → Follows (Teams o k i) ws said
team_follows o k i ws said r h = must_then s ws said (λ shape g.
    must_then s ws said (λ named g.
    spells_then s ws said (λ p is e g.
    must_then s ws said (λ fresh g.
    must_then s ws said (λ fits g.
    let t : Team = record p.0 { skills = mask_of p.1 } in
    let good : IsTeam o.size.places t = record { name = is.name; home = is.home; shift = fits.0; skills = mask_small p.1 fits.1 is.skills } in
    let j : Instance = record i { teams = i.teams ++ t ∷ [] } in
    let part : IsPart o j = record {
      size = r.2.size;
      places = r.2.places;
      travel = r.2.travel;
      teams = one_named (IsTeam o.size.places) (λ (t : Team). t.name) i.teams t r.2.teams good fresh;
      tasks = r.2.tasks;
      frozen = r.2.frozen;
    } in
    let due = due_teams o k j (r.0 + 1, omega arith, part, record { places = r.3.places; travel = r.3.travel; teams = one_more i.teams t r.0 r.3.teams; tasks = r.3.tasks }) in
    let line : ws ≡ team_line t = e ∙ sym (ap (λ ss. team_words (record p.0 { skills = 0 }, ss)) (skills_again p.1 fits.1 is.skills)) ∙ ap (λ n. team_words (record p.0 { skills = n }, skills_of (mask_of p.1))) (sym is.none) in
    goes_then s ws said (
      due.0 ∙ team_text o i t (nil_from_length i.tasks r.3.tasks)
          ∙ ap (λ w. head_so_far o i ++ w ∷ []) (sym line),
      due.1,
    ) g) g) g) g) g) h
  where
    s : Reading
    s = Teams o k i

pub task_follows : (o : Opening) (k : ℕ) (i : Instance) (ws : Words) (said : Answer) → AreTasks o (suc k) i → task_row o k i ws said → Follows (Tasks o k i) ws said
task_follows o k i ws said r h = must_then s ws said (λ shape g.
    must_then s ws said (λ named g.
    spells_then s ws said (λ p is e g.
    must_then s ws said (λ fresh g.
    must_then s ws said (λ fits g.
    let t : Task = record p.0 { skills = mask_of p.1 } in
    let good : IsTask o.size.places t = record {
      name = is.name;
      place = is.place;
      window = fits.0;
      teams = is.teams;
      skills = mask_small p.1 fits.1 is.skills;
    } in
    let j : Instance = record i { tasks = i.tasks ++ t ∷ []; frozen = i.frozen ++ None ∷ [] } in
    let part : IsPart o j = record {
      size = r.2.size;
      places = r.2.places;
      travel = r.2.travel;
      teams = r.2.teams;
      tasks = one_named (IsTask o.size.places) (λ (t : Task). t.name) i.tasks t r.2.tasks good fresh;
      frozen = ap (λ p. p ++ None ∷ []) r.2.frozen ∙ empty_more i.tasks t;
    } in
    let due = due_tasks o k j (r.0 + 1, omega arith, part, record { places = r.3.places; travel = r.3.travel; teams = r.3.teams; tasks = one_more i.tasks t r.0 r.3.tasks }) in
    let line : ws ≡ task_line t = e ∙ sym (ap (λ ss. task_words (record p.0 { skills = 0 }, ss)) (skills_again p.1 fits.1 is.skills)) ∙ ap (λ n. task_words (record p.0 { skills = n }, skills_of (mask_of p.1))) (sym is.none) in
    goes_then s ws said (
      due.0 ∙ task_text o i t
          ∙ ap (λ w. head_so_far o i ++ w ∷ []) (sym line),
      due.1,
    ) g) g) g) g) g) h
  where
    s : Reading
    s = Tasks o k i
