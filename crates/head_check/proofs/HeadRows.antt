-- the rows of the table for the lines of an instance
use Rattle.std.proofs.Common.{◌≡◌, ◌≤◌, ◌<◌, ◌++◌, ℕ, suc, List, [], ◌∷◌, length, map, get_or, ap, subst, sym, refl, ◌∙◌, arith, ◌⊎◌, inl, inr, None, Some, length-append}
use Rattle.std.proofs.Math.ListN.{get_or-append}
use Rattle.std.specs.Prelude.{codes, All, Any, slice_index_or}
use Rattle.std.specs.List.{range_with_len}
use Rattle.std.specs.Fmt.{decimal}
use Rattle.std.specs.List.Sorted.{IsStrictlyIncreasing}
use Rattle.std.proofs.Math.Seq.{get_or-append_seam}
use Rattle.std.proofs.lemmas.Bool.{cases_lt}
use Rattle.std.proofs.lemmas.List.{ext_get_or, get_or_default, length-map}
use Rattle.std.proofs.lemmas.List.FromFn.{length-map-range_with_len, get_or-map-range_with_len}
use Rattle.crew_terms.specs.Words.{Words}
use Rattle.crew_terms.specs.Name.{IsName}
use Rattle.crew_terms.specs.Instance.{Instance}
use Rattle.crew_terms.specs.Rules.{IsShift, IsWindow}
use Rattle.crew_terms.specs.declared.Team.{Team}
use Rattle.crew_terms.specs.declared.Task.{Task}
use Rattle.crew_instance.specs.Draft.{Draft as Parts, known_times, time_of, with_row}
use Rattle.crew_instance.specs.Times.{minutes_from, minutes_of}
use Rattle.dossier_terms.specs.declared.DossierForm.{DossierForm}
use Rattle.dossier_terms.specs.declared.Size.{Size}
use Rattle.dossier_terms.specs.Dossier.{mask_of}
use Rattle.dossier_terms.specs.Lines.{size_line, place_line, travel_line, team_words, task_words}
use Rattle.dossier_terms.specs.Reading.{Answer, Opening, More as Goes, nothing, places_due, teams_due, tasks_due}
use Rattle.dossier_terms.specs.Rules.{Holds, Fails, Spelled, Goes as GoesOn, On, IsShape}
use Rattle.dossier_terms.specs.Ranges.{IsSize, IsTravel, IsTeamLine, IsTaskLine}
use Rattle.dossier_terms.specs.HeadTable.{size_row, place_row, travel_row, team_row, task_row, after_place, after_travel, after_team, after_task}
use Rattle.head_check.specs.Head.{instance_so_far}
use Rattle.head_check.proofs.GivenRow.{time_in_row, time_elsewhere}

-- ---- rows of travel times

rows_same : (f g : ℕ → List ℕ) (r : ℕ) → ((a : ℕ) → a < r → f a ≡ g a) → map f (range_with_len 0 r) ≡ map g (range_with_len 0 r)
rows_same f g r h = ext_get_or [] (map f (range_with_len 0 r)) (map g (range_with_len 0 r))
    (length-map-range_with_len f 0 r ∙ sym (length-map-range_with_len g 0 r))
    (λ i l. let b : i < r = (let n = length-map-range_with_len f 0 r in omega arith) in
    get_or-map-range_with_len f 0 r i i [] b (omega arith) ∙ h i b ∙ sym (get_or-map-range_with_len g 0 r i i [] b (omega arith)))

row_more : (f : ℕ → List ℕ) (r : ℕ) → map f (range_with_len 0 (suc r)) ≡ map f (range_with_len 0 r) ++ f r ∷ []
row_more f r = ext_get_or [] (map f (range_with_len 0 (suc r))) (map f (range_with_len 0 r) ++ f r ∷ [])
    (length-map-range_with_len f 0 (suc r) ∙ (let n = length-map-range_with_len f 0 r in let m = length-append (map f (range_with_len 0 r)) (f r ∷ []) in omega arith))
    (λ i l. at i (let n = length-map-range_with_len f 0 (suc r) in omega arith) (cases_lt i r))
  where
    at : (i : ℕ) → i < suc r → (i < r) ⊎ (r ≤ i) → get_or (map f (range_with_len 0 (suc r))) i [] ≡ get_or (map f (range_with_len 0 r) ++ f r ∷ []) i []
    at i l (inl b) =
        let n = length-map-range_with_len f 0 r in
        get_or-map-range_with_len f 0 (suc r) i i [] l (omega arith) ∙ sym (get_or-map-range_with_len f 0 r i i [] b (omega arith))
        ∙ sym (get_or-append (map f (range_with_len 0 r)) (f r ∷ []) [] i (omega arith))
    at i l (inr b) =
        let e : length (map f (range_with_len 0 r)) ≡ i = length-map-range_with_len f 0 r ∙ omega arith in
        get_or-map-range_with_len f 0 (suc r) i r [] l (omega arith)
        ∙ sym (get_or-append_seam (map f (range_with_len 0 r)) (f r) [] []) ∙ ap (λ n. get_or (map f (range_with_len 0 r) ++ f r ∷ []) n []) e

given_row : (d : Parts) (a : ℕ) (row : List ℕ) → length d.places ≡ length row → ((y : ℕ) → y < length row → time_of d a y ≡ Some (get_or row y 0)) → minutes_from (known_times d) a ≡ row
given_row d a row n h = ext_get_or 0 (minutes_from (known_times d) a) row (length-map-range_with_len (λ b. minutes_of (known_times d) a b) 0 (length d.places) ∙ n)
    (λ i l. let b : i < length d.places = (let m = length-map-range_with_len (λ b. minutes_of (known_times d) a b) 0 (length d.places) in omega arith) in
    get_or-map-range_with_len (λ b. minutes_of (known_times d) a b) 0 (length d.places) i i 0 b (omega arith) ∙ at i (omega arith))
  where
    at : (i : ℕ) → i < length row → minutes_of (known_times d) a i ≡ get_or row i 0
    at i l = rw (h i l)

-- the parts after one row of travel times more
pub travel_parts : (d : Parts) (r : ℕ) (row : List ℕ) → r < length d.times → length d.places ≡ length row
    → instance_so_far (with_row d r row) (suc r) ≡ record (instance_so_far d r) { travel = (instance_so_far d r).travel ++ row ∷ [] }
travel_parts d r row below n =
    let new : Parts = with_row d r row in
    let last : minutes_from (known_times new) r ≡ row = given_row new r row n (λ y l. time_in_row d r y row below l) in
    let before : map (minutes_from (known_times new)) (range_with_len 0 r) ≡ map (minutes_from (known_times d)) (range_with_len 0 r) =
    rows_same (minutes_from (known_times new)) (minutes_from (known_times d)) r (λ a l. same_row a (λ y. time_elsewhere d r a y row (λ e. absurd (omega arith)))) in
    let travel : map (minutes_from (known_times new)) (range_with_len 0 (suc r)) ≡ map (minutes_from (known_times d)) (range_with_len 0 r) ++ row ∷ [] =
    row_more (minutes_from (known_times new)) r ∙ ap (λ x. map (minutes_from (known_times new)) (range_with_len 0 r) ++ x ∷ []) last ∙ ap (λ x. x ++ row ∷ []) before in
    ap (λ rows. record (instance_so_far d r) { travel = rows }) travel
  where
    same_row : (a : ℕ) → ((y : ℕ) → time_of (with_row d r row) a y ≡ time_of d a y) → minutes_from (known_times (with_row d r row)) a ≡ minutes_from (known_times d) a
    same_row a h = ext_get_or 0 (minutes_from (known_times (with_row d r row)) a) (minutes_from (known_times d) a)
        (length-map-range_with_len (λ b. minutes_of (known_times (with_row d r row)) a b) 0 (length d.places) ∙ sym (length-map-range_with_len (λ b. minutes_of (known_times d) a b) 0 (length d.places)))
        (λ i l. let b : i < length d.places = (let m = length-map-range_with_len (λ b. minutes_of (known_times (with_row d r row)) a b) 0 (length d.places) in omega arith) in
        get_or-map-range_with_len (λ b. minutes_of (known_times (with_row d r row)) a b) 0 (length d.places) i i 0 b (omega arith)
        ∙ minutes i ∙ sym (get_or-map-range_with_len (λ b. minutes_of (known_times d) a b) 0 (length d.places) i i 0 b (omega arith)))
      where
        minutes : (y : ℕ) → minutes_of (known_times (with_row d r row)) a y ≡ minutes_of (known_times d) a y
        minutes y = rw (h y)

-- ---- one row after another, for the fields that the line spells

pub size_more : (form : DossierForm) (ws : Words) (z : Size) (said : Answer) → IsSize z → ws ≡ size_line z
    → GoesOn (places_due (record { form = form; size = z }) z.places nothing) said → size_row form ws said
size_more form ws z said fits is rest = Holds (_, is, refl) (Spelled z fits is rest)

place_shape : (ws : Words) (name : List ℕ) → ws ≡ place_line name → IsShape (codes "place") 1 ws
place_shape ws name is = (name ∷ [], is, refl)

pub team_says : (o : Opening) (k : ℕ) (i : Instance) (ws : Words) (p : Team × List ℕ) (said : Answer) → IsTeamLine o.size.places p → ws ≡ team_words p
    → after_team o k i (record p.0 { skills = mask_of p.1 }) (IsStrictlyIncreasing p.1) said → team_row o k i ws said
team_says o k i ws p said fits is rest = Holds (_, is, omega arith)
    (Holds (subst (λ w. IsName (slice_index_or w 1 [])) (sym is) fits.name) (Spelled p fits is rest))

pub task_says : (o : Opening) (k : ℕ) (i : Instance) (ws : Words) (p : Task × List ℕ) (said : Answer) → IsTaskLine o.size.places p → ws ≡ task_words p
    → after_task o k i (record p.0 { skills = mask_of p.1 }) (IsStrictlyIncreasing p.1) said → task_row o k i ws said
task_says o k i ws p said fits is rest = Holds (_, is, omega arith)
    (Holds (subst (λ w. IsName (slice_index_or w 1 [])) (sym is) fits.name) (Spelled p fits is rest))

-- nothing of a list has what none has
pub none_of : {A : Type 0} (P : A → Type 0) (xs : List A) → (Any P xs → ⊥) → All (λ x. P x → ⊥) xs
none_of P xs h = λ k d l p. h (k, get_or xs k d, l, get_or_default xs k (get_or xs k d) d l, p)

-- a shift and a window are the same whatever the skills
same_shift : (t : Team) (skills : ℕ) → IsShift t → IsShift (record t { skills = skills })
same_shift t skills s = record { order = s.order; day = s.day }

same_window : (t : Task) (skills : ℕ) → IsWindow t → IsWindow (record t { skills = skills })
same_window t skills w = record { order = w.order; width = w.width; day = w.day; some_minutes = w.some_minutes; minutes = w.minutes }

-- the rules of a team, told by its value and whether its skills rise
pub team_rules : (o : Opening) (k : ℕ) (i : Instance) (t : Team) (ss : List ℕ) (Rises : Type 0) (said : Answer)
    → (Rises → IsStrictlyIncreasing ss × (t.skills ≡ mask_of ss)) → ((Rises → ⊥) → IsStrictlyIncreasing ss → ⊥)
    → after_team o k i t Rises said → after_team o k i (record t { skills = mask_of ss }) (IsStrictlyIncreasing ss) said
team_rules o k i t ss Rises said rise fall (Fails broken told) = Fails broken told
team_rules o k i t ss Rises said rise fall (Holds new (Fails broken told)) =
    Holds new (Fails (λ h. fall (λ r. broken (same_shift (record t { skills = mask_of ss }) t.skills h.0, r)) h.1) told)
team_rules o k i t ss Rises said rise fall (Holds new (Holds fact (On e))) =
    let y = rise fact.1 in
    Holds new (Holds (same_shift t (mask_of ss) fact.0, y.0) (On (e ∙ ap (λ s. Goes (teams_due o k (record i { teams = i.teams ++ record t { skills = s } ∷ [] }))) y.1)))

pub task_rules : (o : Opening) (k : ℕ) (i : Instance) (t : Task) (ss : List ℕ) (Rises : Type 0) (said : Answer)
    → (Rises → IsStrictlyIncreasing ss × (t.skills ≡ mask_of ss)) → ((Rises → ⊥) → IsStrictlyIncreasing ss → ⊥)
    → after_task o k i t Rises said → after_task o k i (record t { skills = mask_of ss }) (IsStrictlyIncreasing ss) said
task_rules o k i t ss Rises said rise fall (Fails broken told) = Fails broken told
task_rules o k i t ss Rises said rise fall (Holds new (Fails broken told)) =
    Holds new (Fails (λ h. fall (λ r. broken (same_window (record t { skills = mask_of ss }) t.skills h.0, r)) h.1) told)
task_rules o k i t ss Rises said rise fall (Holds new (Holds fact (On e))) =
    let y = rise fact.1 in
    Holds new (Holds (same_window t (mask_of ss) fact.0, y.0) (On (e ∙ ap (λ s. Goes (tasks_due o k (record i { tasks = i.tasks ++ record t { skills = s } ∷ []; frozen = i.frozen ++ None ∷ [] }))) y.1)))

pub place_says : (o : Opening) (k : ℕ) (i : Instance) (ws : Words) (name : List ℕ) (said : Answer) → IsName name → ws ≡ place_line name
    → after_place o k i name said → place_row o k i ws said
place_says o k i ws name said fits is rest = Holds (place_shape ws name is) (Spelled name fits is rest)

pub travel_says : (o : Opening) (k : ℕ) (i : Instance) (ws : Words) (row : List ℕ) (said : Answer) → IsTravel o.size.places row → ws ≡ travel_line row
    → after_travel o k i row said → travel_row o k i ws said
travel_says o k i ws row said fits is rest = Holds (map decimal row, is, length-map row decimal ∙ fits.count) (Spelled row fits is rest)
