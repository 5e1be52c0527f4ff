-- what a builder answers, as steps of the checker
use Rattle.std.proofs.Common.{◌≡◌, ◌≢◌, ◌≤◌, ◌<◌, ◌+◌, ◌-◌, ◌++◌, ℕ, zero, suc, List, [], ◌∷◌, length, map, get_or, ap, subst, sym, refl, ◌∙◌, arith, ◌⊎◌, inl, inr, Option, None, Some, Result}
use Rattle.std.specs.Prelude.{ℤ, pos, All, IsTrue, MatchOption, is_some, unwrap_or}
use Rattle.std.specs.List.Sorted.{IsStrictlyIncreasing}
use Rattle.std.proofs.lemmas.Bool.{cases_lt, cases_eq}
use Rattle.crew_terms.specs.declared.Team.{Team}
use Rattle.crew_terms.specs.declared.Task.{Task}
use Rattle.crew_instance.specs.Draft.{Draft as Parts, time_of, with_row, with_task}
use Rattle.crew_instance.specs.Rules.{HasTeam, HasTask, TakesTeam, TakesTask}
use Rattle.crew_terms.specs.Rules.{IsShift, IsWindow}
use Rattle.crew_terms.specs.declared.TheConstants.{MOST_TEAMS, MOST_TASKS, LAST_MINUTE, WIDEST_WINDOW}
use Rattle.dossier_terms.specs.declared.DossierForm.{DossierForm}
use Rattle.dossier_terms.specs.declared.Size.{Size}
use Rattle.dossier_terms.specs.Dossier.{mask_of}
use Rattle.dossier_terms.specs.Reading.{Opening, teams_due, tasks_due}
use Rattle.dossier_terms.specs.Rules.{Holds, Goes}
use Rattle.head_check.specs.Numbers.{naturals, AreBelow}
use Rattle.head_check.specs.Head.{IsHead, HeadTells, instance_so_far}
use Rattle.dossier_terms.specs.HeadTable.{after_team, after_task}
use Rattle.head_check.specs.declared.due.HeadDue.{HeadDue}
use Rattle.line_in.specs.declared.refusals.Refusal.{Refusal}
use Rattle.head_check.proofs.Steps.{told_by}
use Rattle.head_check.proofs.GivenRow.{time_in_row, time_elsewhere}
use Rattle.head_check.proofs.HeadRows.{none_of}
use Rattle.head_check.specs.NumbersBack.{naturals-pos}

pub at_most : (a b : ℕ) → ((a ≤ b → ⊥) → ⊥) → a ≤ b
at_most a b h = elim (cases_lt b a) [
  | inl l ↦ absurd (h (λ le. absurd (omega arith)))
  | inr l ↦ l
]

-- a shift and a window that aren't refused
shift_held : (t : Team) → ((IsShift t → ⊥) → ⊥) → IsShift t
shift_held t h = record {
  order = at_most (suc t.from) t.until (λ no. h (λ s. no s.order));
  day = at_most t.until LAST_MINUTE (λ no. h (λ s. no s.day));
}

window_held : (t : Task) → ((IsWindow t → ⊥) → ⊥) → IsWindow t
window_held t h = record {
  order = at_most t.earliest t.latest (λ no. h (λ w. no w.order));
  width = at_most (t.latest - t.earliest) WIDEST_WINDOW (λ no. h (λ w. no w.width));
  day = at_most t.latest LAST_MINUTE (λ no. h (λ w. no w.day));
  some_minutes = at_most 1 t.minutes (λ no. h (λ w. no w.some_minutes));
  minutes = at_most t.minutes LAST_MINUTE (λ no. h (λ w. no w.minutes));
}

-- a team that is taken
pub team_more : (o : Opening) (k : ℕ) (d new : Parts) (p : ℕ) (t : Team) (Rises : Type 0) (step : Result HeadDue Refusal) → Rises
    → length d.teams < MOST_TEAMS → length d.places ≡ p → t.home < p
    → ((length d.teams < MOST_TEAMS) × HasTeam d t.name → ⊥)
    → (TakesTeam d t.name × (t.home < length d.places) × (IsShift t → ⊥) → ⊥)
    → new ≡ record d { teams = d.teams ++ t ∷ [] } → HeadTells (Goes (teams_due o k (instance_so_far new p))) step → HeadTells (after_team o k (instance_so_far d p) t Rises) step
team_more o k d new p t Rises step rises room places home same shift is next =
    let held = shift_held t (λ broken. shift (record { room = room; new = λ has. same (room, has) }, omega arith, broken)) in
    told_by step next (λ said rest. Holds (none_of (λ (x : Team). x.name ≡ t.name) d.teams (λ has. same (room, has)))
    (Holds (held, rises) (subst (λ x. Goes (teams_due o k (instance_so_far x p)) said) is rest)))

-- a task that is taken
pub task_more : (o : Opening) (k : ℕ) (d new : Parts) (p : ℕ) (t : Task) (Rises : Type 0) (step : Result HeadDue Refusal) → Rises
    → length d.tasks < MOST_TASKS → length d.places ≡ p → t.place < p
    → ((length d.tasks < MOST_TASKS) × HasTask d t.name → ⊥)
    → (TakesTask d t.name × (t.place < length d.places) × (IsWindow t → ⊥) → ⊥)
    → new ≡ with_task d t → HeadTells (Goes (tasks_due o k (instance_so_far new p))) step → HeadTells (after_task o k (instance_so_far d p) t Rises) step
task_more o k d new p t Rises step rises room places place same window is next =
    let held = window_held t (λ broken. window (record { room = room; new = λ has. same (room, has) }, omega arith, broken)) in
    told_by step next (λ said rest. Holds (none_of (λ (x : Task). x.name ≡ t.name) d.tasks (λ has. same (room, has)))
    (Holds (held, rises) (subst (λ x. Goes (tasks_due o k (instance_so_far x p)) said) is rest)))

-- a row of travel times more is given
pub head_more : (form : DossierForm) (z : Size) (d : Parts) (r p : ℕ) (row : List ℕ) → IsHead (record { form = form; size = z; builder = d }) p r 0 0
    → r < length d.times → length row ≡ p → IsHead (record { form = form; size = z; builder = with_row d r row }) p (r + 1) 0 0
head_more form z d r p row h below n = record { size = h.size; places = h.places; given = λ a b l m. at a b l m (cases_eq a r); teams = h.teams; tasks = h.tasks; frozen = h.frozen }
  where
    at : (a b : ℕ) → a < r + 1 → b < length d.places → (a ≡ r) ⊎ (a ≢ r) → time_of (with_row d r row) a b ≢ None
    at a b l m (inl e) none =
        let q = h.places in
        let f : Some (get_or row b 0) ≡ None = sym (time_in_row d r b row below (omega arith)) ∙ ap (λ x. time_of (with_row d r row) x b) (sym e) ∙ none in cc
    at a b l m (inr ne) none = h.given a b (omega arith) m (sym (time_elsewhere d r a b row ne) ∙ none)

pub minutes_below : (row : List ℕ) → All (λ t. t ≤ LAST_MINUTE) row → AreBelow (LAST_MINUTE + 1) (map pos row)
minutes_below [] h k d l = absurd (omega arith)
minutes_below (t ∷ row) h zero d l = (t, refl, (let a = h 0 0 (omega arith) in omega arith))
minutes_below (t ∷ row) h (suc k) d l = minutes_below row (λ n x m. h (suc n) x (omega arith)) k d (omega arith)

-- what a set of skills says of the list that the line spells
pub set_facts : (skills : List ℤ) (ss : List ℕ) (set : Option ℕ) → skills ≡ map pos ss
    → MatchOption set (IsStrictlyIncreasing (naturals skills) → ⊥) (λ s. IsStrictlyIncreasing (naturals skills) × (s ≡ mask_of (naturals skills)))
    → (IsTrue (is_some set) → IsStrictlyIncreasing ss × (unwrap_or set 0 ≡ mask_of ss)) × ((IsTrue (is_some set) → ⊥) → IsStrictlyIncreasing ss → ⊥)
set_facts skills ss set e h = facts set (subst (λ ns. MatchOption set (IsStrictlyIncreasing ns → ⊥) (λ s. IsStrictlyIncreasing ns × (s ≡ mask_of ns))) (ap naturals e ∙ naturals-pos ss) h)
  where
    facts : (set : Option ℕ) → MatchOption set (IsStrictlyIncreasing ss → ⊥) (λ s. IsStrictlyIncreasing ss × (s ≡ mask_of ss))
        → (IsTrue (is_some set) → IsStrictlyIncreasing ss × (unwrap_or set 0 ≡ mask_of ss)) × ((IsTrue (is_some set) → ⊥) → IsStrictlyIncreasing ss → ⊥)
    facts None h = ((λ t. absurd (cc)), (λ no r. h r))
    facts (Some s) h = ((λ t. h), (λ no r. no refl))
