-- a day's state without its plans and frozen jobs: what it refuses, and how it goes on
use Rattle.std.proofs.Common.{◌≡◌, ◌≤◌, ◌++◌, ◌∷◌, [], ℕ, List, Option, None, Some, length, refl, ap, sym, ◌∙◌, subst, option_map, arith}
use Rattle.std.specs.Prelude.{fold}
use Rattle.std.specs.Option.{option_or}
use Rattle.crew_terms.specs.Plan.{Plan as Jobs}
use Rattle.day_terms.specs.declared.Entry.{Entry}
use Rattle.day_terms.specs.declared.Entry.TheVariants.{Place, Travel, RouteTime, DefaultTravel, Team, Task, Cancel, Move, Longer, Needs, Sick, Shift, Skill, Unskill, Plan, Now, Thaw}
use Rattle.day_terms.specs.State.{DayState}
use Rattle.day_terms.specs.Entries.{after_entry, after_round}
use Rattle.day_terms.specs.Refusal.{AreTaken, Refusal, FrozenWork, refusal_by_lists, refusal_of, work_against}

-- the state with its lists and times alone
abbrev pub free : DayState → DayState
free s = record s { last_plan = []; frozen = []; plans = [] }

-- frozen work forbids nothing where no job is frozen
abbrev pub NoneForbidden : Type 0
NoneForbidden = (s : DayState) (entry : Entry) → s.frozen ≡ [] → work_against s entry ≡ None

lists_decide : (s : DayState) (entry : Entry) → refusal_by_lists (free s) entry ≡ refusal_by_lists s entry
lists_decide s (Place name) = refl
lists_decide s (Travel from to minutes) = refl
lists_decide s (RouteTime from to minutes) = refl
lists_decide s (DefaultTravel minutes) = refl
lists_decide s (Team name home from until skills) = refl
lists_decide s (Task name place earliest latest minutes teams skills) = refl
lists_decide s (Cancel task) = refl
lists_decide s (Move task earliest latest) = refl
lists_decide s (Longer task minutes) = refl
lists_decide s (Needs task teams) = refl
lists_decide s (Sick team) = refl
lists_decide s (Shift team from until) = refl
lists_decide s (Skill team skill) = refl
lists_decide s (Unskill team skill) = refl
lists_decide s (Plan nodes) = refl
lists_decide s (Now time) = refl
lists_decide s (Thaw task) = refl

round_is_free : (s : DayState) (plans : List Jobs) → free s ≡ free (after_round s plans)
round_is_free s [] = refl
round_is_free s (p ∷ ps) = refl

goes_on_free : (s : DayState) (entry : Entry) → after_entry (free s) entry ≡ free (after_entry s entry)
goes_on_free s (Place name) = refl
goes_on_free s (Travel from to minutes) = refl
goes_on_free s (RouteTime from to minutes) = refl
goes_on_free s (DefaultTravel minutes) = refl
goes_on_free s (Team name home from until skills) = refl
goes_on_free s (Task name place earliest latest minutes teams skills) = refl
goes_on_free s (Cancel task) = refl
goes_on_free s (Move task earliest latest) = refl
goes_on_free s (Longer task minutes) = refl
goes_on_free s (Needs task teams) = refl
goes_on_free s (Sick team) = refl
goes_on_free s (Shift team from until) = refl
goes_on_free s (Skill team skill) = refl
goes_on_free s (Unskill team skill) = refl
goes_on_free s (Plan nodes) = round_is_free s s.plans
goes_on_free s (Now time) = refl
goes_on_free s (Thaw task) = refl

-- behind entries the state is free where it began so
pub all_free : (s : DayState) (entries : List Entry) → fold after_entry (free s) entries ≡ free (fold after_entry s entries)
all_free s [] = refl
all_free s (x ∷ xs) = ap (λ t. fold after_entry t xs) (goes_on_free s x) ∙ all_free (after_entry s x) xs

or_none : (told : Option Refusal) → option_or told None ≡ told
or_none None = refl
or_none (Some r) = refl

-- the entry is refused by the lists, or they take it and it is refused for the sake of frozen work
pub data Refuses (s : DayState) (entry : Entry) (refusal : Refusal) : Type 0 where
  ByLists : (refused : refusal_of (free s) entry ≡ Some refusal) → Refuses s entry refusal
  ForWork : (taken : refusal_of (free s) entry ≡ None) (task : List ℕ) (is : refusal ≡ FrozenWork task) → Refuses s entry refusal

module _ (none_forbidden : NoneForbidden) where
  free_by_lists : (s : DayState) (entry : Entry) → refusal_of (free s) entry ≡ refusal_by_lists s entry
  free_by_lists s entry =
      ap (λ against. option_or (refusal_by_lists (free s) entry) (option_map FrozenWork against)) (none_forbidden (free s) entry refl)
      ∙ or_none (refusal_by_lists (free s) entry) ∙ lists_decide s entry

  no_refusal : (told : Option Refusal) (against : Option (List ℕ)) → option_or told (option_map FrozenWork against) ≡ None → told ≡ None
  no_refusal None against e = refl
  no_refusal (Some r) against e = absurd (cc)

  -- what the state takes is taken where it is free
  pub taken_free : (s : DayState) (entry : Entry) → refusal_of s entry ≡ None → refusal_of (free s) entry ≡ None
  taken_free s entry e = free_by_lists s entry ∙ no_refusal (refusal_by_lists s entry) (work_against s entry) e

  pub all_taken_free : (s : DayState) (entries : List Entry) → AreTaken s entries → AreTaken (free s) entries
  all_taken_free s [] taken = tt
  all_taken_free s (x ∷ xs) taken =
      (taken_free s x taken.0, subst (λ t. AreTaken t xs) (sym (goes_on_free s x)) (all_taken_free (after_entry s x) xs taken.1))

  by_lists_or_work : (s : DayState) (entry : Entry) (refusal : Refusal) (told : Option Refusal) (against : Option (List ℕ)) → refusal_of (free s) entry ≡ told
      → option_or told (option_map FrozenWork against) ≡ Some refusal → Refuses s entry refusal
  by_lists_or_work s entry refusal None None e is = absurd (cc)
  by_lists_or_work s entry refusal None (Some task) e is = ForWork e task (cc)
  by_lists_or_work s entry refusal (Some r) against e is = ByLists (e ∙ is)

  pub refuses : (s : DayState) (entry : Entry) (refusal : Refusal) → refusal_of s entry ≡ Some refusal → Refuses s entry refusal
  refuses s entry refusal e = by_lists_or_work s entry refusal (refusal_by_lists s entry) (work_against s entry) (free_by_lists s entry) e

-- behind entries that are taken, one that is not stands not among them
pub not_among : (s : DayState) (taken back front others : List Entry) (entry : Entry) (refusal : Refusal) → AreTaken s taken
    → refusal_of (fold after_entry s front) entry ≡ Some refusal → taken ++ back ≡ front ++ entry ∷ others → length taken ≤ length front
not_among s [] back front others entry refusal are refused e = omega arith
not_among s (x ∷ xs) back [] others entry refusal are refused e =
    let same : x ≡ entry = cc in
    absurd (let taken : refusal_of s entry ≡ None = subst (λ y. refusal_of s y ≡ None) same are.0 in cc)
not_among s (x ∷ xs) back (y ∷ ys) others entry refusal are refused e =
    let same : y ≡ x = cc in
    let rest : xs ++ back ≡ ys ++ entry ∷ others = cc in
    let n = not_among (after_entry s x) xs back ys others entry refusal are.1 (subst (λ z. refusal_of (fold after_entry (after_entry s z) ys) entry ≡ Some refusal) same refused) rest in
    omega arith
