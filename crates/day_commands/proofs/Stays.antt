-- plans of the rounds of a day's entries that stay
use Rattle.std.proofs.Common.{◌≡◌, ◌++◌, ◌∷◌, [], ℕ, zero, suc, List, Option, Some, length, slice_get, take, ap, subst, sym, ◌∙◌, append_assoc, append-nil}
use Rattle.std.specs.Prelude.{count_by}
use Rattle.crew_terms.specs.Plan.{Plan as Jobs}
use Rattle.day_terms.specs.declared.Entry.{Entry}
use Rattle.day_terms.specs.declared.Entry.TheVariants.{Place, Travel, RouteTime, DefaultTravel, Team, Task, Cancel, Move, Longer, Needs, Sick, Shift, Skill, Unskill, Plan, Now, Thaw}
use Rattle.day_terms.specs.declared.Refused.{Refused}
use Rattle.day_terms.specs.Days.{IsDayOf}
use Rattle.day_terms.specs.State.{DayState, start_with}
use Rattle.day_terms.specs.Entries.{after_entry, after_round, state_after}
use Rattle.day_terms.specs.Laws.{is_plan}
use Rattle.day_terms.specs.Rounds.{round_at, rounds_of}
use Rattle.day_commands.specs.Staying.{EachStays, FirstStays, PlansStay, RoundStays}
use Rattle.day_commands.specs.ToCome.{PlansToCome}
use Rattle.day_commands.specs.declared.ended.DayOutput.{DayOutput}
use Rattle.day_commands.specs.declared.ended.DayOutput.TheVariants.{Instances, Dossiers}
use Rattle.day_commands.proofs.Days.{after_all}
use Rattle.day_commands.proofs.Texts.{HasAll}

-- where the entry is one of a plan, the plan of its round stays in the state, if it is known
abbrev StaysAt : DayState → Entry → Type 0
StaysAt s entry = (nodes : ℕ) → entry ≡ Plan nodes → RoundStays s

-- so it is of each of these entries, in the state that those before it come to
abbrev StayOver : DayState → List Entry → Type 0
StayOver s [] = Unit {0}
StayOver s (entry ∷ entries) = StaysAt s entry × StayOver (after_entry s entry) entries

over_more : (s : DayState) (entries : List Entry) (entry : Entry) → StayOver s entries → StaysAt (after_all s entries) entry → StayOver s (entries ++ entry ∷ [])
over_more s [] entry over at = (at, tt)
over_more s (x ∷ xs) entry over at = (over.0, over_more (after_entry s x) xs entry over.1 at)

each_over : (s : DayState) (entries : List Entry) → StayOver s entries → (n nodes : ℕ) → slice_get entries n ≡ Some (Plan nodes)
    → RoundStays (after_all s (take n entries))
each_over s [] over n nodes get = absurd (cc)
each_over s (x ∷ xs) over zero nodes get = over.0 nodes (let same : x ≡ Plan nodes = cc in same)
each_over s (x ∷ xs) over (suc n) nodes get = each_over (after_entry s x) xs over.1 n nodes get

-- ---- where no plan to come is known

none_behind : (s : DayState) (entry : Entry) → s.plans ≡ [] → (after_entry s entry).plans ≡ []
none_behind s (Place name) none = none
none_behind s (Travel from to minutes) none = none
none_behind s (RouteTime from to minutes) none = none
none_behind s (DefaultTravel minutes) none = none
none_behind s (Team name home from until skills) none = none
none_behind s (Task name place earliest latest minutes teams skills) none = none
none_behind s (Cancel task) none = none
none_behind s (Move task earliest latest) none = none
none_behind s (Longer task minutes) none = none
none_behind s (Needs task teams) none = none
none_behind s (Sick team) none = none
none_behind s (Shift team from until) none = none
none_behind s (Skill team skill) none = none
none_behind s (Unskill team skill) none = none
none_behind s (Plan nodes) none = ap (λ ps. (after_round s ps).plans) none ∙ none
none_behind s (Now time) none = none
none_behind s (Thaw task) none = none

over_none : (s : DayState) (entries : List Entry) → s.plans ≡ [] → StayOver s entries
over_none s [] none = tt
over_none s (x ∷ xs) none = ((λ nodes is. subst (FirstStays s) (sym none) tt), over_none (after_entry s x) xs (none_behind s x none))

over_then : (s : DayState) (front back : List Entry) → StayOver s front → (after_all s front).plans ≡ [] → StayOver s (front ++ back)
over_then s [] back over none = over_none s back none
over_then s (x ∷ xs) back over none = (over.0, over_then (after_entry s x) xs back over.1 none)

-- ---- the rounds of a day so far

-- the plans of the rounds of these entries stay, whichever those of later ones are
abbrev pub StayFor : DayOutput → List Jobs → List Entry → Type 0
StayFor Instances plans entries = Unit {0}
StayFor Dossiers plans entries = (later : List Jobs) → StayOver (start_with (plans ++ later)) entries

pub none_stay : (output : DayOutput) → StayFor output [] []
none_stay Instances = tt
none_stay Dossiers = λ later. tt

-- the first of the plans stays, where there is one at least
first_of_more : (s t : DayState) (more later : List Jobs) → s ≡ t → length more ≡ 1 → FirstStays s more → FirstStays (record t { plans = more ++ later }) (more ++ later)
first_of_more s t [] later same one first = absurd (cc)
first_of_more s t (p ∷ ps) later same one first = subst (λ x. FirstStays x (p ∷ ps)) same first

-- and the plan of one more entry's round, if it is one of a plan
pub stay_more : PlansToCome → (output : DayOutput) (plans more : List Jobs) (front : List Entry) (entry : Entry) (s : DayState) → s ≡ state_after plans front
    → HasAll output plans (rounds_of plans front) → HasAll output more (round_at s entry) → FirstStays s more → StayFor output plans front → StayFor output (plans ++ more) (front ++ entry ∷ [])
stay_more laws Instances plans more front entry s same has now first stay = tt
stay_more laws Dossiers plans more front entry s same has now first stay = λ later.
    let many : length plans ≡ count_by is_plan front = has ∙ laws.count plans front in
    let known = plans ++ (more ++ later) in
    let at : StaysAt (state_after known front) entry = λ nodes is.
    subst RoundStays (sym (laws.state plans (more ++ later) front many))
    (first_of_more s (state_after plans front) more later same (now ∙ ap (λ e. length (round_at s e)) is) first) in
    subst (λ ps. StayOver (start_with ps) (front ++ entry ∷ [])) (sym (append_assoc plans more later)) (over_more (start_with known) front entry (stay (more ++ later)) at)

over_all : PlansToCome → (output : DayOutput) (plans : List Jobs) (front back : List Entry) → HasAll output plans (rounds_of plans front) → StayFor output plans front → StayOver (start_with plans) (front ++ back)
over_all laws Instances plans front back has stay = over_none (start_with plans) (front ++ back) has
over_all laws Dossiers plans front back has stay =
    let many : length plans ≡ count_by is_plan front = has ∙ laws.count plans front in
    let same = append-nil plans in
    let none : (state_after plans front).plans ≡ [] = ap (λ ps. (state_after ps front).plans) (sym same) ∙ ap (λ (x : DayState). x.plans) (laws.state plans [] front many) in
    over_then (start_with plans) front back (subst (λ ps. StayOver (start_with ps) front) same (stay [])) none

-- those of the rounds of a front of the day's entries are all that are known
pub plans_stay : PlansToCome → (output : DayOutput) (plans : List Jobs) (text : List ℕ) (front back : List Entry) (last : Option Refused) → IsDayOf text (front ++ back) last
    → HasAll output plans (rounds_of plans front) → StayFor output plans front → PlansStay text plans
plans_stay laws output plans text front back last day has stay = λ entries refused other.
    subst (EachStays plans) (laws.reading text (front ++ back) entries last refused day other) (each_over (start_with plans) (front ++ back) (over_all laws output plans front back has stay))
