-- the rounds of entries, one after another
use Rattle.std.proofs.Common.{◌≡◌, ◌+◌, ◌++◌, ℕ, true, false, cond, List, [], ◌∷◌, Some, length, refl, ap, sym, ◌∙◌, subst, append_assoc, append-nil, fold, count_by, slice_get, arith}
use Rattle.std.proofs.lemmas.List.Recursion.{is_count_by}
use Rattle.std.proofs.lemmas.List.Sums.{fold-append}
use Rattle.day_terms.specs.declared.Entry.{Entry}
use Rattle.day_terms.specs.declared.Entry.TheVariants.{Place, Travel, RouteTime, DefaultTravel, Team, Task, Cancel, Move, Longer, Needs, Sick, Shift, Skill, Unskill, Plan, Now, Thaw}
use Rattle.day_terms.specs.State.{DayState, start, start_with}
use Rattle.day_terms.specs.Entries.{after_entry, state_after}
use Rattle.day_terms.specs.Rounds.{Round, round_at, rounds_from, rounds_of}
use Rattle.day_terms.specs.Instances.{day_instance}
use Rattle.day_terms.specs.Laws.{is_plan}
use Rattle.day_terms.specs.Refusal.{AreTaken, refusal_of}
use Rattle.day_terms.specs.ByTest.{by_test}
use Rattle.day_terms.specs.Work.{after_plan}
use Rattle.crew_terms.specs.Plan.{Plan as Jobs}

pub state_more : (plans : List Jobs) (entries : List Entry) (entry : Entry) → state_after plans (entries ++ entry ∷ []) ≡ after_entry (state_after plans entries) entry
state_more plans entries entry = fold-append after_entry (start_with plans) entries (entry ∷ [])

append_from : (s : DayState) (front back : List Entry) → rounds_from s (front ++ back) ≡ rounds_from s front ++ rounds_from (fold after_entry s front) back
append_from s [] back = refl
append_from s (entry ∷ front) back =
    ap (λ r. round_at s entry ++ r) (append_from (after_entry s entry) front back)
    ∙ sym (append_assoc (round_at s entry) (rounds_from (after_entry s entry) front) (rounds_from (fold after_entry (after_entry s entry) front) back))

pub appended : (known : List Jobs) (front back : List Entry) → rounds_of known (front ++ back) ≡ rounds_of known front ++ rounds_from (state_after known front) back
appended known front back = append_from (start_with known) front back

pub one_more : (known : List Jobs) (entries : List Entry) (entry : Entry) → rounds_of known (entries ++ entry ∷ []) ≡ rounds_of known entries ++ round_at (state_after known entries) entry
one_more known entries entry = appended known entries (entry ∷ []) ∙ ap (λ r. rounds_of known entries ++ r) (append-nil (round_at (state_after known entries) entry))

-- an entry begins a round where it is one of a plan
count_step : (s : DayState) (entry : Entry) (rest : List Round) (n : ℕ) → length rest ≡ n → length (round_at s entry ++ rest) ≡ cond (is_plan entry) (1 + n) n
count_step s (Place name) rest n e = e
count_step s (Travel from to minutes) rest n e = e
count_step s (RouteTime from to minutes) rest n e = e
count_step s (DefaultTravel minutes) rest n e = e
count_step s (Team name home from until skills) rest n e = e
count_step s (Task name place earliest latest minutes teams skills) rest n e = e
count_step s (Cancel task) rest n e = e
count_step s (Move task earliest latest) rest n e = e
count_step s (Longer task minutes) rest n e = e
count_step s (Needs task teams) rest n e = e
count_step s (Sick team) rest n e = e
count_step s (Shift team from until) rest n e = e
count_step s (Skill team skill) rest n e = e
count_step s (Unskill team skill) rest n e = e
count_step s (Plan nodes) rest n e = omega (arith, e)
count_step s (Now time) rest n e = e
count_step s (Thaw task) rest n e = e

abbrev plans : List Entry → ℕ
plans [] = 0
plans (entry ∷ entries) = cond (is_plan entry) (1 + plans entries) (plans entries)

count_from : (s : DayState) (entries : List Entry) → length (rounds_from s entries) ≡ plans entries
count_from s [] = refl
count_from s (entry ∷ entries) = count_step s entry (rounds_from (after_entry s entry) entries) (plans entries) (count_from (after_entry s entry) entries)

count_is : (entries : List Entry) → plans entries ≡ count_by is_plan entries
count_is entries = is_count_by plans is_plan refl (λ _ _. refl) entries

pub count : (known : List Jobs) (entries : List Entry) → length (rounds_of known entries) ≡ count_by is_plan entries
count known entries = count_from (start_with known) entries ∙ count_is entries

at_seam : {X : Type 0} (xs : List X) (y : X) (ys : List X) → slice_get (xs ++ y ∷ ys) (length xs) ≡ Some y
at_seam [] y ys = refl
at_seam (x ∷ xs) y ys = at_seam xs y ys

pub each : (known : List Jobs) → ((front back : List Entry) → rounds_of known (front ++ back) ≡ rounds_of known front ++ rounds_from (state_after known front) back)
    → (front back : List Entry) (nodes : ℕ)
    → slice_get (rounds_of known (front ++ Plan nodes ∷ back)) (count_by is_plan front) ≡ Some (record { instance = day_instance (state_after known front); nodes = nodes })
each known law front back nodes =
    subst (λ n. slice_get (rounds_of known (front ++ Plan nodes ∷ back)) n ≡ Some (record { instance = day_instance (state_after known front); nodes = nodes })) (count known front)
    (ap (λ rs. slice_get rs (length (rounds_of known front))) (law front (Plan nodes ∷ back))
    ∙ at_seam (rounds_of known front) (record { instance = day_instance (state_after known front); nodes = nodes }) (rounds_from (after_entry (state_after known front) (Plan nodes)) back))

-- ---- plans of later rounds

-- with other plans to come
abbrev knowing : DayState → List Jobs → DayState
knowing s known = record s { plans = known }

-- what is refused, and frozen, does not depend on them
step_later : (s : DayState) (entry : Entry) (known more : List Jobs) → is_plan entry ≡ false → after_entry (knowing s more) entry ≡ knowing (after_entry (knowing s known) entry) more
step_later s (Place name) known more n = refl
step_later s (Travel from to minutes) known more n = refl
step_later s (RouteTime from to minutes) known more n = refl
step_later s (DefaultTravel minutes) known more n = refl
step_later s (Team name home from until skills) known more n = refl
step_later s (Task name place earliest latest minutes teams skills) known more n = refl
step_later s (Cancel task) known more n = refl
step_later s (Move task earliest latest) known more n = refl
step_later s (Longer task minutes) known more n = refl
step_later s (Needs task teams) known more n = refl
step_later s (Sick team) known more n = refl
step_later s (Shift team from until) known more n = refl
step_later s (Skill team skill) known more n = refl
step_later s (Unskill team skill) known more n = refl
step_later s (Plan nodes) known more n = absurd (cc)
step_later s (Now time) known more n = refl
step_later s (Thaw task) known more n = refl

plan_is : (entry : Entry) → is_plan entry ≡ true → (nodes : ℕ) × (entry ≡ Plan nodes)
plan_is (Place name) is = absurd (cc)
plan_is (Travel from to minutes) is = absurd (cc)
plan_is (RouteTime from to minutes) is = absurd (cc)
plan_is (DefaultTravel minutes) is = absurd (cc)
plan_is (Team name home from until skills) is = absurd (cc)
plan_is (Task name place earliest latest minutes teams skills) is = absurd (cc)
plan_is (Cancel task) is = absurd (cc)
plan_is (Move task earliest latest) is = absurd (cc)
plan_is (Longer task minutes) is = absurd (cc)
plan_is (Needs task teams) is = absurd (cc)
plan_is (Sick team) is = absurd (cc)
plan_is (Shift team from until) is = absurd (cc)
plan_is (Skill team skill) is = absurd (cc)
plan_is (Unskill team skill) is = absurd (cc)
plan_is (Plan nodes) is = (nodes, refl)
plan_is (Now time) is = absurd (cc)
plan_is (Thaw task) is = absurd (cc)

round_same : (s : DayState) (entry : Entry) (known more : List Jobs) → round_at (knowing s known) entry ≡ round_at (knowing s more) entry
round_same s (Place name) known more = refl
round_same s (Travel from to minutes) known more = refl
round_same s (RouteTime from to minutes) known more = refl
round_same s (DefaultTravel minutes) known more = refl
round_same s (Team name home from until skills) known more = refl
round_same s (Task name place earliest latest minutes teams skills) known more = refl
round_same s (Cancel task) known more = refl
round_same s (Move task earliest latest) known more = refl
round_same s (Longer task minutes) known more = refl
round_same s (Needs task teams) known more = refl
round_same s (Sick team) known more = refl
round_same s (Shift team from until) known more = refl
round_same s (Skill team skill) known more = refl
round_same s (Unskill team skill) known more = refl
round_same s (Plan nodes) known more = refl
round_same s (Now time) known more = refl
round_same s (Thaw task) known more = refl

pub refusal_same : (s : DayState) (known : List Jobs) (entry : Entry) → refusal_of (knowing s known) entry ≡ refusal_of s entry
refusal_same s known (Place name) = refl
refusal_same s known (Travel from to minutes) = refl
refusal_same s known (RouteTime from to minutes) = refl
refusal_same s known (DefaultTravel minutes) = refl
refusal_same s known (Team name home from until skills) = refl
refusal_same s known (Task name place earliest latest minutes teams skills) = refl
refusal_same s known (Cancel task) = refl
refusal_same s known (Move task earliest latest) = refl
refusal_same s known (Longer task minutes) = refl
refusal_same s known (Needs task teams) = refl
refusal_same s known (Sick team) = refl
refusal_same s known (Shift team from until) = refl
refusal_same s known (Skill team skill) = refl
refusal_same s known (Unskill team skill) = refl
refusal_same s known (Plan nodes) = refl
refusal_same s known (Now time) = refl
refusal_same s known (Thaw task) = refl

-- where as many plans are known as there are rounds, further ones are left behind them
state_later_from : (s : DayState) (known more : List Jobs) (entries : List Entry) → length known ≡ plans entries
    → fold after_entry (knowing s (known ++ more)) entries ≡ knowing (fold after_entry (knowing s known) entries) more
state_later_from s [] more [] n = refl
state_later_from s (p ∷ ps) more [] n = absurd (cc)
state_later_from s known more (entry ∷ entries) n = by_test (is_plan entry) (at_round (λ s known. state_later_from s known more entries) known n) (other (λ s known. state_later_from s known more entries))
  where
    other : ((s : DayState) (known : List Jobs) → length known ≡ plans entries
        → fold after_entry (knowing s (known ++ more)) entries ≡ knowing (fold after_entry (knowing s known) entries) more) → is_plan entry ≡ false → fold after_entry (knowing s (known ++ more)) (entry ∷ entries) ≡ knowing (fold after_entry (knowing s known) (entry ∷ entries)) more
    other rest is =
        let next = after_entry (knowing s []) entry in
        let same : length known ≡ plans entries = n ∙ ap (λ b. cond b (1 + plans entries) (plans entries)) is in
        ap (λ x. fold after_entry x entries) (step_later s entry [] (known ++ more) is)
        ∙ rest next known same
        ∙ ap (λ x. knowing (fold after_entry x entries) more) (sym (step_later s entry [] known is))

    at_round : ((s : DayState) (known : List Jobs) → length known ≡ plans entries
        → fold after_entry (knowing s (known ++ more)) entries ≡ knowing (fold after_entry (knowing s known) entries) more) → (known : List Jobs) → length known ≡ plans (entry ∷ entries) → is_plan entry ≡ true
        → fold after_entry (knowing s (known ++ more)) (entry ∷ entries) ≡ knowing (fold after_entry (knowing s known) (entry ∷ entries)) more
    at_round rest [] n is = absurd (let e : 0 ≡ 1 + plans entries = n ∙ ap (λ b. cond b (1 + plans entries) (plans entries)) is in omega (arith, e))
    at_round rest (p ∷ ps) n is =
        let e = (plan_is entry is).1 in
        let same : length ps ≡ plans entries = (let k : length (p ∷ ps) ≡ 1 + plans entries = n ∙ ap (λ b. cond b (1 + plans entries) (plans entries)) is in omega (arith, k)) in
        ap (λ x. fold after_entry (after_entry (knowing s (p ∷ ps ++ more)) x) entries) e
        ∙ rest (after_plan s p) ps same
        ∙ ap (λ x. knowing (fold after_entry (after_entry (knowing s (p ∷ ps)) x) entries) more) (sym e)

rounds_later_from : (s : DayState) (known more : List Jobs) (entries : List Entry) → length known ≡ plans entries
    → rounds_from (knowing s (known ++ more)) entries ≡ rounds_from (knowing s known) entries
rounds_later_from s known more [] n = refl
rounds_later_from s known more (entry ∷ entries) n = by_test (is_plan entry) (at_round (λ s known. rounds_later_from s known more entries) known n) (other (λ s known. rounds_later_from s known more entries))
  where
    other : ((s : DayState) (known : List Jobs) → length known ≡ plans entries → rounds_from (knowing s (known ++ more)) entries ≡ rounds_from (knowing s known) entries) → is_plan entry ≡ false → rounds_from (knowing s (known ++ more)) (entry ∷ entries) ≡ rounds_from (knowing s known) (entry ∷ entries)
    other rest is =
        let next = after_entry (knowing s []) entry in
        let same : length known ≡ plans entries = n ∙ ap (λ b. cond b (1 + plans entries) (plans entries)) is in
        ap (λ r. r ++ rounds_from (after_entry (knowing s (known ++ more)) entry) entries) (round_same s entry (known ++ more) known)
        ∙ ap (λ x. round_at (knowing s known) entry ++ rounds_from x entries) (step_later s entry [] (known ++ more) is)
        ∙ ap (λ r. round_at (knowing s known) entry ++ r) (rest next known same)
        ∙ ap (λ x. round_at (knowing s known) entry ++ rounds_from x entries) (sym (step_later s entry [] known is))

    at_round : ((s : DayState) (known : List Jobs) → length known ≡ plans entries → rounds_from (knowing s (known ++ more)) entries ≡ rounds_from (knowing s known) entries) → (known : List Jobs) → length known ≡ plans (entry ∷ entries) → is_plan entry ≡ true
        → rounds_from (knowing s (known ++ more)) (entry ∷ entries) ≡ rounds_from (knowing s known) (entry ∷ entries)
    at_round rest [] n is = absurd (let e : 0 ≡ 1 + plans entries = n ∙ ap (λ b. cond b (1 + plans entries) (plans entries)) is in omega (arith, e))
    at_round rest (p ∷ ps) n is =
        let e = (plan_is entry is).1 in
        let same : length ps ≡ plans entries = (let k : length (p ∷ ps) ≡ 1 + plans entries = n ∙ ap (λ b. cond b (1 + plans entries) (plans entries)) is in omega (arith, k)) in
        ap (λ r. r ++ rounds_from (after_entry (knowing s (p ∷ ps ++ more)) entry) entries) (round_same s entry (p ∷ ps ++ more) (p ∷ ps))
        ∙ ap (λ x. round_at (knowing s (p ∷ ps)) entry ++ rounds_from (after_entry (knowing s (p ∷ ps ++ more)) x) entries) e
        ∙ ap (λ r. round_at (knowing s (p ∷ ps)) entry ++ r) (rest (after_plan s p) ps same)
        ∙ ap (λ x. round_at (knowing s (p ∷ ps)) entry ++ rounds_from (after_entry (knowing s (p ∷ ps)) x) entries) (sym e)

taken_later_from : (s : DayState) (known more : List Jobs) (entries : List Entry) → length known ≡ plans entries
    → AreTaken (knowing s known) entries → AreTaken (knowing s (known ++ more)) entries
taken_later_from s known more [] n taken = tt
taken_later_from s known more (entry ∷ entries) n taken =
    by_test (is_plan entry) (at_round (λ s known. taken_later_from s known more entries) known n taken) (other (λ s known. taken_later_from s known more entries))
  where
    other : ((s : DayState) (known : List Jobs) → length known ≡ plans entries → AreTaken (knowing s known) entries → AreTaken (knowing s (known ++ more)) entries) → is_plan entry ≡ false
        → AreTaken (knowing s (known ++ more)) (entry ∷ entries)
    other rest is =
        let next = after_entry (knowing s []) entry in
        let same : length known ≡ plans entries = n ∙ ap (λ b. cond b (1 + plans entries) (plans entries)) is in (
          refusal_same s (known ++ more) entry ∙ sym (refusal_same s known entry) ∙ taken.0,
          subst (λ x. AreTaken x entries) (sym (step_later s entry [] (known ++ more) is))
              (rest next known same (subst (λ x. AreTaken x entries) (step_later s entry [] known is) taken.1)),
        )

    at_round : ((s : DayState) (known : List Jobs) → length known ≡ plans entries → AreTaken (knowing s known) entries → AreTaken (knowing s (known ++ more)) entries)
        → (known : List Jobs) → length known ≡ plans (entry ∷ entries) → AreTaken (knowing s known) (entry ∷ entries) → is_plan entry ≡ true
        → AreTaken (knowing s (known ++ more)) (entry ∷ entries)
    at_round rest [] n taken is = absurd (let e : 0 ≡ 1 + plans entries = n ∙ ap (λ b. cond b (1 + plans entries) (plans entries)) is in omega (arith, e))
    at_round rest (p ∷ ps) n taken is =
        let e = (plan_is entry is).1 in
        let same : length ps ≡ plans entries = (let k : length (p ∷ ps) ≡ 1 + plans entries = n ∙ ap (λ b. cond b (1 + plans entries) (plans entries)) is in omega (arith, k)) in (
          refusal_same s (p ∷ ps ++ more) entry ∙ sym (refusal_same s (p ∷ ps) entry) ∙ taken.0,
          subst (λ x. AreTaken (after_entry (knowing s (p ∷ ps ++ more)) x) entries) (sym e)
              (rest (after_plan s p) ps same (subst (λ x. AreTaken (after_entry (knowing s (p ∷ ps)) x) entries) e taken.1)),
        )

pub rounds_same : (s : DayState) (known : List Jobs) (entry : Entry) → round_at (knowing s known) entry ≡ round_at s entry
rounds_same s known entry = round_same s entry known s.plans

pub state_later : (known more : List Jobs) (entries : List Entry) → length known ≡ count_by is_plan entries → state_after (known ++ more) entries ≡ record (state_after known entries) { plans = more }
state_later known more entries n = state_later_from start known more entries (n ∙ sym (count_is entries))

pub rounds_later : (known more : List Jobs) (entries : List Entry) → length known ≡ count_by is_plan entries → rounds_of (known ++ more) entries ≡ rounds_of known entries
rounds_later known more entries n = rounds_later_from start known more entries (n ∙ sym (count_is entries))

pub taken_later : (known more : List Jobs) (entries : List Entry) → length known ≡ count_by is_plan entries → AreTaken (start_with known) entries → AreTaken (start_with (known ++ more)) entries
taken_later known more entries n = taken_later_from start known more entries (n ∙ sym (count_is entries))
