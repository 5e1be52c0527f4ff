-- the minutes at which a team may begin a task, and the lists of tasks and teams
use Rattle.std.proofs.Common.{◌≡◌, ◌<◌, ◌≤◌, ◌+◌, ◌-◌, ◌^◌, ℕ, zero, suc, ap, sym, refl, ◌∙◌, subst, arith, Bool, true, false, cond, ltb, min, ◌⊎◌, inl, inr}
use Rattle.std.specs.Prelude.{◌≢◌, ◌==◌, ◌&&◌, bit_and}
use Rattle.std.specs.Int.{bit_at}
use Rattle.std.proofs.lemmas.Nat.{and_comm}
use Rattle.std.proofs.lemmas.Bool.{cases_lt, ltb-true, lt-ltb, eqb-true, eq-eqb, and_parts, and_from}
use Rattle.crew_terms.specs.Instance.{team_of, task_of, minutes_between}
use Rattle.crew_terms.specs.Limits.{Limits, IsPermittedVisit, tasks_in, teams_in, window_of, pair_of, is_required, has_required}
use Rattle.crew_terms.specs.Minutes.{is_free_or_required, first_minute, minute_count, open_tasks, priced, required_teams, IsListOf, IsMinuteOf}
use Rattle.crew_terms.specs.declared.Pair.{Pair}
use Rattle.crew_terms.specs.declared.Pair.TheVariants.{Free, Forbidden, Required}
use Rattle.crew_terms.specs.Below.{some_below, any_below-some}
use Rattle.crew_terms.specs.Skills.{bits_had, has_bits}
use Rattle.crew_terms.specs.Listed.{list_of}
use Rattle.crew_terms.specs.Nodes.{required_is}

-- ---- skills

-- one set of skills lies in another
inside : (a b : ℕ) → ((s : ℕ) → bit_at a s ≡ 1 → bit_at b s ≡ 1) → bit_and a b ≡ a
inside a b h = and_comm a b ∙ bits_had b a h

of_inside : (a b : ℕ) → bit_and a b ≡ a → (s : ℕ) → bit_at a s ≡ 1 → bit_at b s ≡ 1
of_inside a b e = has_bits b a (and_comm b a ∙ e)

-- ---- minutes

may_be_used : (q : Pair) → q ≢ Forbidden → is_free_or_required q ≡ true
may_be_used Free h = refl
may_be_used Forbidden h = absurd (h refl)
may_be_used Required h = refl

is_used : (q : Pair) → is_free_or_required q ≡ true → q ≢ Forbidden
is_used q e f = let a : true ≡ false = sym e ∙ ap is_free_or_required f in cc

-- the team may do the task at some minute, as far as pairs and skills go
abbrev is_open : Limits → ℕ → ℕ → Bool
is_open n k j = is_free_or_required (pair_of n k j) && (bit_and (task_of n.instance j).skills (team_of n.instance k).skills == (task_of n.instance j).skills)

-- the first minute at which the team would be back too late
abbrev past : Limits → ℕ → ℕ → ℕ
past n k j = (team_of n.instance k).until + 1 - ((task_of n.instance j).minutes + minutes_between n.instance (task_of n.instance j).place (team_of n.instance k).home)

-- the first minute at which the team may not begin the task any more
abbrev stop : Limits → ℕ → ℕ → ℕ
stop n k j = min (past n k j) ((window_of n j).1 + 1)

counted : (b : Bool) (t x first : ℕ) → first ≤ t → t < first + cond b x 0 → (b ≡ true) × (t < first + x)
counted true t x first l m = (refl, m)
counted false t x first l m = absurd (omega arith)

pub permitted_minute : (n : Limits) (k j t : ℕ) → IsPermittedVisit n k j t → IsMinuteOf n k j t
permitted_minute n k j t h =
    let can : is_open n k j ≡ true =
    and_from _ _ (may_be_used (pair_of n k j) h.allowed) (eq-eqb _ _ (inside (task_of n.instance j).skills (team_of n.instance k).skills h.qualified)) in
    let from : first_minute n k j ≤ t = omega (arith, h.in_shift.comes, h.early) in
    let until : t < first_minute n k j + (stop n k j - first_minute n k j) = omega (arith, h.in_shift.returns, h.late) in
    record { known = h.known; from = from; until = subst (λ b. t < first_minute n k j + cond b (stop n k j - first_minute n k j) 0) (sym can) until }

pub minute_permitted : (n : Limits) (k j t : ℕ) → IsMinuteOf n k j t → IsPermittedVisit n k j t
minute_permitted n k j t h =
    let c = counted (is_open n k j) t (stop n k j - first_minute n k j) (first_minute n k j) h.from h.until in
    let test = and_parts (is_free_or_required (pair_of n k j)) (bit_and (task_of n.instance j).skills (team_of n.instance k).skills == (task_of n.instance j).skills) c.0 in
    record {
      known = h.known;
      qualified = of_inside (task_of n.instance j).skills (team_of n.instance k).skills (eqb-true _ _ test.1);
      allowed = is_used (pair_of n k j) test.0;
      early = omega (arith, h.from);
      late = omega (arith, h.from, c.1);
      in_shift = record { comes = omega (arith, h.from); returns = omega (arith, h.from, c.1) };
    }

-- ---- lists

some_minute : (n : Limits) (k j : ℕ) → ltb 0 (minute_count n k j) ≡ true → j < tasks_in n → (t : ℕ) × IsPermittedVisit n k j t
some_minute n k j e l = let a = ltb-true 0 (minute_count n k j) e in
    (first_minute n k j, minute_permitted n k j (first_minute n k j) (record { known = l; from = omega arith; until = omega arith }))

pub open_listed : (n : Limits) (k : ℕ) → IsListOf (λ j. (t : ℕ) × IsPermittedVisit n k j t) (open_tasks n k)
open_listed n k = list_of (λ j. (t : ℕ) × IsPermittedVisit n k j t) (λ j. ltb 0 (minute_count n k j)) (tasks_in n)
    (λ j l e. some_minute n k j e l)
    (λ j h. let m = permitted_minute n k j h.0 h.1 in (m.known, lt-ltb 0 (minute_count n k j) (omega (arith, m.from, m.until))))

pub required_listed : (n : Limits) (j : ℕ) → IsListOf (λ k. (k < teams_in n) × (pair_of n k j ≡ Required)) (required_teams n j)
required_listed n j = list_of (λ k. (k < teams_in n) × (pair_of n k j ≡ Required)) (λ k. is_required (pair_of n k j)) (teams_in n)
    (λ k l e. (l, required_is (pair_of n k j) e)) (λ k h. (h.0, ap is_required h.1))

pub priced_listed : (n : Limits) → IsListOf (λ j. (j < tasks_in n) × ((k : ℕ) × (k < teams_in n) × (pair_of n k j ≡ Required))) (priced n)
priced_listed n = list_of (λ j. (j < tasks_in n) × ((k : ℕ) × (k < teams_in n) × (pair_of n k j ≡ Required))) (has_required n) (tasks_in n)
    (λ j l e. let a = some_below (teams_in n) (λ k. is_required (pair_of n k j)) e in (l, (a.0, a.1, required_is (pair_of n a.0 j) a.2)))
    (λ j h. (h.0, any_below-some (teams_in n) (λ k. is_required (pair_of n k j)) h.1.0 h.1.1 (ap is_required h.1.2)))
