-- the potentials of a row, at the minutes at which the team may begin its task
use Rattle.std.proofs.Common.{◌≡◌, ◌≤◌, ◌<◌, ◌+◌, ◌-◌, ◌↔◌, ℕ, ℤ, List, [], length, get_or, ap, ◌∙◌, sym, ◌⊎◌, inl, inr, arith, Vec, Global}
use Rattle.std.specs.Prelude.{pos}
use Rattle.std.proofs.lemmas.Bool.{cases_lt}
use Rattle.std.proofs.lemmas.List.{get_or-map, length-map}
use Rattle.crew_instance.specs.Draft.{rows_of}
use Rattle.crew_terms.specs.Instance.{task_of}
use Rattle.crew_terms.specs.Limits.{Limits, IsPermittedVisit, tasks_in}
use Rattle.crew_terms.specs.Minutes.{IsMinuteOf, first_minute, minute_count}
use Rattle.node_limits.specs.Minutes.{AreMinutes, HasNoMinute}
use Rattle.potentials.specs.Rules.{AreVisits}
use Rattle.minute_rules.specs.Rules.{AreTeamRows, phi_by}

-- a kept row is the one that it stands for
pub row_is : (vs : List (Vec ℤ Global)) (j : ℕ) (row : Vec ℤ Global) → j < length vs → row ≡ get_or vs j row → get_or (rows_of vs) j [] ≡ row.items
row_is vs j row short read = get_or-map (λ v. v.items) vs j row [] short ∙ ap (λ v. v.items) (sym read)

pub rows_length : (vs : List (Vec ℤ Global)) → length (rows_of vs) ≡ length vs
rows_length vs = length-map vs (λ v. v.items)

module _ (law : (n : Limits) (k j t : ℕ) → IsPermittedVisit n k j t ↔ IsMinuteOf n k j t) (n : Limits) (k j : ℕ) where
  -- the counted minutes begin with the first one
  pub first_is : (a b : ℕ) → AreMinutes n k j a b → (first_minute n k j ≡ a) × (first_minute n k j + minute_count n k j ≡ b + 1)
  first_is a b are =
      let order = are.order in
      let from_a = (law n k j a).0 ((are.each a).1 (omega arith, omega arith)) in
      let from_b = (law n k j b).0 ((are.each b).1 (omega arith, omega arith)) in
      let a_from = from_a.from in
      let a_until = from_a.until in
      let b_until = from_b.until in
      let first = (are.each (first_minute n k j)).0 ((law n k j (first_minute n k j)).1 (record { known = from_a.known; from = omega arith; until = omega arith })) in
      let last = (are.each (first_minute n k j + minute_count n k j - 1)).0 ((law n k j (first_minute n k j + minute_count n k j - 1)).1 (record { known = from_a.known; from = omega arith; until = omega arith })) in
      let f = first.0 in
      let l = last.1 in
      (omega arith, omega arith)

  pub none_counted : j < tasks_in n → HasNoMinute n k j → minute_count n k j ≡ 0
  none_counted known none = by (cases_lt 0 (minute_count n k j))
    where
      by : (0 < minute_count n k j) ⊎ (minute_count n k j ≤ 0) → minute_count n k j ≡ 0
      by (inl some) = absurd (none (first_minute n k j) ((law n k j (first_minute n k j)).1 (record { known = known; from = omega arith; until = omega arith })))
      by (inr l) = omega arith

  module _ (rows : List (List ℤ)) (are : AreTeamRows n k rows) (known : j < tasks_in n) where
    pub visits_between : (a b : ℕ) → AreMinutes n k j a b → b ≤ (task_of n.instance j).latest → AreVisits n k j (phi_by n k rows) a (get_or rows j [])
    visits_between a b minutes late =
        let count = are.minutes j known in
        let is = first_is a b minutes in
        let opens = is.0 in
        let ends = is.1 in
        record {
          inside = λ x l. (minutes.each (a + x)).1 (omega arith, omega arith);
          all = λ t visit. let m = (minutes.each t).0 visit in let c = m.0 in let d = m.1 in (c, omega arith);
          each = λ x l. ap (λ m. get_or (get_or rows j []) m (pos 0)) (let e : x ≡ a + x - first_minute n k j = omega arith in e);
          late = omega arith;
        }

    pub no_visits : (first : ℕ) → HasNoMinute n k j → first ≤ (task_of n.instance j).latest → AreVisits n k j (phi_by n k rows) first (get_or rows j [])
    no_visits first none low =
        let count = are.minutes j known in
        let zero = none_counted known none in
        record {
          inside = λ x l. absurd (omega arith);
          all = λ t visit. absurd (none t visit);
          each = λ x l. absurd (omega arith);
          late = omega arith;
        }
