-- the minutes at which a team may begin a task, counted
use Rattle.std.proofs.Common.{◌≡◌, ◌<◌, ◌≤◌, ◌+◌, ◌-◌, ◌↔◌, ℕ, suc, List, [], ◌∷◌, ◌++◌, length, get_or, ap, sym, subst, ◌∙◌, arith, true, false, ◌⊎◌, inl, inr}
use Rattle.std.specs.Option.{is_some}
use Rattle.std.specs.Prelude.{◌≢◌, ℤ, pos, Option, None, Some, MatchOption, nat_lt}
use Rattle.std.proofs.lemmas.Bool.{cases_lt, cases_eq, lt-ltb}
use Rattle.crew_terms.specs.Limits.{Limits, IsPermittedVisit, tasks_in}
use Rattle.dossier_terms.specs.Dossier.{Potentials, phi_in}
use Rattle.crew_terms.specs.Minutes.{first_minute, minute_count, IsMinuteOf}
use Rattle.node_limits.specs.Minutes.{AreMinutes, HasNoMinute}
use Rattle.potentials.specs.Table.{PotentialRow, phi}
use Rattle.leaf_check.specs.Keys.{AreCounted, IsNextKey, IsRowDue, has_minutes}
use Rattle.leaf_check.specs.Reader.{below_next}
use Rattle.leaf_check.proofs.Listed.{row_new, row_other}

-- the minutes that are counted are those at which the team may begin the task
abbrev pub Law : Type 0
Law = (n : Limits) (k j t : ℕ) → IsPermittedVisit n k j t ↔ IsMinuteOf n k j t

pub counted : Law → (n : Limits) (k j a b : ℕ) → AreMinutes n k j a b → AreCounted n k j a (b + 1 - a)
counted law n k j a b are =
    let order = are.order in
    let first = (law n k j a).0 ((are.each a).1 (omega arith, omega arith)) in
    let last = (law n k j b).0 ((are.each b).1 (omega arith, omega arith)) in
    let f = first_minute n k j in
    let m = minute_count n k j in
    let x = first.from in
    let y = first.until in
    let z = last.from in
    let w = last.until in
    let begins = (are.each f).0 ((law n k j f).1 (record { known = first.known; from = omega arith; until = omega arith })) in
    let ends = (are.each (f + m - 1)).0 ((law n k j (f + m - 1)).1 (record { known = first.known; from = omega arith; until = omega arith })) in
    let g = begins.0 in
    let h = ends.1 in
    record { some = omega arith; opens = omega arith; counted = omega arith }

pub uncounted : Law → (n : Limits) (k j : ℕ) → j < tasks_in n → HasNoMinute n k j → minute_count n k j ≡ 0
uncounted law n k j known none = by (cases_lt 0 (minute_count n k j))
  where
    by : (0 < minute_count n k j) ⊎ (minute_count n k j ≤ 0) → minute_count n k j ≡ 0
    by (inr l) = omega arith
    by (inl l) = absurd (none (first_minute n k j) ((law n k j (first_minute n k j)).1 (record { known = known; from = omega arith; until = omega arith })))

-- there is a minute where some are counted
pub found : Law → (n : Limits) (k j : ℕ) (m : Option (ℕ × ℕ)) → j < tasks_in n → MatchOption m (HasNoMinute n k j) (λ m. AreMinutes n k j m.0 m.1) → is_some m ≡ has_minutes n k j
found law n k j None known none = sym (ap (nat_lt 0) (uncounted law n k j known none))
found law n k j (Some m) known are =
    let c = counted law n k j m.0 m.1 are in
    sym (lt-ltb 0 (minute_count n k j) (subst (λ count. 0 < count) c.counted c.some))

-- a task that the team may begin is one with minutes
pub may_begin : Law → (n : Limits) (k j t : ℕ) → IsPermittedVisit n k j t → has_minutes n k j ≡ true
may_begin law n k j t visit =
    let m = (law n k j t).0 visit in
    let from = m.from in
    let until = m.until in
    lt-ltb 0 (minute_count n k j) (omega arith)

-- a task that is passed over has no minute
passed_over : Law → (n : Limits) (k from : ℕ) (next : Option ℕ) → IsNextKey (has_minutes n k) (tasks_in n) from next
    → (j t : ℕ) → from ≤ j → j < below_next n next → IsPermittedVisit n k j t → ⊥
passed_over law n k from None h j t a b visit = let e : true ≡ false = sym (may_begin law n k j t visit) ∙ h j a b in cc
passed_over law n k from (Some i) h j t a b visit = let e : true ≡ false = sym (may_begin law n k j t visit) ∙ h.3 j a b in cc

-- before a team's first task
pub none_yet : Law → (n : Limits) (k : ℕ) (next : Option ℕ) (kept : List PotentialRow) (table : Potentials) → IsNextKey (has_minutes n k) (tasks_in n) 0 next
    → (j t : ℕ) → j < below_next n next → IsPermittedVisit n k j t → phi kept j t ≡ phi_in n k table j t
none_yet law n k next kept table h j t b visit = absurd (passed_over law n k 0 next h j t (omega arith) b visit)

-- after one more row
module _ (law : Law) (n : Limits) (k : ℕ) (table : Potentials) (j : ℕ) (js : List ℕ) (row : List ℤ) (old new : List PotentialRow) (first : ℕ)
    (due : IsRowDue (has_minutes n k) (tasks_in n) table.phi j js)
    (so : (i t : ℕ) → i < j → IsPermittedVisit n k i t → phi old i t ≡ phi_in n k table i t)
    (counts : AreCounted n k j first (length row))
    (given : (m : ℕ) → m < length row → phi new j (first + m) ≡ get_or row m (pos 0))
    (others : (h t : ℕ) → h ≢ j → phi new h t ≡ phi old h t) where
  abbrev pub longer : Potentials
  longer = record { worth = table.worth; phi = table.phi ++ row ∷ [] }

  here : (t : ℕ) → IsPermittedVisit n k j t → phi new j t ≡ phi_in n k longer j t
  here t visit =
      let m = (law n k j t).0 visit in
      let from = m.from in
      let until = m.until in
      let f = counts.opens in
      let c = counts.counted in
      let e : first + (t - first) ≡ t = omega arith in
      ap (phi new j) (sym e)
      ∙ given (t - first) (omega arith)
      ∙ ap (λ x. get_or row (t - x) (pos 0)) f
      ∙ ap (λ r. get_or r (t - first_minute n k j) (pos 0)) (sym (row_new (has_minutes n k) (tasks_in n) table.phi j js due row []))

  before : (i t : ℕ) → i < j → IsPermittedVisit n k i t → phi new i t ≡ phi_in n k longer i t
  before i t l visit =
      let differ : i ≢ j = λ e. absurd (omega arith) in
      others i t differ
      ∙ so i t l visit
      ∙ ap (λ r. get_or r (t - first_minute n k i) (pos 0)) (sym (row_other (has_minutes n k) (tasks_in n) table.phi j js due row [] i differ))

  pub one_more : (next : Option ℕ) → IsNextKey (has_minutes n k) (tasks_in n) (suc j) next
      → (i t : ℕ) → i < below_next n next → IsPermittedVisit n k i t → phi new i t ≡ phi_in n k longer i t
  one_more next h i t b visit = by (cases_lt i j) (cases_eq i j)
    where
      by : (i < j) ⊎ (j ≤ i) → (i ≡ j) ⊎ (i ≡ j → ⊥) → phi new i t ≡ phi_in n k longer i t
      by (inl l) _ = before i t l visit
      by (inr l) (inl e) = let v : IsPermittedVisit n k j t = subst (λ x. IsPermittedVisit n k x t) e visit in ap (λ x. phi new x t) e ∙ here t v ∙ ap (λ x. phi_in n k longer x t) (sym e)
      by (inr l) (inr ne) = absurd (passed_over law n k (suc j) next h i t (let d : i ≢ j = ne in omega arith) b visit)
