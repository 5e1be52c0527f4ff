-- the local rules of a team from those by place
use Rattle.std.proofs.Common.{◌≡◌, ◌≤◌, ◌<◌, ◌+◌, ℕ, ℤ, pos, ◌<ℤ◌, ◌≤ℤ◌, List, length, ◌⊎◌, inl, inr, ap, sym, subst, ◌∙◌, arith, ◌+ℤ◌, get_or, set, get_or-set_same, get_or-set_other}
use Rattle.std.specs.Prelude.{slice_get, Some, None}
use Rattle.std.specs.List.{Contains}
use Rattle.std.proofs.lemmas.Int.{ints}
use Rattle.std.proofs.lemmas.Bool.{cases_eq}
use Rattle.std.proofs.lemmas.Option.{get_or_from_slice_get, slice_get-get_or, slice_get_cases}
use Rattle.std.proofs.lemmas.List.Elements.{All-contains}
use Rattle.crew_terms.specs.Instance.{task_of}
use Rattle.crew_terms.specs.Limits.{Limits, IsPermittedVisit, IsPermittedStep, tasks_in}
use Rattle.crew_terms.specs.Leaf.{HoldsLocally, Prices, earned, reward}
use Rattle.potentials.specs.Ahead.{AllowsFall, IsBounded}
use Rattle.potentials.specs.Falls.{AreFalls}
use Rattle.potentials.specs.Quick.{AreBoundedBelow, AreFallsOf, HoldsByPlace, KeepFalls, away_for}
use Rattle.potentials.specs.Rules.{AreRecordsOf, AreVisits, KeepRecords}
use Rattle.potentials.specs.declared.ahead.Ahead.{Ahead}
use Rattle.potentials.specs.declared.records.Record.{Record}
use Rattle.potentials.specs.declared.records.Records.{Records}
use Rattle.potentials.proofs.Covered.{sign}
use Rattle.potentials.proofs.TeamRules.{place_of}

-- the falls of potentials are those of the permitted minutes
pub falls_of : (n : Limits) (k : ℕ) (phi : ℕ → ℕ → ℤ) (j first : ℕ) (potentials : List ℤ) (falls : List Record) → AreVisits n k j phi first potentials → AreFalls potentials first falls → AreFallsOf n k j phi falls
falls_of n k phi j first potentials falls are all t visit =
    let at = place_of n k phi j first potentials are t visit in
    let f = all at.0 at.1 in
    let e = at.2 in
    let g = at.3 in
    let m = f.2 in
    let p = f.3 in
    (f.0, f.1, omega arith, omega (arith, ints))

-- a visit earns nothing, or at most what a record that is no earlier does
pub record_of : (n : Limits) (k : ℕ) (phi : ℕ → ℕ → ℤ) (h : ℕ) (records : List Record) → AreRecordsOf n k h phi records → (u : ℕ) → IsPermittedVisit n k h u
    → (phi h u ≤ℤ pos 0) ⊎ ((r : Record) × Contains records r × (u ≤ r.minute) × (phi h u ≤ℤ r.potential))
record_of n k phi h records are u visit = by (sign (phi h u))
  where
    by : (phi h u ≤ℤ pos 0) ⊎ (pos 0 <ℤ phi h u) → (phi h u ≤ℤ pos 0) ⊎ ((r : Record) × Contains records r × (u ≤ r.minute) × (phi h u ≤ℤ r.potential))
    by (inl low) = inl low
    by (inr high) =
        let at = place_of n k phi h are.0 are.1 are.2 u visit in
        let e = at.2 in
        let g = at.3 in
        let r = are.3.all at.0 at.1 (omega (arith, ints)) in
        let m = r.2 in
        let p = r.3 in
        inr (r.0, r.1, omega arith, omega (arith, ints))

-- the falls of the tasks below m
abbrev pub FallsBelow : Limits → ℕ → (ℕ → ℕ → ℤ) → List Records → ℕ → Type 0
FallsBelow n k phi rows m = (j : ℕ) (row : Records) → j < m → slice_get rows j ≡ Some row → AreFallsOf n k j phi row.falls.list.items

-- and those of task m
pub falls_more : (n : Limits) (k : ℕ) (phi : ℕ → ℕ → ℤ) (rows : List Records) (m : ℕ) (found : Records) → m < length rows
    → FallsBelow n k phi rows m → AreFallsOf n k m phi found.falls.list.items → FallsBelow n k phi (set rows m found) (m + 1)
falls_more n k phi rows m found inside before here j row below read = by (cases_eq j m)
  where
    is : get_or (set rows m found) j row ≡ row
    is = get_or_from_slice_get (set rows m found) j row row read

    by : (j ≡ m) ⊎ (j ≡ m → ⊥) → AreFallsOf n k j phi row.falls.list.items
    by (inl e) =
        let same : found ≡ row = sym (get_or-set_same rows m found row inside) ∙ ap (λ h. get_or (set rows m found) h row) (sym e) ∙ is in
        subst (λ (r : Records). AreFallsOf n k j phi r.falls.list.items) same (subst (λ h. AreFallsOf n k h phi found.falls.list.items) (sym e) here)
    by (inr ne) =
        let known : j < length rows = omega arith in
        before j row (omega arith) (slice_get-get_or rows j row known ∙ ap Some (sym (get_or-set_other rows m j found row ne) ∙ is))

-- the rules by place of the tasks below m
abbrev pub ByPlaceBelow : Limits → ℕ → Prices → ℤ → List Records → List Ahead → ℕ → Type 0
ByPlaceBelow n k p worth rows ahead m = (j : ℕ) (row : Records) → j < m → slice_get rows j ≡ Some row → HoldsByPlace n.instance j (reward p k j) worth row ahead

module _ (n : Limits) (k : ℕ) (p : Prices) (worth : ℤ) (rows : List Records) (ahead : List Ahead) (phi : ℕ → ℕ → ℤ)
    (count : length rows ≡ tasks_in n) (idle : pos 0 ≤ℤ worth)
    (records : KeepRecords n k phi rows) (falls : KeepFalls n k phi rows) (bounded : AreBoundedBelow n.instance ahead rows (tasks_in n)) (rules : ByPlaceBelow n k p worth rows ahead (tasks_in n)) where
  row_of : (j : ℕ) → j < tasks_in n → (row : Records) × (slice_get rows j ≡ Some row)
  row_of j known = by (slice_get_cases rows j).1
    where
      by : ((row : Records) × (j < length rows) × (slice_get rows j ≡ Some row) × (get_or rows j row ≡ row)) ⊎ ((length rows ≤ j) × (slice_get rows j ≡ None)) → (row : Records) × (slice_get rows j ≡ Some row)
      by (inl (row, inside, read, is)) = (row, read)
      by (inr (past, none)) = absurd (omega arith)

  -- a fall of a visit, and what the rules by place say of it
  record HasRules (j t : ℕ) : Type 0 where
    row : Records
    fall : Record
    of_row : Contains row.falls.list.items fall
    read : slice_get rows j ≡ Some row
    by_place : HoldsByPlace n.instance j (reward p k j) worth row ahead
    minute : fall.minute ≤ t
    low : fall.potential ≤ℤ phi j t
    paid : reward p k j ≤ℤ fall.potential

  rules_at : (j t : ℕ) → IsPermittedVisit n k j t → HasRules j t
  rules_at j t visit =
      let at = row_of j visit.known in
      let by_place = rules j at.0 visit.known at.1 in
      let f = falls j at.0 at.1 t visit in
      record {
        row = at.0;
        fall = f.0;
        of_row = f.1;
        read = at.1;
        by_place = by_place;
        minute = f.2;
        low = f.3;
        paid = All-contains (λ (g : Record). reward p k j ≤ℤ g.potential) at.0.falls.list.items f.0 by_place.alone f.1;
      }

  follows : (j t h u : ℕ) → IsPermittedVisit n k j t → IsPermittedVisit n k h u → IsPermittedStep n j t h u → (reward p k j +ℤ phi h u) ≤ℤ phi j t
  follows j t h u visit next step =
      let here = rules_at j t visit in
      let to = row_of h next.known in
      by here to (record_of n k phi h to.0.list.items (records h to.0 to.1) u next)
    where
      by : HasRules j t → (to : (row : Records) × (slice_get rows h ≡ Some row)) → ((phi h u ≤ℤ pos 0) ⊎ ((r : Record) × Contains to.0.list.items r × (u ≤ r.minute) × (phi h u ≤ℤ r.potential))) → (reward p k j +ℤ phi h u) ≤ℤ phi j t
      by here to (inl nothing) =
          let a = here.paid in
          let b = here.low in
          omega (arith, ints)
      by here to (inr (r, has, late, high)) =
          let at = bounded h to.0 next.known to.1 in
          let place = (task_of n.instance h).place in
          let held = All-contains (IsBounded at.0.list.items h) to.0.list.items r at.2 has in
          let allowed = All-contains (AllowsFall at.0.list.items j (reward p k j) (away_for n.instance j place)) here.row.falls.list.items here.fall (here.by_place.steps place at.0 at.1) here.of_row in
          let m = here.minute in
          let after = step.follow in
          let low = allowed h r (λ e. step.other (sym e)) held (omega arith) in
          let b = here.low in
          omega (arith, ints)

  most : (j t : ℕ) → IsPermittedVisit n k j t → phi j t ≤ℤ worth
  most j t visit =
      let here = rules_at j t visit in
      by here (record_of n k phi j here.row.list.items (records j here.row here.read) t visit)
    where
      by : (here : HasRules j t) → ((phi j t ≤ℤ pos 0) ⊎ ((r : Record) × Contains here.row.list.items r × (t ≤ r.minute) × (phi j t ≤ℤ r.potential))) → phi j t ≤ℤ worth
      by here (inl nothing) = omega (arith, ints)
      by here (inr (r, has, late, high)) =
          let low = All-contains (λ (s : Record). s.potential ≤ℤ worth) here.row.list.items r here.by_place.most has in
          omega (arith, ints)

  pub holds_by_place : HoldsLocally n k (earned p k) phi worth
  holds_by_place = record {
    tasks = λ j. record {
      alone = λ t visit. let here = rules_at j t visit in let a = here.paid in let b = here.low in omega (arith, ints);
      step = λ t h u visit next step. follows j t h u visit next step;
    };
    worth_rules = record { most = most; idle = idle };
  }
