-- the rows of a run are in lowest terms: no number but 1 divides all numbers of a row
use Rattle.std.proofs.Common.{◌≡◌, ◌<◌, ◌*◌, ◌∙◌, ℕ, suc, List, [], ◌∷◌, ◌++◌, length, get_or, ap, sym, arith, subst, length-append}
use Rattle.std.specs.Prelude.{pos, unsigned_abs}
use Rattle.std.specs.Int.{◌∣◌}
use Rattle.std.proofs.lemmas.Int.{unsigned_abs-mul}
use Rattle.std.proofs.lemmas.List.{get_or_append_left}
use Rattle.std.proofs.Math.Nat.{dvd_of_mul-dvd-mul_left, eq-one_of_dvd-one, mul-dvd-mul_left}
use Rattle.crew_terms.specs.Limits.{Limits, Route}
use Rattle.search_terms.specs.Rows.{Row, Rows, number, row_of}
use Rattle.search_terms.specs.Opening.{places, opening, opening_basis, entry}
use Rattle.search_terms.specs.Pivot.{IsReplaced}
use Rattle.search_terms.specs.MasterRun.{MasterRun}
use Rattle.search_terms.specs.MasterRun.MasterRun.{Opens, Pivots, Enters}
use Rattle.master_laws.proofs.Solutions.{by_row}
use Rattle.master_laws.proofs.Entering.{count_entered, row_entered}
use Rattle.master_laws.proofs.Positions.{count, rows_count, openers_count, opening_width}
use Rattle.master_laws.proofs.Opened.{own_one}
use Rattle.master_laws.proofs.Costs.{opening_within}

-- d divides each number of the row
abbrev pub DividesAll : ℕ → Row → Type 0
DividesAll d row = (j : ℕ) → j < length row → d ∣ unsigned_abs (number row j)

-- no number but 1 divides all numbers of a row
pub record AreLowest (t : Rows) : Type 0 where
  pub each : (h : ℕ) → h < length t.rows → (d : ℕ) → DividesAll d (row_of t h) → d ≡ 1

-- a replaced row is in lowest terms
replaced_lowest : (pivot : Row) (v : ℕ) (row new : Row) (d : ℕ) → IsReplaced pivot v row new → DividesAll d new → d ≡ 1
replaced_lowest pivot v row new d r all =
    let g = r.factor in
    let some = r.some in
    let e : g * d ∣ g = r.greatest (g * d) (λ j lt.
    let in' : j < length new = omega (arith, r.width) in
    let m = mul-dvd-mul_left d g (all j in') in
    let a = sym (unsigned_abs-mul (pos g) (number new j)) ∙ ap unsigned_abs (r.each j lt) in
    subst (λ k. g * d ∣ k) a m) in
    let one : g ≡ g * 1 = omega arith in
    eq-one_of_dvd-one (dvd_of_mul-dvd-mul_left d some (subst (λ k. g * d ∣ k) one e))

opening_lowest : (n : Limits) → AreLowest (opening n)
opening_lowest n = record {
  each = λ h lt d all.
      let below : h < suc (count n) = omega (arith, rows_count n) in
      let w = opening_within n (length (row_of (opening n) h)) (let q = opening_width n h below in omega arith) in
      let i = get_or (opening_basis (places n)) h 0 in
      let a = all i (w.each h (omega (arith, openers_count n))) in
      eq-one_of_dvd-one (subst (λ z. d ∣ unsigned_abs z) (own_one n h below) a);
}

pub lowest_run : (n : Limits) (may : Rows → Type 0) (routes : List Route) (made : ℕ) (t : Rows) → MasterRun n may routes made t → AreLowest t
lowest_run n may _ _ _ Opens = opening_lowest n
lowest_run n may _ _ _ (Pivots {routes} {made} {t} {next} run p) =
    let again = lowest_run n may routes made t run in
    record {
      each = λ h lt d all.
          let at : h < length t.rows = omega (arith, p.pivot.count) in
          by_row t next p.v p.h h (d ≡ 1) p.pivot at
          (λ e same. again.each h at d (subst (DividesAll d) e all))
          (λ r ne. replaced_lowest (row_of t p.h) p.v (row_of t h) (row_of next h) d r all);
    }
lowest_run n may _ _ _ (Enters {routes} {made} {t} r run m) =
    let again = lowest_run n may routes made t run in
    record {
      each = λ h lt d all.
          let at : h < length t.rows = omega (arith, count_entered n r t) in
          let row = row_of t h in
          let e = entry (places n) r row in
          let wide = subst (DividesAll d) (row_entered n r t h at) all in
          again.each h at d (λ j in_j.
          let in' : j < length (row ++ e ∷ []) = omega (arith, length-append row (e ∷ [])) in
          subst (λ z. d ∣ unsigned_abs z) (get_or_append_left row (e ∷ []) (pos 0) j in_j) (wide j in'));
    }
