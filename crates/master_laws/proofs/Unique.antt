-- pivots and runs over a list are determined
use Rattle.std.proofs.Common.{◌≡◌, ◌≢◌, ◌<◌, ◌+◌, ℕ, suc, List, [], ◌∷◌, ◌++◌, length, get_or, refl, ap, sym, arith, ◌⊎◌, inl, inr, ◌∙◌, subst, append_assoc, append-nil, length-append}
use Rattle.std.specs.Prelude.{ℤ, pos, ◌-ℤ◌, ◌*ℤ◌, ◌<ℤ◌, unsigned_abs}
use Rattle.std.specs.Int.{◌∣◌}
use Rattle.std.proofs.Math.Nat.{le_antisymm, dvd-mul_right}
use Rattle.std.proofs.lemmas.Nat.Gcd.{dvd_antisymm}
use Rattle.std.proofs.lemmas.List.{append_cancel_left}
use Rattle.std.proofs.lemmas.List.FromFn.{fill_by_all}
use Rattle.std.proofs.lemmas.Int.{ints, unsigned_abs-mul}
use Rattle.std.proofs.lemmas.Bool.{cases_eq}
use Rattle.crew_terms.specs.Limits.{Limits, Route}
use Rattle.search_terms.specs.Rows.{Row, Rows, number, row_of, AreBasic}
use Rattle.search_terms.specs.Pivot.{IsPivot, IsPivotAt, IsReplaced, IsEntering, IsLeaving, IsImproving, IsOptimal, cleared}
use Rattle.search_terms.specs.Opening.{places, opening, entered}
use Rattle.search_terms.specs.MasterRun.{MasterRun, IsRunOver}
use Rattle.search_terms.specs.MasterRun.MasterRun.{Opens, Pivots, Enters}
use Rattle.crew_num.specs.Ring.{scale_diff, cancel_zero}
use Rattle.master_laws.proofs.Solutions.{by_row}
use Rattle.master_laws.proofs.Feasible.{basic_next}
use Rattle.master_laws.proofs.Entering.{basic_entered}

same_by_index : {X : Type 0} (d : X) (xs ys : List X) → length xs ≡ length ys → ((k : ℕ) → k < length ys → get_or xs k d ≡ get_or ys k d) → xs ≡ ys
same_by_index d xs ys e h =
    fill_by_all (λ k. get_or ys k d) xs (length ys) d e h ∙ sym (fill_by_all (λ k. get_or ys k d) ys (length ys) d refl (λ k below. refl))

divides_each : (g : ℕ) (z c : ℤ) → pos g *ℤ z ≡ c → g ∣ unsigned_abs c
divides_each g z c e = subst (λ k. g ∣ k) (sym (unsigned_abs-mul (pos g) z) ∙ ap unsigned_abs e) (dvd-mul_right g (unsigned_abs z))

pub cancel_same : (g : ℕ) (a b : ℤ) → 0 < g → pos g *ℤ a ≡ pos g *ℤ b → a ≡ b
cancel_same g a b some e =
    let f = scale_diff (pos g) a b in
    let k : pos 0 <ℤ pos g = omega (arith, ints) in
    let h : pos g *ℤ (a -ℤ b) ≡ pos 0 = omega (arith, ints) in
    let i = cancel_zero (pos g) (a -ℤ b) k h in
    omega (arith, ints)

pub one_replaced : (pivot : Row) (v : ℕ) (row a b : Row) → IsReplaced pivot v row a → IsReplaced pivot v row b → a ≡ b
one_replaced pivot v row a b r s =
    let up = s.greatest r.factor (λ j below. divides_each r.factor (number a j) (cleared pivot v row j) (r.each j below)) in
    let down = r.greatest s.factor (λ j below. divides_each s.factor (number b j) (cleared pivot v row j) (s.each j below)) in
    let same : r.factor ≡ s.factor = dvd_antisymm up down in
    same_by_index (pos 0) a b (r.width ∙ sym s.width) (λ j below.
    let in' : j < length row = omega (arith, s.width) in
    let e = r.each j in' in
    let f = s.each j in' in
    let g = ap (λ k. pos k *ℤ number a j) same in
    cancel_same s.factor (number a j) (number b j) s.some (cc))

one_entering : (t : Rows) (v w : ℕ) → IsEntering t v → IsEntering t w → v ≡ w
one_entering t v w a b = le_antisymm (a.lowest w b.improves) (b.lowest v a.improves)

one_leaving : (t : Rows) (v h i : ℕ) → AreBasic t → IsLeaving t v h → IsLeaving t v i → h ≡ i
one_leaving t v h i basic a b = by_case (cases_eq h i)
  where
    by_case : (h ≡ i) ⊎ (h ≢ i) → h ≡ i
    by_case (inl e) = e
    by_case (inr ne) =
        let in_h : h < length t.rows = omega (arith, a.bounds.known) in
        let in_i : i < length t.rows = omega (arith, b.bounds.known) in
        let same = le_antisymm (a.lowest i b.bounds (b.least h a.bounds)) (b.lowest h a.bounds (a.least i b.bounds)) in
        let e = basic.alone h i in_h in_i ne in
        let f = basic.positive i in_i in
        let g = ap (number (row_of t i)) same in
        absurd (omega (arith, ints))

pub one_pivot : (t a b : Rows) → AreBasic t → IsPivot t a → IsPivot t b → a ≡ b
one_pivot t a b basic p q =
    let v = one_entering t p.v q.v p.enters q.enters in
    let leaves : IsLeaving t q.v p.h = subst (λ k. IsLeaving t k p.h) v p.leaves in
    let h = one_leaving t q.v p.h q.h basic leaves q.leaves in
    let first : IsPivotAt t q.v p.h a = subst (λ k. IsPivotAt t k p.h a) v p.pivot in
    let at : IsPivotAt t q.v q.h a = subst (λ k. IsPivotAt t q.v k a) h first in
    let rows = same_by_index [] a.rows b.rows (at.count ∙ sym q.pivot.count) (λ i below.
    let in' : i < length t.rows = omega (arith, q.pivot.count) in
    by_row t a q.v q.h i (row_of a i ≡ row_of b i) at in'
    (λ e same. e ∙ ap (row_of t) same ∙ sym q.pivot.kept ∙ ap (row_of b) (sym same))
    (λ r ne. one_replaced (row_of t q.h) q.v (row_of t i) (row_of a i) (row_of b i) r (q.pivot.replaced i in' ne))) in
    let basis = at.basis ∙ sym q.pivot.basis in
    ap (λ rows. let r : Rows = record { rows = rows; basis = a.basis } in r) rows ∙ ap (λ basis. let r : Rows = record { rows = b.rows; basis = basis } in r) basis

-- how a run came to its rows
data Origin (n : Limits) (may : Rows → Type 0) (routes : List Route) (made : ℕ) (t : Rows) : Type 0 where
  AtOpening : routes ≡ [] → made ≡ 0 → t ≡ opening n → Origin n may routes made t
  ByPivot : (m : ℕ) (s : Rows) → made ≡ suc m → MasterRun n may routes m s → IsPivot s t → Origin n may routes made t
  ByRoute : (front : List Route) (r : Route) (s : Rows) → routes ≡ front ++ r ∷ [] → MasterRun n may front made s → may s → t ≡ entered (places n) r s → Origin n may routes made t

origin : (n : Limits) (may : Rows → Type 0) (routes : List Route) (made : ℕ) (t : Rows) → MasterRun n may routes made t → Origin n may routes made t
origin n may _ _ _ Opens = AtOpening refl refl refl
origin n may _ _ _ (Pivots {routes} {made} {t} {next} run p) = ByPivot made t refl run p
origin n may _ _ _ (Enters {routes} {made} {t} r run m) = ByRoute routes r t refl run m refl

pub basic_run : (n : Limits) (may : Rows → Type 0) (routes : List Route) (made : ℕ) (t : Rows) → AreBasic (opening n) → MasterRun n may routes made t → AreBasic t
basic_run n may _ _ _ b Opens = b
basic_run n may _ _ _ b (Pivots {routes} {made} {t} {next} run p) = basic_next t next (basic_run n may routes made t b run) p
basic_run n may _ _ _ b (Enters {routes} {made} {t} r run m) = basic_entered n r t (basic_run n may routes made t b run)

-- whichever run over a front of the list has gone as many steps is at the same rows
abbrev OneState : Limits → List Route → List Route → ℕ → Rows → Type 0
OneState n all routes made t = (others : List Route) (count : ℕ) (u : Rows) → IsRunOver n others count u → (back : List Route) → all ≡ others ++ back
    → length routes + made ≡ length others + count → (routes ≡ others) × (made ≡ count) × (t ≡ u)

one_state : (n : Limits) (all : List Route) → AreBasic (opening n)
    → (routes : List Route) (made : ℕ) (t : Rows) → IsRunOver n routes made t → (rest : List Route) → all ≡ routes ++ rest → OneState n all routes made t
one_state n all b _ _ _ Opens rest e others count u other back f same = by_origin (origin n IsOptimal others count u other)
  where
    by_origin : Origin n IsOptimal others count u → ([] ≡ others) × (0 ≡ count) × (opening n ≡ u)
    by_origin (AtOpening x y z) = (sym x, sym y, sym z)
    by_origin (ByPivot m s x run p) = absurd (omega (arith, same))
    by_origin (ByRoute front r s x run m z) = absurd (omega (arith, same, ap length x, length-append front (r ∷ [])))
one_state n all b _ _ _ (Pivots {routes} {made} {t} {next} run p) rest e others count u other back f same =
    by_origin (one_state n all b routes made t run rest e) (origin n IsOptimal others count u other)
  where
    by_origin : OneState n all routes made t → Origin n IsOptimal others count u → (routes ≡ others) × (suc made ≡ count) × (next ≡ u)
    by_origin again (AtOpening x y z) = absurd (omega (arith, same, ap length x))
    by_origin again (ByPivot m s x before q) =
        let g = again others m s before back f (omega arith) in
        let q' : IsPivot t u = subst (λ k. IsPivot k u) (sym g.2) q in
        (g.0, ap suc g.1 ∙ sym x, one_pivot t next u (basic_run n IsOptimal routes made t b run) p q')
    by_origin again (ByRoute front r s x before m z) =
        let h : all ≡ front ++ (r ∷ back) = f ∙ ap (λ k. k ++ back) x ∙ append_assoc front (r ∷ []) back in
        let g = again front count s before (r ∷ back) h (omega (arith, same, ap length x, length-append front (r ∷ []))) in
        absurd (m p.v (subst (λ k. IsImproving k p.v) g.2 p.enters.improves))
one_state n all b _ _ _ (Enters {routes} {made} {t} r run o) rest e others count u other back f same =
    by_origin (one_state n all b routes made t run (r ∷ rest) here) (origin n IsOptimal others count u other)
  where
    here : all ≡ routes ++ (r ∷ rest)
    here = e ∙ append_assoc routes (r ∷ []) rest

    by_origin : OneState n all routes made t → Origin n IsOptimal others count u → (routes ++ r ∷ [] ≡ others) × (made ≡ count) × (entered (places n) r t ≡ u)
    by_origin again (AtOpening x y z) = absurd (omega (arith, same, ap length x, length-append routes (r ∷ [])))
    by_origin again (ByPivot m s x before q) =
        let g = again others m s before back f (omega (arith, same, length-append routes (r ∷ []))) in
        absurd (o q.v (subst (λ k. IsImproving k q.v) (sym g.2) q.enters.improves))
    by_origin again (ByRoute front w s x before m z) =
        let h : all ≡ front ++ (w ∷ back) = f ∙ ap (λ k. k ++ back) x ∙ append_assoc front (w ∷ []) back in
        let g = again front count s before (w ∷ back) h
        (omega (arith, same, ap length x, length-append front (w ∷ []), length-append routes (r ∷ []))) in
        let i : front ++ (r ∷ rest) ≡ front ++ (w ∷ back) = ap (λ k. k ++ (r ∷ rest)) (sym g.0) ∙ sym here ∙ h in
        let j = append_cancel_left front (r ∷ rest) (w ∷ back) i in
        let k : r ≡ w = cc in
        (ap (λ l. l ++ r ∷ []) g.0 ∙ ap (λ w. front ++ w ∷ []) k ∙ sym x, g.1, ap (entered (places n) r) g.2 ∙ ap (λ w. entered (places n) w s) k ∙ sym z)

-- the rows of the run over a list are determined by the routes entered and the pivots made
pub one_run : (n : Limits) (routes : List Route) (made : ℕ) (t u : Rows) → AreBasic (opening n) → IsRunOver n routes made t → IsRunOver n routes made u → t ≡ u
one_run n routes made t u b a c = (one_state n routes b routes made t a [] (sym (append-nil routes)) routes made u c [] (sym (append-nil routes)) refl).2
