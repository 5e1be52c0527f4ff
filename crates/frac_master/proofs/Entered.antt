-- a route that enters a master
use Rattle.std.proofs.Common.{◌≡◌, ◌<◌, ◌-◌, ◌++◌, ◌∷◌, [], ◌∙◌, ℕ, pos, List, length, get_or, map, refl, ap, sym, subst, arith}
use Rattle.std.proofs.lemmas.List.{get_or-map, length-map, get_or_append_left}
use Rattle.crew_terms.specs.Limits.{Limits, Route}
use Rattle.search_terms.specs.declared.Place.{Place}
use Rattle.search_terms.specs.declared.TheConstants.{VALUE}
use Rattle.search_terms.specs.Rows.{Row, Rows, number, value_row, AreBasic}
use Rattle.search_terms.specs.Opening.{dual, entered, entry, openers, places}
use Rattle.search_terms.specs.MasterRun.{IsMasterRun}
use Rattle.frac_master.specs.State.{IsOfRun, MasterState}
use Rattle.frac_master.specs.Adding.{HaveSameDuals, with_column}

abbrev pub KeepsDuals : Type 0
KeepsDuals = (n : Limits) (routes : List Route) (made h : ℕ) (r : Route) (t : Rows) → IsMasterRun n routes made t → h < length (openers (places n))
    → dual (places n) (value_row (entered (places n) r t)) h ≡ dual (places n) (value_row t) h

value_kept : (ps : List Place) (r : Route) (t : Rows) → AreBasic t → number (value_row (entered ps r t)) VALUE ≡ number (value_row t) VALUE
value_kept ps r t b =
    let f : Row → Row = λ row. row ++ entry ps r row ∷ [] in
    let m = length-map t.rows f in
    let end : length t.rows - 1 < length t.rows = omega (arith, b.some) in
    let known = b.known (length t.rows - 1) end in
    let wide : VALUE < length (value_row t) = omega (arith, b.value) in
    ap (λ k. number (get_or (map f t.rows) (k - 1) []) VALUE) m
    ∙ ap (λ row. number row VALUE) (get_or-map f t.rows (length t.rows - 1) [] [] end)
    ∙ get_or_append_left (value_row t) (entry ps r (value_row t) ∷ []) (pos 0) VALUE wide

pub same_duals : KeepsDuals → (m : MasterState) (id : ℕ) (r : Route) → AreBasic m.rows → IsOfRun m.places m.rows → HaveSameDuals m (with_column m id r)
same_duals keeps m id r b o = record {
  same = refl;
  whole = value_kept m.places r m.rows b;
  each = λ n h e lt.
      let q = keeps o.limits o.routes o.made h r m.rows o.run (subst (λ qs. h < length (openers qs)) (sym e ∙ o.same) lt) in
      let p = subst (λ qs. dual qs (value_row (entered qs r m.rows)) h ≡ dual qs (value_row m.rows) h) (sym o.same) q in
      subst (λ qs. dual qs (value_row (entered m.places r m.rows)) h ≡ dual qs (value_row m.rows) h) e p;
}
