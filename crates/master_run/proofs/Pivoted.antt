-- where pivots and a column lead a run
use Rattle.std.proofs.Common.{◌≡◌, ◌≤◌, ◌<◌, ◌+◌, ℕ, suc, List, [], ◌∷◌, ◌++◌, length, Option, None, sym, ap, subst, ◌∙◌, append_assoc, arith, All}
use Rattle.std.specs.Prelude.{MatchOption}
use Rattle.crew_num.specs.declared.Overflow.{Overflow}
use Rattle.crew_terms.specs.Limits.{Limits, Route}
use Rattle.search_terms.specs.Earned.{AreLegalOf}
use Rattle.search_terms.specs.Overflows.{OverflowAt}
use Rattle.search_terms.specs.Rows.{number, value_row}
use Rattle.search_terms.specs.Opening.{dual, places as place_list}
use Rattle.search_terms.specs.declared.TheConstants.{VALUE}
use Rattle.std.proofs.lemmas.List.{map-append}
use Rattle.std.specs.Prelude.{Result, Ok, Err, OnOk}
use Rattle.std.proofs.lemmas.List.Elements.{All-head, All-nil, All-push, All-tail}
use Rattle.frac_master.specs.Adding.{Adds, AddsOn, HaveSameDuals}
use Rattle.frac_master.specs.Follows.{AddsAlong, FollowsList, SolvesAlong}
use Rattle.crew_terms.specs.declared.Visit.{Visit}
use Rattle.frac_master.specs.Columns.{route_of}
use Rattle.frac_master.specs.State.{MasterState}
use Rattle.frac_master.specs.declared.solved.Solved.TheVariants.{Overflow as SolveOverflow}
use Rattle.frac_master.specs.declared.solved.Added.{Added}
use Rattle.frac_master.specs.declared.solved.Added.TheVariants.{Done, Overflow as AddOverflow}
use Rattle.column_arena.specs.Columns.{column_of}
use Rattle.master_run.specs.State.{Rise, RunState, routes_of}
use Rattle.master_run.specs.Along.{HaltsAfter, IsAlong, IsAtOptimum}
use Rattle.master_run.specs.declared.halt.Halt.{Halt}
use Rattle.master_run.specs.declared.halt.Halt.TheVariants as halts

-- ---- pivots

module _ (n : Limits) (columns : List Route) (old : RunState) (new : MasterState) (along : IsAlong n columns old) where
  pub halts_overflow : (f : Overflow) → SolvesAlong n (routes_of columns old.ids) along.made old.left (SolveOverflow f) new
      → HaltsAfter n old.pivots (routes_of columns old.ids) (halts.Overflow f)
  halts_overflow f (few, stops) all rest legal = record {
    front = routes_of columns old.ids;
    back = rest;
    legal = legal;
    made = along.made + new.made;
    few = let e = along.count in omega arith;
    rows = stops.rows;
    run = stops.run;
    overflow = stops.overflow rest;
  }

-- ---- a column

-- a greater number behind rising ones
rise_last : (from : ℕ) (ids : List ℕ) (id : ℕ) → from ≤ id → All (λ other. other < id) ids → Rise from ids → Rise from (ids ++ id ∷ [])
rise_last from [] id least below rise = (least, tt)
rise_last from (other ∷ ids) id least below rise = (
  rise.0,
  rise_last (suc other) ids id (let b = All-head (λ o. o < id) other ids below in omega (arith, b)) (All-tail (λ o. o < id) other ids below) rise.1,
)

-- what a route makes of a master that goes on
adds_on : (m : MasterState) (id : ℕ) (r : Route) (a : Added) (new : MasterState) → m.ended ≡ None → Adds m id r a new → AddsOn m id r a new
adds_on m id r a new going adds =
    subst (λ (o : Option Overflow). MatchOption o (AddsOn m id r a new) (λ f. (a ≡ AddOverflow f) × (new ≡ m))) going adds

-- the routes with one more, and then others
routes_then : (columns : List Route) (ids : List ℕ) (id : ℕ) (rest : List Route)
    → routes_of columns (ids ++ id ∷ []) ++ rest ≡ routes_of columns ids ++ column_of columns id ∷ rest
routes_then columns ids id rest =
    ap (λ rs. rs ++ rest) (map-append (column_of columns) ids (id ∷ [])) ∙ append_assoc (routes_of columns ids) (column_of columns id ∷ []) rest

module _ (n : Limits) (columns : List Route) (old : RunState) (new : MasterState) (id : ℕ) (at : IsAtOptimum n columns old)
    (team : ℕ) (visits : List Visit) (is_team : team ≡ (column_of columns id).team) (are_visits : visits ≡ (column_of columns id).visits) where
  is_column : route_of team visits ≡ column_of columns id
  is_column = ap (λ k. route_of k visits) is_team ∙ ap (route_of (column_of columns id).team) are_visits

  pub along_taken : (a : Added) (ids : List ℕ) → id < length columns → All (λ other. other < id) old.master.columns → a ≡ Done → ids ≡ old.ids ++ id ∷ []
      → Adds old.master id (route_of team visits) a new
      → AddsAlong n (routes_of columns old.ids) at.along.made old.master (route_of team visits) a new
      → IsAlong n columns (record { master = new; ids = ids; pivots = old.pivots; left = old.left })
  along_taken a ids known last done are adds led =
      let all = subst (All (λ i. i < length columns)) (sym are) (All-push (λ i. i < length columns) old.ids id at.along.known known) in
      let on = adds_on old.master id (route_of team visits) Done new at.along.follows.going
      (subst (λ x. Adds old.master id (route_of team visits) x new) done adds) in
      let led' : FollowsList n (routes_of columns old.ids ++ route_of team visits ∷ []) at.along.made new =
      subst (λ x. AddsAlong n (routes_of columns old.ids) at.along.made old.master (route_of team visits) x new) done led in
      let routes : routes_of columns old.ids ++ route_of team visits ∷ [] ≡ routes_of columns ids =
      ap (λ r. routes_of columns old.ids ++ r ∷ []) is_column ∙ sym (map-append (column_of columns) old.ids (id ∷ [])) ∙ ap (routes_of columns) (sym are) in
      record {
        known = all;
        rise = subst (Rise 0) (sym are) (rise_last 0 old.ids id (omega arith) (subst (All (λ other. other < id)) at.along.entered last) at.along.rise);
        entered = ap (λ (m : MasterState). m.columns) on ∙ ap (λ l. l ++ id ∷ []) at.along.entered ∙ sym are;
        made = at.along.made;
        count = at.along.count;
        follows = subst (λ rs. FollowsList n rs at.along.made new) routes led';
      }

  pub halts_taken : (a : Added) (f : Overflow) → a ≡ AddOverflow f
      → AddsAlong n (routes_of columns old.ids) at.along.made old.master (route_of team visits) a new
      → HaltsAfter n old.pivots (routes_of columns (old.ids ++ id ∷ [])) (halts.Overflow f)
  halts_taken a f over led all rest legal =
      let led' : AddsAlong n (routes_of columns old.ids) at.along.made old.master (route_of team visits) (AddOverflow f) new =
      subst (λ x. AddsAlong n (routes_of columns old.ids) at.along.made old.master (route_of team visits) x new) over led in
      record {
        front = routes_of columns old.ids;
        back = column_of columns id ∷ rest;
        legal = subst (AreLegalOf n all) (routes_then columns old.ids id rest) legal;
        made = at.along.made;
        few = let e = at.along.count in let s = at.some in omega arith;
        rows = old.master.rows;
        run = at.along.follows.run;
        overflow = subst (λ r. OverflowAt n old.master.rows (r ∷ rest) f) is_column (led' rest);
      }

-- ---- duals

-- the same rows have the same duals
pub duals_kept : (a b c : MasterState) → HaveSameDuals a b → c.places ≡ b.places → c.rows ≡ b.rows → HaveSameDuals a c
duals_kept a b c h places rows = record {
  same = places ∙ h.same;
  whole = ap (λ t. number (value_row t) VALUE) rows ∙ h.whole;
  each = λ n i is below. ap (λ t. dual (place_list n) (value_row t) i) rows ∙ h.each n i is below;
}

-- ---- results

pub on_ok_two : {T E A B C : Type 0} (r : Result T E) → (A → B → C) → OnOk r A → OnOk r B → OnOk r C
on_ok_two (Ok x) f a b = f a b
on_ok_two (Err e) f a b = tt

-- a pivot that wasn't made leaves the duals
pub duals_taken : (n : Limits) (cs : List Route) (a : MasterState) (b c : RunState) (left : ℕ) (r : Result (Unit {0}) Halt) → HaveSameDuals a b.master
    → b.master.places ≡ place_list n → OnOk r (IsAtOptimum n cs c) → OnOk r (c.left ≡ left → c.master.rows ≡ b.master.rows)
    → OnOk r (c.left ≡ left → HaveSameDuals a c.master)
duals_taken n cs a b c left r same is at rows =
    on_ok_two r (λ (at : IsAtOptimum n cs c) (rows : c.left ≡ left → c.master.rows ≡ b.master.rows) (e : c.left ≡ left).
    duals_kept a b.master c.master same (at.along.follows.places ∙ sym is) (rows e)) at rows

-- the run over no columns
pub opened_along : (n : Limits) (cs : List Route) (m : MasterState) (ids : List ℕ) (pivots : ℕ) → ids ≡ [] → m.columns ≡ [] → FollowsList n [] 0 m
    → IsAlong n cs (record { master = m; ids = ids; pivots = pivots; left = pivots })
opened_along n cs m ids pivots none empty follows = record {
  known = subst (All (λ i. i < length cs)) (sym none) (All-nil (λ i. i < length cs));
  rise = subst (Rise 0) (sym none) tt;
  entered = empty ∙ sym none;
  made = 0;
  count = omega arith;
  follows = subst (λ l. FollowsList n (routes_of cs l) 0 m) (sym none) follows;
}
