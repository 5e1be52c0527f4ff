-- the shares of a run's columns
use Rattle.std.proofs.Common.{◌≡◌, ◌≢◌, ◌≤◌, ◌==◌, ◌≤ℤ◌, ◌<ℤ◌, ℕ, suc, ℤ, pos, Bool, true, false, List, [], ◌∷◌, length, map, All, sym, ap, subst, refl, ◌∙◌, arith}
use Rattle.std.specs.Prelude.{unsigned_abs, MatchOption, MatchResult, Result, Ok, Option, None, Err}
use Rattle.std.proofs.lemmas.Bool.{eqb-false}
use Rattle.std.proofs.lemmas.Int.{ints}
use Rattle.std.proofs.lemmas.List.{length-map}
use Rattle.std.proofs.Math.ListN.{get_or-map}
use Rattle.std.proofs.lemmas.List.Elements.{All-nil, All-cons, All-head, All-tail, All-get_or}
use Rattle.crew_num.specs.declared.Overflow.{Overflow}
use Rattle.crew_terms.specs.Limits.{Limits, Route}
use Rattle.search_terms.specs.BasicChoice.{route_shares}
use Rattle.search_terms.specs.Opening.{places}
use Rattle.search_terms.specs.Overflows.{share_places}
use Rattle.share_terms.specs.Shares.{FractionalChoice, IsRouteIn, Share as RouteShare}
use Rattle.column_arena.specs.Columns.{column_of}
use Rattle.column_arena.specs.Legal.{IsLegalColumn}
use Rattle.frac_master.specs.Shares.{AreShares, GivesShares, IsCommonFault, basic_choice, column_shares, parts_at}
use Rattle.frac_master.specs.State.{MasterState}
use Rattle.frac_master.specs.declared.shares.Share.{Share}
use Rattle.master_run.specs.Along.{IsOver}
use Rattle.master_run.specs.Legal.{legal_are}
use Rattle.master_run.specs.Shares.{ArePositive, fractional_of, share_of}
use Rattle.master_run.specs.State.{Rise, RunState, routes_of}

-- what the master tells where no overflow has ended it
pub gives_shares : (n : Limits) (m : MasterState) (den : ℤ) (out : List Share) (left_open : List ℤ) → m.ended ≡ None
    → GivesShares n m (Ok den) out left_open → AreShares n m den out left_open
gives_shares n m den out left_open going gives =
    let r : Result ℤ Overflow = Ok den in
    subst (λ (o : Option Overflow). MatchOption o
    (MatchResult r (λ den. AreShares n m den out left_open) (IsCommonFault m.rows (share_places n m.rows))) (λ f. r ≡ Err f)) going gives

-- the column of a share
abbrev pub column_in : Share → ℕ
column_in s = s.column

rise_sooner : (from sooner : ℕ) (ids : List ℕ) → sooner ≤ from → Rise from ids → Rise sooner ids
rise_sooner from sooner [] less rise = tt
rise_sooner from sooner (id ∷ ids) less rise = let l = rise.0 in (omega arith, rise.1)

-- the columns' shares are those of their routes
module _ (x : ℕ → ℕ) (columns : List Route) where
  shares_routes : (at : ℕ) (ids : List ℕ) → map (share_of columns) (column_shares x at ids) ≡ route_shares x at (routes_of columns ids)
  shares_routes at [] = refl
  shares_routes at (id ∷ ids) = by (x at == 0) refl (shares_routes (suc at) ids)
    where
      by : (b : Bool) → x at == 0 ≡ b → map (share_of columns) (column_shares x (suc at) ids) ≡ route_shares x (suc at) (routes_of columns ids)
          → map (share_of columns) (column_shares x at (id ∷ ids)) ≡ route_shares x at (routes_of columns (id ∷ ids))
      by true is e = rw is e
      by false is e = rw is (ap (λ l. (record { route = column_of columns id; parts = x at }) ∷ l) e)

  shares_in : (at : ℕ) (P : ℕ → Type 0) (ids : List ℕ) → All P ids → All (λ (s : Share). P s.column) (column_shares x at ids)
  shares_in at P [] all = All-nil (λ (s : Share). P s.column)
  shares_in at P (id ∷ ids) all = by (x at == 0) refl (shares_in (suc at) P ids (All-tail P id ids all))
    where
      by : (b : Bool) → x at == 0 ≡ b → All (λ (s : Share). P s.column) (column_shares x (suc at) ids)
          → All (λ (s : Share). P s.column) (column_shares x at (id ∷ ids))
      by true is e = rw is e
      by false is e = rw is (All-cons (λ (s : Share). P s.column) (record { column = id; num = pos (x at) }) (column_shares x (suc at) ids) (All-head P id ids all) e)

  shares_positive : (at : ℕ) (ids : List ℕ) → All (λ (s : Share). pos 0 <ℤ s.num) (column_shares x at ids)
  shares_positive at [] = All-nil (λ (s : Share). pos 0 <ℤ s.num)
  shares_positive at (id ∷ ids) = by (x at == 0) refl (shares_positive (suc at) ids)
    where
      by : (b : Bool) → x at == 0 ≡ b → All (λ (s : Share). pos 0 <ℤ s.num) (column_shares x (suc at) ids)
          → All (λ (s : Share). pos 0 <ℤ s.num) (column_shares x at (id ∷ ids))
      by true is e = rw is e
      by false is e =
          let none : x at ≢ 0 = eqb-false (x at) 0 is in
          let some : pos 0 <ℤ pos (x at) = omega (arith, ints) in
          rw is (All-cons (λ (s : Share). pos 0 <ℤ s.num) (record { column = id; num = pos (x at) }) (column_shares x (suc at) ids) some e)

  shares_rise : (at from : ℕ) (ids : List ℕ) → Rise from ids → Rise from (map column_in (column_shares x at ids))
  shares_rise at from [] rise = tt
  shares_rise at from (id ∷ ids) rise = by (x at == 0) refl (shares_rise (suc at) (suc id) ids rise.1)
    where
      by : (b : Bool) → x at == 0 ≡ b → Rise (suc id) (map column_in (column_shares x (suc at) ids))
          → Rise from (map column_in (column_shares x at (id ∷ ids)))
      by true is e = let l = rise.0 in rw is (rise_sooner (suc id) from (map column_in (column_shares x (suc at) ids)) (omega arith) e)
      by false is e = rw is (rise.0, e)

numbers_positive : (xs : List ℕ) → All (λ z. pos 0 ≤ℤ z) (map pos xs)
numbers_positive [] = All-nil (λ z. pos 0 ≤ℤ z)
numbers_positive (x ∷ xs) = All-cons (λ z. pos 0 ≤ℤ z) (pos x) (map pos xs) (omega (arith, ints)) (numbers_positive xs)

-- the whole and the shares are positive, and nothing that is left unassigned is negative
pub solution_positive : (n : Limits) (m : MasterState) (den : ℤ) (out : List Share) (left_open : List ℤ) → AreShares n m den out left_open
    → ArePositive den out left_open
solution_positive n m den out left_open are = record {
  whole = are.positive;
  parts = subst (All (λ (s : Share). pos 0 <ℤ s.num)) (sym are.shares) (shares_positive x [] (length (places n)) m.columns);
  left = subst (All (λ z. pos 0 ≤ℤ z)) (sym are.unassigned) (numbers_positive (basic_choice n [] m.rows (unsigned_abs den)).unassigned);
}
  where
    x : ℕ → ℕ
    x = parts_at m.rows (unsigned_abs den)

numbers_back : (xs : List ℕ) → map unsigned_abs (map pos xs) ≡ xs
numbers_back [] = refl
numbers_back (x ∷ xs) = ap (λ l. x ∷ l) (numbers_back xs)

-- the shares and the unassigned shares are the basic solution
pub solution_is : (n : Limits) (columns : List Route) (r : RunState) (den : ℤ) (out : List Share) (left_open : List ℤ) → r.master.columns ≡ r.ids
    → AreShares n r.master den out left_open → fractional_of columns den out left_open ≡ basic_choice n (routes_of columns r.ids) r.master.rows (unsigned_abs den)
solution_is n columns r den out left_open entered are =
    ap (λ s. choice_with s (map unsigned_abs left_open)) shares ∙ ap (choice_with (route_shares x (length (places n)) (routes_of columns r.ids))) unassigned
  where
    x : ℕ → ℕ
    x = parts_at r.master.rows (unsigned_abs den)

    choice_with : List RouteShare → List ℕ → FractionalChoice
    choice_with shares unassigned = record { whole = unsigned_abs den; shares = shares; unassigned = unassigned }

    shares : map (share_of columns) out ≡ route_shares x (length (places n)) (routes_of columns r.ids)
    shares = ap (map (share_of columns)) (are.shares ∙ ap (column_shares x (length (places n))) entered) ∙ shares_routes x columns (length (places n)) r.ids

    unassigned : map unsigned_abs left_open ≡ (basic_choice n [] r.master.rows (unsigned_abs den)).unassigned
    unassigned = ap (map unsigned_abs) are.unassigned ∙ numbers_back (basic_choice n [] r.master.rows (unsigned_abs den)).unassigned

-- the columns with shares are routes in the node
pub shares_legal : (n : Limits) (columns : List Route) (r : RunState) (den : ℤ) (out : List Share) (left_open : List ℤ) → IsOver n columns r
    → AreShares n r.master den out left_open → All (λ (s : Share). IsLegalColumn n columns s.column) out
shares_legal n columns r den out left_open over are =
    subst (All (λ (s : Share). IsLegalColumn n columns s.column)) (sym (are.shares ∙ ap (column_shares x (length (places n))) over.at.along.entered))
    (shares_in x columns (length (places n)) (IsLegalColumn n columns) r.ids each)
  where
    x : ℕ → ℕ
    x = parts_at r.master.rows (unsigned_abs den)

    each : All (IsLegalColumn n columns) r.ids
    each k d below = record {
      known = over.at.along.known k d below;
      route = subst (IsRouteIn n) (get_or-map (column_of columns) r.ids k d)
          (All-get_or (IsRouteIn n) (routes_of columns r.ids) k (column_of columns d) (omega (arith, length-map r.ids (column_of columns)))
          (legal_are n columns (routes_of columns r.ids) over.legal));
    }

-- the columns with shares rise
pub solution_rises : (n : Limits) (columns : List Route) (r : RunState) (den : ℤ) (out : List Share) (left_open : List ℤ) → IsOver n columns r
    → AreShares n r.master den out left_open → Rise 0 (map column_in out)
solution_rises n columns r den out left_open over are =
    subst (λ (shares : List Share). Rise 0 (map column_in shares)) (sym (are.shares ∙ ap (column_shares x (length (places n))) over.at.along.entered))
    (shares_rise x columns (length (places n)) 0 r.ids over.at.along.rise)
  where
    x : ℕ → ℕ
    x = parts_at r.master.rows (unsigned_abs den)
