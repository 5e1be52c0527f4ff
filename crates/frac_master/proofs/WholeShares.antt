-- the shares of a run's rows, in parts of their common denominator
use Rattle.std.proofs.Common.{◌≡◌, ◌<◌, ◌≤◌, ◌+◌, ◌-◌, ◌^◌, ◌++◌, ◌∷◌, [], ◌∙◌, ◌⊎◌, ◌↔◌, inl, inr, ℕ, zero, suc, List, Bool, true, false, cond, refl, ap, sym, subst, arith, length, get_or, map, length-append, sum_by, to_z}
use Rattle.std.specs.Prelude.{ℤ, pos, unsigned_abs, Contains, None, Ok, Err, Result, MatchOption, All}
use Rattle.std.specs.Int.{◌∣◌, w128}
use Rattle.std.specs.List.{range_with_len}
use Rattle.std.proofs.lemmas.Int.{ints}
use Rattle.std.proofs.lemmas.Bool.{cases_lt, eqb-true}
use Rattle.std.proofs.lemmas.List.Elements.{Contains-append_left, Contains-append_right, length_all_zip, AllZip-get_or, Contains-get_or}
use Rattle.std.proofs.lemmas.List.FromFn.{get_or-range_with_len, length-range_with_len, get_or-map-range_with_len}
use Rattle.std.proofs.lemmas.List.Sums.{get_or-le-sum_by}
use Rattle.crew_num.specs.declared.Overflow.{Overflow}
use Rattle.crew_terms.specs.Limits.{Limits, Route, tasks_in, teams_in}
use Rattle.search_terms.specs.declared.Place.{Place}
use Rattle.search_terms.specs.declared.Place.TheVariants.{Right, Value, Unused, Unassigned, Shortage, Excess, Missed, Repeated}
use Rattle.search_terms.specs.Rows.{Rows, width, AreBasic, AreFeasible}
use Rattle.search_terms.specs.Opening.{place_at, places, places_where}
use Rattle.search_terms.specs.Pivot.{IsPivot, IsOptimal}
use Rattle.search_terms.specs.MasterRun.{IsMasterRun}
use Rattle.search_terms.specs.MasterRun.MasterRun.{Opens, Pivots, Enters}
use Rattle.search_terms.specs.Overflows.{IsDenominator, OverflowAt, is_unassigned, share_places}
use Rattle.search_terms.specs.Overflows.OverflowAt.{InShares}
use Rattle.share_terms.specs.Shares.{unassigned_of}
use Rattle.search_terms.specs.BasicChoice.{AreWholeParts, choice_of, is_unassigned_at}
use Rattle.master_laws.specs.Opening.{wide_opening, above_of}
use Rattle.frac_master.specs.declared.shares.Share.{Share}
use Rattle.frac_master.specs.Follows.{FollowsRun}
use Rattle.frac_master.specs.Kept.{IsLive, kept}
use Rattle.frac_master.specs.declared.master.Master.TheInside.{Inside}
use Rattle.frac_master.specs.Fractions.{IsWholeAt}
use Rattle.frac_master.specs.Shares.{AreShares, GivesShares, IsCommonFault, IsCommonOf, column_shares, parts_at}
use Rattle.frac_master.proofs.LowestShares.{has_parts, one_denominator, signed}
use Rattle.frac_master.proofs.NewColumn.{wider}

-- ---- how many places rows have
abbrev pub KeepWidths : Type 0
KeepWidths = (t next : Rows) → AreBasic t → IsPivot t next → width next ≡ width t

abbrev pub AreFeasibleRuns : Type 0
AreFeasibleRuns = (n : Limits) (routes : List Route) (made : ℕ) (t : Rows) → IsMasterRun n routes made t → AreFeasible t

pub run_width : KeepWidths → AreFeasibleRuns → (n : Limits) (routes : List Route) (made : ℕ) (t : Rows) → IsMasterRun n routes made t → width t ≡ length (places n) + length routes
run_width keep feasible n _ _ _ Opens = wide_opening n ∙ omega arith
run_width keep feasible n _ _ _ (Pivots {routes} {made} {t} {next} run p) =
    keep t next (feasible n routes made t run).basic p ∙ run_width keep feasible n routes made t run
run_width keep feasible n _ _ _ (Enters {routes} {made} {t} r run free) =
    let e = run_width keep feasible n routes made t run in
    wider (places n) r t (feasible n routes made t run).basic.some ∙ (let l = length-append routes (r ∷ []) in omega arith)

-- ---- which places have shares
in_where : (test : Place → Bool) (at : ℕ) (ps : List Place) (i : ℕ) → i < length ps → test (get_or ps i Right) ≡ true → Contains (places_where test at ps) (at + i)
in_where test at [] i lt e = absurd (omega arith)
in_where test at (p ∷ ps) zero lt e = subst (λ b. Contains (cond b (at ∷ places_where test (suc at) ps) (places_where test (suc at) ps)) (at + 0)) (sym e) (0, omega arith, omega arith)
in_where test at (p ∷ ps) (suc i) lt e = by_test (test p) (subst (Contains (places_where test (suc at) ps)) (omega arith) (in_where test (suc at) ps i (omega arith) e))
  where
    by_test : (b : Bool) → Contains (places_where test (suc at) ps) (at + suc i) → Contains (cond b (at ∷ places_where test (suc at) ps) (places_where test (suc at) ps)) (at + suc i)
    by_test true c = Contains-append_right (at ∷ []) (places_where test (suc at) ps) (at + suc i) c
    by_test false c = c

pub route_in : (ps : List Place) (columns i : ℕ) → i < columns → Contains (range_with_len (length ps) columns ++ places_where is_unassigned 0 ps) (length ps + i)
route_in ps columns i lt =
    let in' : i < length (range_with_len (length ps) columns) = omega (arith, length-range_with_len (length ps) columns) in
    let c = Contains-get_or (range_with_len (length ps) columns) i 0 in' in
    Contains-append_left (range_with_len (length ps) columns) (places_where is_unassigned 0 ps) (length ps + i)
    (subst (Contains (range_with_len (length ps) columns)) (get_or-range_with_len (length ps) columns i 0 lt) c)

pub task_in : (ps : List Place) (columns i : ℕ) → i < length ps → is_unassigned (place_at ps i) ≡ true → Contains (range_with_len (length ps) columns ++ places_where is_unassigned 0 ps) i
task_in ps columns i lt e =
    Contains-append_right (range_with_len (length ps) columns) (places_where is_unassigned 0 ps) i
    (subst (Contains (places_where is_unassigned 0 ps)) (omega arith) (in_where is_unassigned 0 ps i lt e))

pub of_task : (j : ℕ) (p : Place) → is_unassigned_at j p ≡ true → p ≡ Unassigned j
of_task j (Unassigned i) e = ap Unassigned (eqb-true i j e)
of_task j Right e = absurd (cc)
of_task j Value e = absurd (cc)
of_task j (Unused k) e = absurd (cc)
of_task j (Shortage i) e = absurd (cc)
of_task j (Excess i) e = absurd (cc)
of_task j (Missed k i) e = absurd (cc)
of_task j (Repeated k i) e = absurd (cc)

-- ---- the common denominator is a multiple of each
pub multiple_at : (t : Rows) (at : List ℕ) (whole j : ℕ) → AreBasic t → IsCommonOf t at whole → Contains at j → (d : ℕ) → IsDenominator t j d → d ∣ whole
multiple_at t at whole j a c has d is =
    let k = has.0 in
    let lt = has.1 in
    let r = AllZip-get_or (λ j d. IsDenominator t j d) at c.denominators k j 0 c.each lt in
    let same = one_denominator t j d (get_or c.denominators k 0) a is (subst (λ i. IsDenominator t i (get_or c.denominators k 0)) has.2 r) in
    let in' : k < length c.denominators = omega (arith, length_all_zip (λ j d. IsDenominator t j d) at c.denominators c.each) in
    subst (λ x. x ∣ whole) (sym same) (c.least.multiple (get_or c.denominators k 0) (Contains-get_or c.denominators k 0 in'))

-- the places of a run's shares, by the number of its columns
pub share_places_are : (n : Limits) (t : Rows) (columns : ℕ) → width t ≡ length (places n) + columns
    → range_with_len (length (places n)) columns ++ places_where is_unassigned 0 (places n) ≡ share_places n t
share_places_are n t columns e =
    let f : columns ≡ width t - length (places n) = omega arith in
    ap (λ k. range_with_len (length (places n)) k ++ places_where is_unassigned 0 (places n)) f

-- the shares are whole numbers of parts
pub whole_parts : (n : Limits) (routes : List Route) (t : Rows) (whole : ℕ) → AreFeasible t
    → IsCommonOf t (range_with_len (length (places n)) (length routes) ++ places_where is_unassigned 0 (places n)) whole → AreWholeParts n routes t whole (parts_at t whole)
whole_parts n routes t whole f c =
    let two : 2 ≤ length (places n) = omega arith in
    record {
      some = omega (arith, c.some);
      of_routes = λ i lt. has_parts t whole (length (places n) + i) f (omega arith)
          (multiple_at t _ whole (length (places n) + i) f.basic c (route_in (places n) (length routes) i lt));
      of_tasks = λ i j lt e. has_parts t whole i f (above_of n i j e)
          (multiple_at t _ whole i f.basic c (task_in (places n) (length routes) i lt (ap is_unassigned e)));
    }

-- ---- and small
abbrev pub SharesAreParts : Type 0
SharesAreParts = (n : Limits) (routes : List Route) (made whole i : ℕ) (t : Rows) (x : ℕ → ℕ) → IsMasterRun n routes made t →
    All (λ (r : Route). r.team < teams_in n) routes → AreWholeParts n routes t whole x → i < length routes → x (length (places n) + i) ≤ whole

abbrev pub TasksAreParts : Type 0
TasksAreParts = (n : Limits) (routes : List Route) (made whole j : ℕ) (t : Rows) (x : ℕ → ℕ) → IsMasterRun n routes made t →
    All (λ (r : Route). r.team < teams_in n) routes → AreWholeParts n routes t whole x → unassigned_of (choice_of n routes whole x) j ≤ whole

-- what the calls that write shares require, of a run's rows
pub record AreSmall (ps : List Place) (t : Rows) (columns tasks whole : ℕ) : Type 0 where
  pub routes : (i : ℕ) → i < columns → IsWholeAt t whole (length ps + i)
  pub of_tasks : (j i : ℕ) → j < tasks → i < length ps → is_unassigned_at j (place_at ps i) ≡ true → IsWholeAt t whole i
  pub sums : (j : ℕ) → j < tasks → sum_by (parts_at t whole) (places_where (is_unassigned_at j) 0 ps) < 2 ^ 127

pub small : SharesAreParts → TasksAreParts → (n : Limits) (routes : List Route) (made whole : ℕ) (t : Rows) → IsMasterRun n routes made t
    → All (λ (r : Route). r.team < teams_in n) routes → AreFeasible t
    → IsCommonOf t (range_with_len (length (places n)) (length routes) ++ places_where is_unassigned 0 (places n)) whole → AreSmall (places n) t (length routes) (tasks_in n) whole
small by_routes by_tasks n routes made whole t run teams f c =
    let w = whole_parts n routes t whole f c in
    record {
      routes = λ i lt. record {
        multiple = multiple_at t _ whole (length (places n) + i) f.basic c (route_in (places n) (length routes) i lt);
        fits = let le = by_routes n routes made whole i t (parts_at t whole) run teams w lt in let fits = c.fits in omega arith;
      };
      of_tasks = λ j i below lt e.
          let is = of_task j (place_at (places n) i) e in
          record {
            multiple = multiple_at t _ whole i f.basic c (task_in (places n) (length routes) i lt (ap is_unassigned is));
            fits = let le = one_of (is_unassigned_at j) (parts_at t whole) (places n) i lt e in let s = sum_small j below in omega arith;
          };
      sums = λ j below. sum_small j below;
    }
  where
    one_of : (test : Place → Bool) (x : ℕ → ℕ) (ps : List Place) (i : ℕ) → i < length ps → test (place_at ps i) ≡ true → x i ≤ sum_by x (places_where test 0 ps)
    one_of test x ps i lt e =
        let has = in_where test 0 ps i lt e in
        let z : 0 + i ≡ i = omega arith in
        let le = get_or-le-sum_by x (places_where test 0 ps) has.0 (0 + i) has.1 in
        let s = ap x (has.2 ∙ z) in
        omega arith

    sum_small : (j : ℕ) → j < tasks_in n → sum_by (parts_at t whole) (places_where (is_unassigned_at j) 0 (places n)) < 2 ^ 127
    sum_small j below =
        let le = by_tasks n routes made whole j t (parts_at t whole) run teams (whole_parts n routes t whole f c) in
        let e = get_or-map-range_with_len (λ j. sum_by (parts_at t whole) (places_where (is_unassigned_at j) 0 (places n))) 0 (tasks_in n) j j 0 below (omega arith) in
        let fits = c.fits in
        omega arith

-- ---- what the call gives, whichever node has these places
abbrev pub TasksStand : Type 0
TasksStand = (n : Limits) (j : ℕ) → Contains (places n) (Shortage j) ↔ (j < tasks_in n)

pub same_tasks : TasksStand → (n m : Limits) → places n ≡ places m → tasks_in n ≡ tasks_in m
same_tasks stand n m e =
    let a : tasks_in n ≤ tasks_in m = not_more n m e in
    let b : tasks_in m ≤ tasks_in n = not_more m n (sym e) in
    omega arith
  where
    not_more : (n m : Limits) → places n ≡ places m → tasks_in n ≤ tasks_in m
    not_more n m e = by_case (cases_lt (tasks_in m) (tasks_in n))
      where
        by_case : (tasks_in m < tasks_in n) ⊎ (tasks_in n ≤ tasks_in m) → tasks_in n ≤ tasks_in m
        by_case (inr le) = le
        by_case (inl lt) =
            let has = subst (λ l. Contains l (Shortage (tasks_in m))) e ((stand n (tasks_in m)).1 lt) in
            let no = (stand m (tasks_in m)).0 has in
            absurd (omega arith)

-- ---- the call
abbrev places_of_shares : List Place → ℕ → List ℕ
places_of_shares ps columns = range_with_len (length ps) columns ++ places_where is_unassigned 0 ps

abbrev rows_in : Inside → Rows
rows_in a = a.table.rows

pub of_state : SharesAreParts → TasksAreParts → AreFeasibleRuns → (a : Inside) (l : IsLive a) (columns whole : ℕ) → columns ≡ length a.columns.items
    → IsCommonOf (rows_in a) (places_of_shares a.places.items columns) whole → AreSmall a.places.items (rows_in a) (length a.columns.items) a.tasks whole
of_state by_routes by_tasks feasible a l columns whole e c =
    let o = l.run in
    let t = rows_in a in
    let d = subst (λ qs. IsCommonOf t (places_of_shares qs columns) whole) o.same c in
    let k = subst (λ m. IsCommonOf t (places_of_shares (places o.limits) m) whole) (e ∙ l.columns) d in
    let s = small by_routes by_tasks o.limits o.routes o.made whole t o.run o.teams (feasible o.limits o.routes o.made t o.run) k in
    let u = subst (λ qs. AreSmall qs t (length o.routes) (tasks_in o.limits) whole) (sym o.same) s in
    let v = subst (λ m. AreSmall a.places.items t m (tasks_in o.limits) whole) (sym l.columns) u in
    subst (λ m. AreSmall a.places.items t (length a.columns.items) m whole) l.tasks v

-- the places of the shares are those of the definition
places_stand : KeepWidths → AreFeasibleRuns → (a : Inside) (l : IsLive a) (columns : ℕ) → columns ≡ length a.columns.items → (n : Limits) → a.places.items ≡ places n
    → places_of_shares a.places.items columns ≡ share_places n (rows_in a)
places_stand keep feasible a l columns e n s =
    let o = l.run in
    let w = run_width keep feasible o.limits o.routes o.made (rows_in a) o.run in
    let p = ap length (sym o.same ∙ s) in
    let m = l.columns in
    let k : width (rows_in a) ≡ length (places n) + columns = omega arith in
    ap (λ qs. places_of_shares qs columns) s ∙ share_places_are n (rows_in a) columns k

abs_signed : (whole : ℕ) → whole < 2 ^ 127 → unsigned_abs (to_z w128 whole) ≡ whole
abs_signed whole fits = ap unsigned_abs (signed whole fits)

abbrev open_sum : Rows → ℕ → List Place → ℕ → ℕ
open_sum t whole ps j = sum_by (parts_at t whole) (places_where (is_unassigned_at j) 0 ps)

pub gives_shares : KeepWidths → AreFeasibleRuns → TasksStand → (a : Inside) (l : IsLive a) (columns whole : ℕ) (out : List Share) (left_open : List ℤ) → a.ended ≡ None
    → columns ≡ length a.columns.items → IsCommonOf (rows_in a) (places_of_shares a.places.items columns) whole
    → out ≡ column_shares (parts_at (rows_in a) whole) (length a.places.items) a.columns.items
    → left_open ≡ map (λ j. pos (sum_by (parts_at (rows_in a) whole) (places_where (is_unassigned_at j) 0 a.places.items))) (range_with_len 0 a.tasks)
    → (n : Limits) → a.places.items ≡ places n → GivesShares n (kept a) (Ok (to_z w128 whole)) out left_open
gives_shares keep feasible stand a l columns whole out left_open none e c eo el n s =
    subst (λ q. MatchOption q (AreShares n (kept a) (to_z w128 whole) out left_open) (λ f. let r : Result ℤ Overflow = Ok (to_z w128 whole) in r ≡ Err f)) (sym none)
    (subst (λ den. AreShares n (kept a) den out left_open) (sym (signed whole c.fits)) are)
  where
    twice : (f : ℕ → ℕ) (xs : List ℕ) → map (λ j. pos (f j)) xs ≡ map pos (map f xs)
    twice f [] = refl
    twice f (x ∷ xs) = ap (λ l. pos (f x) ∷ l) (twice f xs)

    tasks : a.tasks ≡ tasks_in n
    tasks = sym l.tasks ∙ same_tasks stand l.run.limits n (sym l.run.same ∙ s)

    are : AreShares n (kept a) (pos whole) out left_open
    are = record {
      positive = let some = c.some in omega (arith, ints);
      common = subst (λ at. IsCommonOf (rows_in a) at whole) (places_stand keep feasible a l columns e n s) c;
      shares = eo ∙ ap (λ (qs : List Place). column_shares (parts_at (rows_in a) whole) (length qs) a.columns.items) s;
      unassigned = el ∙ ap (λ m. map (λ j. pos (open_sum (rows_in a) whole a.places.items j)) (range_with_len 0 m)) tasks
          ∙ ap (λ qs. map (λ j. pos (open_sum (rows_in a) whole qs j)) (range_with_len 0 (tasks_in n))) s ∙ twice (open_sum (rows_in a) whole (places n)) (range_with_len 0 (tasks_in n));
    }

pub gives_fault : KeepWidths → AreFeasibleRuns → (a : Inside) (l : IsLive a) (columns : ℕ) (out : List Share) (left_open : List ℤ) (f : Overflow) → a.ended ≡ None
    → columns ≡ length a.columns.items → IsCommonFault (rows_in a) (places_of_shares a.places.items columns) f → (n : Limits) → a.places.items ≡ places n
    → GivesShares n (kept a) (Err f) out left_open
gives_fault keep feasible a l columns out left_open f none e c n s =
    subst (λ q. MatchOption q (IsCommonFault (rows_in a) (share_places n (rows_in a)) f) (λ g. let r : Result ℤ Overflow = Err f in r ≡ Err g)) (sym none)
    (subst (λ at. IsCommonFault (rows_in a) at f) (places_stand keep feasible a l columns e n s) c)

pub fault_belongs : KeepWidths → AreFeasibleRuns → (a : Inside) (l : IsLive a) (columns : ℕ) (f : Overflow) → columns ≡ length a.columns.items
    → IsCommonFault (rows_in a) (places_of_shares a.places.items columns) f → (n : Limits) → a.places.items ≡ places n → IsOptimal (rows_in a) → (coming : List Route)
    → OverflowAt n (rows_in a) coming f
fault_belongs keep feasible a l columns f e c n s done coming =
    let d = subst (λ at. IsCommonFault (rows_in a) at f) (places_stand keep feasible a l columns e n s) c in
    InShares d.leaves done d.denominators d.each d.how

pub parts_of_run : AreFeasibleRuns → (a : Inside) (columns whole : ℕ) → columns ≡ length a.columns.items → IsCommonOf (rows_in a) (places_of_shares a.places.items columns) whole
    → (n : Limits) (routes : List Route) (made : ℕ) → FollowsRun n routes made (kept a)
    → AreWholeParts n routes (rows_in a) (unsigned_abs (to_z w128 whole)) (parts_at (rows_in a) (unsigned_abs (to_z w128 whole)))
parts_of_run feasible a columns whole e c n routes made w =
    let t = rows_in a in
    let d = subst (λ qs. IsCommonOf t (places_of_shares qs columns) whole) w.places c in
    let k = subst (λ m. IsCommonOf t (places_of_shares (places n) m) whole) (e ∙ w.columns) d in
    subst (λ m. AreWholeParts n routes t m (parts_at t m)) (sym (abs_signed whole c.fits))
    (whole_parts n routes t whole (feasible n routes made t w.run) k)
