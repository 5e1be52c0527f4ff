-- when held routes of a team earn what it can earn
use Rattle.std.proofs.Common.{◌≡◌, ◌<◌, ◌≤◌, ◌↔◌, ℕ, ℤ, pos, ◌≤ℤ◌, ◌<ℤ◌, List, [], ◌∷◌, length, Contains, sym, subst, refl, ◌∙◌, ap, arith, get_or}
use Rattle.std.proofs.lemmas.Int.{ints}
use Rattle.std.proofs.lemmas.List.{length-map}
use Rattle.std.proofs.Math.ListN.{get_or-map}
use Rattle.std.proofs.lemmas.List.Elements.{All-get_or, Contains-append_left}
use Rattle.crew_terms.specs.Limits.{Limits, Route, IsRoute, teams_in, tasks_in}
use Rattle.crew_terms.specs.Leaf.{Prices, IsWorth, Proves, bound_of, rewards, worth_of, earned}
use Rattle.crew_terms.specs.declared.Visit.{Visit}
use Rattle.route_terms.specs.Routes.{route_of}
use Rattle.search_terms.specs.Earned.{AreLegalOf, AreRounded, AreWorths, BeatsRoutes, RunEndsLoose, rounded, rounded_dual}
use Rattle.search_terms.specs.Pivot.{IsOptimal}
use Rattle.search_terms.specs.Rows.{Rows, number, value_row}
use Rattle.search_terms.specs.Opening.{dual, openers, places as place_list}
use Rattle.search_terms.specs.declared.TheConstants.{VALUE}
use Rattle.frac_master.specs.Adding.{HaveSameDuals}
use Rattle.frac_master.specs.State.{MasterState}
use Rattle.search_terms.specs.MasterRun.{IsRunOver}
use Rattle.search_terms.specs.Proven.{PricesProve, IsProvedCount}
use Rattle.search_terms.specs.Search.{Extends, IsColumn}
use Rattle.share_terms.specs.Shares.{IsRouteIn}
use Rattle.column_arena.specs.Columns.{column_of}
use Rattle.master_run.specs.Legal.{legal_are, legal_held}
use Rattle.master_run.specs.State.{routes_of}
use Rattle.node_solver.specs.Meeting.{IsMet}
use Rattle.node_solver.specs.Meeting.IsMet.{Idle, Earned}

-- a column that entered is a route in the node
pub entered_is : (n : Limits) (cs : List Route) (ids : List ℕ) (i : ℕ) → AreLegalOf n cs (routes_of cs ids) → i < length ids
    → IsRouteIn n (column_of cs (get_or ids i 0))
entered_is n cs ids i are below =
    subst (IsRouteIn n) (get_or-map (column_of cs) ids i 0)
    (All-get_or (IsRouteIn n) (routes_of cs ids) i (column_of cs 0) (omega (arith, length-map ids (column_of cs))) (legal_are n cs (routes_of cs ids) are))

pub met_unbeaten : (n : Limits) (columns routes : List Route) (k : ℕ) (prices : Prices) (worth : ℤ) → AreLegalOf n columns routes
    → IsMet n columns k prices worth → BeatsRoutes routes k prices worth → ⊥
met_unbeaten n columns routes k prices worth are (Idle none) beats = let b = beats.some in omega (arith, ints)
met_unbeaten n columns routes k prices worth are (Earned r held legal team enough) beats =
    let b = beats.more r (legal_held n columns routes r are held legal) team in omega (arith, ints)

pub met_more : (n : Limits) (columns more : List Route) (k : ℕ) (prices : Prices) (worth : ℤ) → Extends n columns more
    → IsMet n columns k prices worth → IsMet n more k prices worth
met_more n columns more k prices worth extends (Idle none) = Idle none
met_more n columns more k prices worth extends (Earned r held legal team enough) =
    Earned r (subst (λ cs. Contains cs r) (sym extends.all) (Contains-append_left columns extends.added r held)) legal team enough

-- a route that earns a team's worth earns any worth of it
pub met_by : (n : Limits) (columns : List Route) (k : ℕ) (prices : Prices) (worth other : ℤ) (visits : List Visit) → k < teams_in n
    → IsWorth n k (earned prices k) worth → IsWorth n k (earned prices k) other → IsRoute n k visits → rewards (earned prices k) visits ≡ other
    → Contains columns (route_of k visits) → IsMet n columns k prices worth
met_by n columns k prices worth other visits known is that route earns held =
    let (r, route', e) = is.attained in
    let below = that.greatest r route' in
    Earned (route_of k visits) held (record { team = known; route = route }) refl (omega (arith, ints, e, earns, below))

-- a route that earns a team's worth may be a column, if that is something
pub earning_column : (n : Limits) (k : ℕ) (prices : Prices) (worth other : ℤ) (visits : List Visit) → k < teams_in n → pos 0 <ℤ worth
    → IsWorth n k (earned prices k) worth → IsWorth n k (earned prices k) other → IsRoute n k visits → rewards (earned prices k) visits ≡ other → IsColumn n (route_of k visits)
earning_column n k prices worth other visits known some is that route earns = by visits route earns
  where
    enough : worth ≤ℤ other
    enough = let (r, route', e) = is.attained in let below = that.greatest r route' in omega (arith, ints, e, below)

    by : (visits : List Visit) → IsRoute n k visits → rewards (earned prices k) visits ≡ other → IsColumn n (route_of k visits)
    by [] route earns = absurd (let e = enough in omega (arith, ints))
    by (v ∷ vs) route earns = record { legal = record { team = known; route = route }; some = omega arith }

pub ends_loose : (n : Limits) (now : ℕ) (prices : Prices) (pivots made : ℕ) (columns routes : List Route) (rows : Rows) (worths : List ℤ) (proved : ℕ)
    → AreLegalOf n columns routes → made < pivots → IsRunOver n routes made rows → IsOptimal rows → AreRounded n rows prices
    → AreWorths n prices worths → ((k : ℕ) → k < teams_in n → IsMet n columns k prices (worth_of worths k))
    → ((l : ℕ) → l ≤ tasks_in n → PricesProve n prices l ↔ Proves (bound_of n prices worths) l) → IsProvedCount n prices proved
    → now ≤ tasks_in n → proved < now → RunEndsLoose n now prices pivots columns
ends_loose n now prices pivots made columns routes rows worths proved legal few run done rounds worth met decides count most less = record {
  routes = routes;
  legal = legal;
  made = made;
  few = few;
  rows = rows;
  run = run;
  done = done;
  rounded = rounds;
  worths = worths;
  worth = worth;
  unbeaten = λ k known beats. met_unbeaten n columns routes k prices (worth_of worths k) legal (met k known) beats;
  unproved = λ proves. let b = count.greatest now most ((decides now most).1 proves) in omega arith;
}

-- ---- duals

pub duals_same : (m : MasterState) → HaveSameDuals m m
duals_same m = record { same = refl; whole = refl; each = λ n h is below. refl }

pub duals_then : (a b c : MasterState) → HaveSameDuals a b → HaveSameDuals b c → HaveSameDuals a c
duals_then a b c h g = record {
  same = g.same ∙ h.same;
  whole = g.whole ∙ h.whole;
  each = λ n i is below. g.each n i (h.same ∙ is) below ∙ h.each n i is below;
}

-- rounded prices are those of any rows with these duals
pub rounded_same : (n : Limits) (a b : MasterState) (prices : Prices) → a.places ≡ place_list n → HaveSameDuals a b
    → AreRounded n a.rows prices → AreRounded n b.rows prices
rounded_same n a b prices is same rounds = record {
  priced = rounds.priced;
  tasks = λ h j opens. rounds.tasks h j opens ∙ one h opens.known;
  pairs = λ h k j opens. rounds.pairs h k j opens ∙ one h opens.known;
}
  where
    one : (h : ℕ) → h < length (openers (place_list n)) → rounded_dual n a.rows h ≡ rounded_dual n b.rows h
    one h below = ap (λ d. rounded d (number (value_row a.rows) VALUE)) (sym (same.each n h is below))
        ∙ ap (λ w. rounded (dual (place_list n) (value_row b.rows) h) w) (sym same.whole)
