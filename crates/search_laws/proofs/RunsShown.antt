-- a split's run of the master shows its cause over every longer pool too
use Rattle.std.proofs.Common.{◌<◌, ◌++◌, ℕ, List, [], ◌∷◌, ap, sym, subst, append_assoc, inl, inr}
use Rattle.search_terms.specs.declared.Overflow.{Overflow}
use Rattle.crew_terms.specs.Instance.{Instance}
use Rattle.crew_terms.specs.Limits.{Limits, Route, IsRoute, GoesOn, IsPermittedStep, IsPermittedVisit, root_limits, teams_in}
use Rattle.crew_terms.specs.Leaf.{Prices}
use Rattle.crew_terms.specs.Branches.{LeafNode, SplitNode}
use Rattle.crew_terms.specs.Tree.{child}
use Rattle.crew_terms.specs.declared.Side.{Side}
use Rattle.crew_terms.specs.declared.Side.TheVariants.{First, Second}
use Rattle.crew_terms.specs.declared.Visit.{Visit}
use Rattle.search_terms.specs.declared.TheConstants.{PIVOTS}
use Rattle.search_terms.specs.Rows.{Rows}
use Rattle.share_terms.specs.Shares.{IsRouteIn}
use Rattle.search_terms.specs.Overflows.{OverflowAt, InPivot, InColumn, InShares, InPrice, IsOfColumn, Column, OfValue}
use Rattle.search_terms.specs.Earned as earned
use Rattle.search_terms.specs.Earned.{Why, Loose, Overflowed, Spent, AreLegalOf, Kept, Left, RunIsSpent, RunOverflows, IsEarned}
use Rattle.search_terms.specs.SearchTree.{SearchTree}
use Rattle.search_terms.specs.Ways.{limits_at, prices_at, IsOpenAt, replaced}
use Rattle.search_terms.specs.Search.{SearchState, best, Becomes, Closes, Splits, IsSearchRun, Starts, Goes}
use Rattle.search_terms.specs.Caused.{IsRunShown, AreRunsShown}
use Rattle.search_laws.proofs.Potentials.{Told, tell_visit, tell_step, tell_lt, both, through}

-- ---- the legal routes of a longer list

tell_on : (n : Limits) (k : ℕ) (v : Visit) (vs : List Visit) → Told (GoesOn n k v vs)
tell_on n k v [] = inl tt
tell_on n k v (w ∷ ws) = by (tell_step n v.task v.start w.task w.start) (tell_visit n k w.task w.start) (tell_on n k w ws)
  where
    by : Told (IsPermittedStep n v.task v.start w.task w.start) → Told (IsPermittedVisit n k w.task w.start) → Told (GoesOn n k w ws) → Told (GoesOn n k v (w ∷ ws))
    by (inl a) (inl b) (inl c) = inl (a, b, c)
    by (inr a) b c = inr (λ h. a h.0)
    by (inl a) (inr b) c = inr (λ h. b h.1)
    by (inl a) (inl b) (inr c) = inr (λ h. c h.2)

tell_route : (n : Limits) (k : ℕ) (vs : List Visit) → Told (IsRoute n k vs)
tell_route n k [] = inl tt
tell_route n k (v ∷ vs) = both (tell_visit n k v.task v.start) (tell_on n k v vs)

tell_route_in : (n : Limits) (r : Route) → Told (IsRouteIn n r)
tell_route_in n r = through (λ (h : (r.team < teams_in n) × IsRoute n r.team r.visits). record { team = h.0; route = h.1 }) (λ (h : IsRouteIn n r). (h.team, h.route))
    (both (tell_lt r.team (teams_in n)) (tell_route n r.team r.visits))

legal_of : (n : Limits) (columns : List Route) → (routes : List Route) × AreLegalOf n columns routes
legal_of n [] = ([], earned.None)
legal_of n (r ∷ columns) = by (tell_route_in n r) (legal_of n columns)
  where
    by : Told (IsRouteIn n r) → (routes : List Route) × AreLegalOf n columns routes → (routes : List Route) × AreLegalOf n (r ∷ columns) routes
    by (inl a) (routes, rest) = (r ∷ routes, Kept r a rest)
    by (inr a) (routes, rest) = (routes, Left r a rest)

legal_append : (n : Limits) (columns routes added more : List Route) → AreLegalOf n columns routes → AreLegalOf n added more → AreLegalOf n (columns ++ added) (routes ++ more)
legal_append n columns routes added more earned.None b = b
legal_append n columns routes added more (Kept r legal rest) b = Kept r legal (legal_append n _ _ added more rest b)
legal_append n columns routes added more (Left r illegal rest) b = Left r illegal (legal_append n _ _ added more rest b)

-- the front stays, and what follows goes on
longer : (n : Limits) (columns front back added : List Route) → AreLegalOf n columns (front ++ back) → (more : List Route) × AreLegalOf n (columns ++ added) (front ++ (back ++ more))
longer n columns front back added legal =
    let x = legal_of n added in
    (x.0, subst (AreLegalOf n (columns ++ added)) (append_assoc front back x.0) (legal_append n columns (front ++ back) added x.0 legal x.1))

column_longer : (n : Limits) (t : Rows) (back more : List Route) (f : Overflow) → IsOfColumn n t back f → IsOfColumn n t (back ++ more) f
column_longer n t back more f (Column r rest next h row sum) = Column r (rest ++ more) (ap (λ xs. xs ++ more) next) h row sum
column_longer n t back more f (OfValue sum) = OfValue sum

overflow_longer : (n : Limits) (t : Rows) (back more : List Route) (f : Overflow) → OverflowAt n t back f → OverflowAt n t (back ++ more) f
overflow_longer n t back more f (InPivot leaves how) = InPivot leaves how
overflow_longer n t back more f (InColumn leaves done how) = InColumn leaves done (column_longer n t back more f how)
overflow_longer n t back more f (InShares leaves done ds each how) = InShares leaves done ds each how
overflow_longer n t back more f (InPrice leaves done how) = InPrice leaves done how

spent_longer : (n : Limits) (pivots : ℕ) (columns added : List Route) → RunIsSpent n pivots columns → RunIsSpent n pivots (columns ++ added)
spent_longer n pivots columns added h =
    let x = longer n columns h.front h.back added h.legal in
    record { front = h.front; back = h.back ++ x.0; legal = x.1; rows = h.rows; run = h.run }

overflows_longer : (n : Limits) (pivots : ℕ) (columns added : List Route) (f : Overflow) → RunOverflows n pivots columns f → RunOverflows n pivots (columns ++ added) f
overflows_longer n pivots columns added f h =
    let x = longer n columns h.front h.back added h.legal in
    record {
      front = h.front;
      back = h.back ++ x.0;
      legal = x.1;
      made = h.made;
      few = h.few;
      rows = h.rows;
      run = h.run;
      overflow = overflow_longer n h.rows h.back x.0 f h.overflow;
    }

run_longer : (columns added : List Route) (n : Limits) (why : Why) → IsRunShown columns n why → IsRunShown (columns ++ added) n why
run_longer columns added n (Loose c) h = tt
run_longer columns added n (Overflowed fault) h = overflows_longer n PIVOTS columns added fault h
run_longer columns added n Spent h = spent_longer n PIVOTS columns added h

runs_longer : (columns added : List Route) (n : Limits) (t : SearchTree) → AreRunsShown columns n t → AreRunsShown (columns ++ added) n t
runs_longer columns added n (LeafNode leaf) h = tt
runs_longer columns added n (SplitNode split first second) h =
    (run_longer columns added n split.cause.why h.0, runs_longer columns added (child n split.choice First) first h.1, runs_longer columns added (child n split.choice Second) second h.2)

-- ---- steps

earned_shown : (n : Limits) (now : ℕ) (found : Prices) (columns : List Route) (why : Why) → IsEarned n now found PIVOTS columns why → IsRunShown columns n why
earned_shown n now found columns (Loose c) h = tt
earned_shown n now found columns (Overflowed fault) h = h
earned_shown n now found columns Spent h = h

new_shown : (now : ℕ) (columns : List Route) (n : Limits) (own : Prices) (new : SearchTree) → Becomes now PIVOTS columns n own new → AreRunsShown columns n new
new_shown now columns n own new (Closes prices proved is) = subst (AreRunsShown columns n) (sym is) tt
new_shown now columns n own new (Splits split handed s is) = subst (AreRunsShown columns n) (sym is) (earned_shown n now s.found columns split.cause.why s.earned, tt, tt)

runs_replaced : (columns : List Route) (n : Limits) (t : SearchTree) (way : List Side) (new : SearchTree) → IsOpenAt t way → AreRunsShown columns n t → AreRunsShown columns (limits_at n t way) new
    → AreRunsShown columns n (replaced t way new)
runs_replaced columns n (LeafNode leaf) way new o h k = k
runs_replaced columns n (SplitNode split first second) [] new o h k = elim o [ ]
runs_replaced columns n (SplitNode split first second) (First ∷ way) new o h k = (h.0, runs_replaced columns (child n split.choice First) first way new o h.1 k, h.2)
runs_replaced columns n (SplitNode split first second) (Second ∷ way) new o h k = (h.0, h.1, runs_replaced columns (child n split.choice Second) second way new o h.2 k)

pub runs_shown : (i : Instance) (budget : ℕ) (kept pool : List Route) (s : SearchState) → IsSearchRun i budget kept pool s → AreRunsShown pool (root_limits i) s.tree
runs_shown i budget kept pool s (Starts s' start) = subst (AreRunsShown kept (root_limits i)) (sym start.tree) tt
runs_shown i budget kept pool s (Goes columns pool' r t way run step) =
    let before = runs_shown i budget kept columns r run in
    let root = root_limits i in
    let over = subst (λ xs. AreRunsShown xs root r.tree) (sym step.extends.all) (runs_longer columns step.extends.added root r.tree before) in
    subst (AreRunsShown pool' root) (sym step.tree)
    (runs_replaced pool' root r.tree way step.new step.leads over (new_shown (best t) pool' (limits_at root r.tree way) (prices_at r.tree way) step.new step.becomes))
