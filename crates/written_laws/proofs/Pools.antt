-- routes of a node are routes of the root, and so a pool that steps leave is one of the instance
use Rattle.std.proofs.Common.{◌≡◌, ◌≤◌, ◌++◌, ◌∷◌, [], ℕ, List, ap, sym, subst, arith}
use Rattle.std.specs.Prelude.{All}
use Rattle.std.proofs.lemmas.List.Elements.{All-append, All-weaker}
use Rattle.crew_terms.specs.Instance.{Instance}
use Rattle.crew_terms.specs.Limits.{GoesOn, IsPermittedVisit, IsRoute, Limits, Route, root_limits}
use Rattle.crew_terms.specs.declared.Side.{Side}
use Rattle.crew_terms.specs.declared.Visit.{Visit}
use Rattle.dossier_terms.specs.Dossier.{IsPooled}
use Rattle.search_terms.specs.Inside.{IsNode}
use Rattle.search_terms.specs.Search.{Extends, Goes, IsColumn, IsRun, IsSearchRun, SearchState, Starts}
use Rattle.search_terms.specs.WayLimits.{at_instance}
use Rattle.search_terms.specs.Ways.{limits_at}

root_visit : (n : Limits) (k j t : ℕ) → IsNode n → IsPermittedVisit n k j t → IsPermittedVisit (root_limits n.instance) k j t
root_visit n k j t node v =
    let early = node.inside.early j v.known in
    let late = node.inside.late j v.known in
    let from = v.early in
    let until = v.late in
    record {
      known = v.known;
      qualified = v.qualified;
      allowed = λ e. v.allowed (node.inside.forbidden k j e);
      early = omega arith;
      late = omega arith;
      in_shift = v.in_shift;
    }

root_rest : (n : Limits) (k : ℕ) (v : Visit) (vs : List Visit) → IsNode n → GoesOn n k v vs → GoesOn (root_limits n.instance) k v vs
root_rest n k v [] node h = tt
root_rest n k v (w ∷ ws) node (step, visit, rest) =
    (record { other = step.other; follow = step.follow }, root_visit n k w.task w.start node visit, root_rest n k w ws node rest)

root_route : (n : Limits) (k : ℕ) (vs : List Visit) → IsNode n → IsRoute n k vs → IsRoute (root_limits n.instance) k vs
root_route n k [] node h = tt
root_route n k (v ∷ vs) node (visit, rest) = (root_visit n k v.task v.start node visit, root_rest n k v vs node rest)

pooled : (n : Limits) (r : Route) → IsNode n → IsColumn n r → IsPooled n.instance r
pooled n r node column = record {
  team = column.legal.team;
  some = column.some;
  route = root_route n r.team r.visits node column.legal.route;
}

-- a pool that steps leave
pub pool_of : (i : Instance) (budget : ℕ) (kept pool : List Route) (s : SearchState)
    → ((t : SearchState) (way : List Side) → IsRun i budget t → IsNode (limits_at (root_limits i) t.tree way))
    → ((columns : List Route) (t : SearchState) → IsSearchRun i budget kept columns t → IsRun i budget t)
    → IsSearchRun i budget kept pool s → All (IsPooled i) kept → All (IsPooled i) pool
pool_of i budget kept pool s node is_run (Starts s' start) all = all
pool_of i budget kept pool s node is_run (Goes columns pool' r s' way run step) all =
    let n : Limits = limits_at (root_limits i) r.tree way in
    let more = step.extends in
    let same : n.instance ≡ i = at_instance (root_limits i) r.tree way in
    let is : IsNode n = node r way (is_run columns r run) in
    subst (λ (xs : List Route). All (IsPooled i) xs) (sym more.all)
    (All-append (IsPooled i) columns more.added (pool_of i budget kept columns r node is_run run all)
    (All-weaker (IsColumn n) (IsPooled i) (λ (x : Route) (c : IsColumn n x). subst (λ (j : Instance). IsPooled j x) same (pooled n x is c)) more.added more.routes))
