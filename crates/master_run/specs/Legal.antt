-- laws of routes in a node
use Rattle.std.proofs.Common.{◌<◌, ℕ, zero, suc, List, [], ◌∷◌, All, Contains, sym, subst, arith}
use Rattle.std.proofs.lemmas.List.Elements.{All-nil, All-cons}
use Rattle.crew_terms.specs.Limits.{Limits, Route, IsRoute, GoesOn, tasks_in}
use Rattle.crew_terms.specs.declared.Visit.{Visit}
use Rattle.search_terms.specs.Earned.{AreLegalOf}
use Rattle.search_terms.specs.Earned.AreLegalOf.{None, Kept, Left}
use Rattle.share_terms.specs.Shares.{IsRouteIn}

-- the legal ones among columns are routes in the node
pub legal_are : (n : Limits) (cs rs : List Route) → AreLegalOf n cs rs → All (IsRouteIn n) rs
legal_are n cs rs None = All-nil (IsRouteIn n)
legal_are n cs rs (Kept r legal rest) = All-cons (IsRouteIn n) r _ legal (legal_are n _ _ rest)
legal_are n cs rs (Left r illegal rest) = legal_are n _ _ rest

-- a column that is a route in the node is among the legal ones
pub legal_held : (n : Limits) (cs rs : List Route) (r : Route) → AreLegalOf n cs rs → Contains cs r → IsRouteIn n r → Contains rs r
legal_held n cs rs r None (k, below, at) is = absurd (omega arith)
legal_held n cs rs r (Kept q legal rest) (zero, below, at) is = (0, omega arith, at)
legal_held n cs rs r (Kept q legal rest) (suc k, below, at) is =
    let (m, less, e) = legal_held n _ _ r rest (k, omega arith, at) is in (suc m, omega arith, e)
legal_held n cs rs r (Left q illegal rest) (zero, below, at) is = absurd (illegal (subst (IsRouteIn n) (sym at) is))
legal_held n cs rs r (Left q illegal rest) (suc k, below, at) is = legal_held n _ _ r rest (k, omega arith, at) is

-- ---- a route's tasks are known

later_known : (n : Limits) (k : ℕ) (v : Visit) (vs : List Visit) → GoesOn n k v vs → All (λ (v : Visit). v.task < tasks_in n) vs
later_known n k v [] h = All-nil (λ (v : Visit). v.task < tasks_in n)
later_known n k v (w ∷ ws) h = All-cons (λ (v : Visit). v.task < tasks_in n) w ws (h.1).known (later_known n k w ws h.2)

pub tasks_known : (n : Limits) (k : ℕ) (vs : List Visit) → IsRoute n k vs → All (λ (v : Visit). v.task < tasks_in n) vs
tasks_known n k [] h = All-nil (λ (v : Visit). v.task < tasks_in n)
tasks_known n k (v ∷ vs) h = All-cons (λ (v : Visit). v.task < tasks_in n) v vs (h.0).known (later_known n k v vs h.1)
