-- the visits of routes
use Rattle.std.proofs.Common.{ℕ, List, [], ◌∷◌}
use Rattle.std.specs.List.{All}
use Rattle.std.proofs.lemmas.List.Elements.{All-cons, All-nil}
use Rattle.crew_terms.specs.Limits.{Limits, IsPermittedVisit, IsRoute, GoesOn}
use Rattle.crew_terms.specs.declared.Visit.{Visit}

-- team k may make the visit
abbrev pub IsVisitOf : Limits → ℕ → Visit → Type 0
IsVisitOf n k v = IsPermittedVisit n k v.task v.start

goes_on_by_visits : (n : Limits) (k : ℕ) (v : Visit) (vs : List Visit) → GoesOn n k v vs → All (IsVisitOf n k) vs
goes_on_by_visits n k v [] h = All-nil (IsVisitOf n k)
goes_on_by_visits n k v (w ∷ ws) h = All-cons (IsVisitOf n k) w ws h.1 (goes_on_by_visits n k w ws h.2)

pub route_by_visits : (n : Limits) (k : ℕ) (vs : List Visit) → IsRoute n k vs → All (IsVisitOf n k) vs
route_by_visits n k [] h = All-nil (IsVisitOf n k)
route_by_visits n k (v ∷ vs) h = All-cons (IsVisitOf n k) v vs h.0 (goes_on_by_visits n k v vs h.1)
