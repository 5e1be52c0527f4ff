-- what the test for an equal route says of the pool
use Rattle.std.proofs.Common.{◌≡◌, ◌≢◌, true, false, List, AllPairs, Contains, true≢false, sym, ◌∙◌}
use Rattle.std.specs.List.{list_any, IsDistinct}
use Rattle.std.proofs.lemmas.List.Folds.{list_any_at}
use Rattle.std.proofs.lemmas.Map.Made.{AllPairs-from_IsDistinct}
use Rattle.indexmap.proofs.CallerLemmas.{Contains-list_any}
use Rattle.crew_terms.specs.Limits.{Route}
use Rattle.route_terms.specs.Keys.{same_route}
use Rattle.route_terms.specs.KeyLaws.{same_route_decides}
use Rattle.route_terms.specs.Routes.{IsNew}

pub is_new : (pool : List Route) (r : Route) → list_any (same_route r) pool ≡ false → IsNew pool r
is_new pool r none k d below same =
    absurd (true≢false (sym (list_any_at (same_route r) pool k d below ((same_route_decides r _).1 (sym same))) ∙ none))

pub stands : (pool : List Route) (r : Route) → list_any (same_route r) pool ≡ true → Contains pool r
stands pool r some = Contains-list_any same_route (λ a b. (same_route_decides a b).0) pool r some

pub apart : (pool : List Route) → IsDistinct same_route pool → AllPairs (λ a b. a ≢ b) pool
apart pool distinct = AllPairs-from_IsDistinct same_route_decides pool distinct
