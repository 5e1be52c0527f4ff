-- routes that are kept by names, and routes of an instance's pool
use Rattle.std.proofs.Common.{◌≡◌, ◌<◌, ◌∙◌, ◌∷◌, [], ℕ, List, length, ap, arith}
use Rattle.std.proofs.Math.Seq.{take-append_seam}
use Rattle.std.specs.Prelude.{All, take}
use Rattle.std.proofs.lemmas.List.Elements.{All-cons, All-head, All-nil, All-tail}
use Rattle.column_arena.specs.Columns.{FitsColumns}
use Rattle.crew_terms.specs.Instance.{Instance}
use Rattle.crew_terms.specs.Limits.{GoesOn, IsRoute, Route, root_limits}
use Rattle.crew_terms.specs.declared.Visit.{Visit}
use Rattle.dossier_terms.specs.Dossier.{IsPooled}
use Rattle.route_terms.specs.Kept.{AreKeptIn, Kept, Left, None}
use Rattle.route_terms.specs.Named.{IsOfInstance, NamedRoute}
use Rattle.search_core.specs.Solved.{IsGrown}

-- what is kept and is a column may stand in the pool
pub kept_pooled : (i : Instance) (handed : List NamedRoute) (kept : List Route) → AreKeptIn (root_limits i) handed kept → All FitsColumns kept → All (IsPooled i) kept
kept_pooled i handed kept None fits = All-nil (IsPooled i)
kept_pooled i handed kept' (Kept {carried = c} {kept = kept} named r is rest) fits =
    let fit = All-head FitsColumns r kept fits in
    All-cons (IsPooled i) r kept (record { team = is.exists.team; some = (let s = fit.some in omega arith); route = is.route }) (kept_pooled i c kept rest (All-tail FitsColumns r kept fits))
kept_pooled i handed kept' (Left {carried = c} {kept = kept} named none rest) fits = kept_pooled i c kept rest fits

abbrev AreKnown : Instance → List Visit → Type 0
AreKnown i vs = All (λ (v : Visit). v.task < length i.tasks) vs

rest_known : (i : Instance) (k : ℕ) (v : Visit) (vs : List Visit) → GoesOn (root_limits i) k v vs → AreKnown i vs
rest_known i k v [] h = All-nil (λ (v : Visit). v.task < length i.tasks)
rest_known i k v (w ∷ ws) (step, visit, rest) = All-cons (λ (v : Visit). v.task < length i.tasks) w ws visit.known (rest_known i k w ws rest)

route_known : (i : Instance) (k : ℕ) (vs : List Visit) → IsRoute (root_limits i) k vs → AreKnown i vs
route_known i k [] h = All-nil (λ (v : Visit). v.task < length i.tasks)
route_known i k (v ∷ vs) (visit, rest) = All-cons (λ (v : Visit). v.task < length i.tasks) v vs visit.known (rest_known i k v vs rest)

-- a route of the pool has the instance's team and tasks
pub pooled_known : (i : Instance) (r : Route) → IsPooled i r → IsOfInstance i r
pooled_known i r is = record { team = is.team; tasks = route_known i r.team r.visits is.route }

-- columns that grew begin with what they were
pub grown_front : (old new : List Route) → IsGrown old new → take (length old) new ≡ old
grown_front old new grown = ap (take (length old)) grown.all ∙ take-append_seam old grown.added
