-- the pool of the dossier that is whole, and columns that are its first routes
use Rattle.std.proofs.Common.{◌≡◌, ◌≢◌, ◌≤◌, ◌<◌, ◌+◌, ◌++◌, ◌∙◌, ℕ, List, [], ◌∷◌, length, get_or, take, ap, subst, sym, arith, refl, ext_get_or}
use Rattle.std.specs.Prelude.{All, AllPairs}
use Rattle.std.proofs.lemmas.List.{get_or-take, length-take, take_more}
use Rattle.std.proofs.lemmas.List.Elements.{All-cons, All-nil}
use Rattle.crew_terms.specs.Instance.{Instance}
use Rattle.crew_terms.specs.Limits.{GoesOn, IsRoute, Route, root_limits}
use Rattle.crew_terms.specs.Rules.{IsInstance}
use Rattle.crew_terms.specs.declared.Visit.{Visit}
use Rattle.crew_terms.specs.declared.TheConstants.{MOST_TASKS}
use Rattle.dossier_terms.specs.Dossier.{Dossier, IsGood, IsPooled}
use Rattle.route_terms.specs.Named.{IsOfInstance}
use Rattle.column_arena.specs.Columns.{FitsColumns, IsAdded, Last, Stood, column_of, no_column}
use Rattle.cert_checker.specs.Checked.{IsWholeAt}
use Rattle.cert_checker.specs.declared.checker.State.{State}
use Rattle.cert_checker.specs.declared.checker.State.TheVariants as states

-- dossiers that are whole at one place have one pool
pub one_pool : (at : State) (d e : Dossier) → IsWholeAt at d → IsWholeAt at e → d.pool ≡ e.pool
one_pool (states.Due due) d e a b = absurd a
one_pool (states.Whole ended) d e a b = ap (λ (x : Dossier). x.pool) a.is ∙ sym (ap (λ (x : Dossier). x.pool) b.is)
one_pool (states.Refused line reason) d e a b = absurd a
one_pool states.Spent d e a b = absurd a

abbrev AreKnown : Instance → List Visit → Type 0
AreKnown i vs = All (λ (v : Visit). v.task < length i.tasks) vs

rest_known : (i : Instance) (k : ℕ) (v : Visit) (vs : List Visit) → GoesOn (root_limits i) k v vs → AreKnown i vs
rest_known i k v [] h = All-nil (λ (v : Visit). v.task < length i.tasks)
rest_known i k v (w ∷ ws) (step, visit, rest) = All-cons (λ (v : Visit). v.task < length i.tasks) w ws visit.known (rest_known i k w ws rest)

route_known : (i : Instance) (k : ℕ) (vs : List Visit) → IsRoute (root_limits i) k vs → AreKnown i vs
route_known i k [] h = All-nil (λ (v : Visit). v.task < length i.tasks)
route_known i k (v ∷ vs) (visit, rest) = All-cons (λ (v : Visit). v.task < length i.tasks) v vs visit.known (rest_known i k v vs rest)

-- a route of the pool has the instance's team and tasks
pub pooled_known : (i : Instance) (r : Route) → IsPooled i r → IsOfInstance i r
pooled_known i r is = record { team = is.team; tasks = route_known i r.team r.visits is.route }

-- and may be a column
pub pooled_fits : (i : Instance) (r : Route) → IsInstance i → IsPooled i r → FitsColumns r
pooled_fits i r is pooled = record {
  team = (let few = is.parts.few_teams in let below = pooled.team in omega arith);
  some = (let some = pooled.some in omega arith);
  tasks = λ j d l. (let few = is.parts.few_tasks in let below = route_known i r.team r.visits pooled.route j d l in omega arith);
}

-- each route of a good dossier's pool may be a column
pub fits_at : (d : Dossier) → IsGood d → (n : ℕ) → n < length d.pool → FitsColumns (column_of d.pool n)
fits_at d good n l = pooled_fits d.instance (column_of d.pool n) good.instance (good.pool n no_column l)

-- one more route of a pool whose routes differ is put last
pub one_more : (pool : List Route) (n id : ℕ) (new : List Route) → AllPairs (λ (a b : Route). a ≢ b) pool → n < length pool
    → IsAdded (take n pool) (column_of pool n) id new → new ≡ take (n + 1) pool
one_more pool n id new differ l (Stood known equal same) =
    let m = length-take n pool in
    let below : id < n = omega arith in
    absurd (differ id n no_column below l (sym (get_or-take n pool id no_column below) ∙ equal))
one_more pool n id new differ l (Last fresh number last) = last ∙ sym (take_more pool n no_column l)

-- columns that are the first routes of a pool, one by one
pub first_routes : (pool columns : List Route) (kept n : ℕ) → length columns ≡ kept → kept ≤ length pool → kept ≤ n
    → ((c : ℕ) → c < n → column_of columns c ≡ column_of pool c) → take kept pool ≡ columns
first_routes pool columns kept n count fits all same =
    let m : length (take kept pool) ≡ kept = (let t = length-take kept pool in omega arith) in
    ext_get_or no_column (take kept pool) columns (m ∙ sym count) (λ c l.
    let below : c < kept = omega arith in
    get_or-take kept pool c no_column below ∙ sym (same c (omega arith)))

-- as many columns as first routes
pub first_count : (pool columns : List Route) (kept : ℕ) → kept ≤ length pool → take kept pool ≡ columns → length columns ≡ kept
first_count pool columns kept fits e =
    let t = length-take kept pool in
    let m : length (take kept pool) ≡ length columns = ap length e in
    omega arith

-- each of them is the route at its place
pub first_at : (pool columns : List Route) (kept c : ℕ) → take kept pool ≡ columns → c < kept → column_of columns c ≡ column_of pool c
first_at pool columns kept c e below = ap (λ (rs : List Route). column_of rs c) (sym e) ∙ get_or-take kept pool c no_column below
