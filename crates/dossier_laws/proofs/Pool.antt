-- the pool: what is read is its lines, and good; and the lines of a good one are read
use Rattle.std.proofs.Common.{◌≡◌, ◌<◌, ◌≤◌, ◌+◌, ℕ, zero, suc, List, [], ◌∷◌, ◌++◌, length, ap, sym, refl, ◌∙◌, arith, length-append}
use Rattle.std.specs.Prelude.{◌≢◌, All, AllPairs}
use Rattle.std.specs.List.{AllByRecursion}
use Rattle.std.proofs.lemmas.List.Elements.{All-push}
use Rattle.std.proofs.lemmas.List.Quantifiers.{all_pairs_push}
use Rattle.crew_terms.specs.Instance.{Instance}
use Rattle.crew_terms.specs.Rules.{IsInstance}
use Rattle.crew_terms.specs.Limits.{IsRoute, GoesOn, IsPermittedVisit, root_limits, Route}
use Rattle.crew_terms.specs.declared.Visit.{Visit}
use Rattle.dossier_terms.specs.declared.DossierForm.{DossierForm}
use Rattle.dossier_terms.specs.Dossier.{IsPooled}
use Rattle.crew_terms.specs.Words.{Words}
use Rattle.dossier_terms.specs.Lines.{pool_line, route_line, head_lines, pool_lines}
use Rattle.dossier_terms.specs.Reading.{Reading, Answer, More, Pools, Routes, Plans, routes_due, Begun}
use Rattle.dossier_terms.specs.Rules.{Holds, Spelled, On}
use Rattle.dossier_terms.specs.Table.{Says, Reaches}
use Rattle.dossier_terms.specs.BodyTable.{pool_row, route_row, begin}
use Rattle.dossier_terms.specs.Counted.{route_pairs}
use Rattle.dossier_laws.proofs.SoFar.{IsHead, IsPoolPart, AreRoutes, IsReading, spelled, Follows, routes_lines}
use Rattle.crew_terms.specs.declared.TheConstants.{LAST_MINUTE, MOST_NUMBER}
use Rattle.dossier_laws.proofs.Lists.{All-at, AllPairs-at, map_more}
use Rattle.dossier_laws.proofs.Rules.{must_then, spells_then, goes_then, reaches_all}
use Rattle.dossier_laws.specs.Days.{IsDay, last_minute, root_day}

-- ---- what is read

due_routes : (b : Begun) (k : ℕ) → AreRoutes b k → (spelled (routes_due b k) ≡ routes_lines b (length b.pool + k)) × IsReading (routes_due b k)
due_routes b zero h = (ap (routes_lines b) (let e : length b.pool ≡ length b.pool + 0 = omega arith in e), h)
due_routes b (suc k) h = (refl, h)

pub pool_follows : (form : DossierForm) (i : Instance) (budget : ℕ) (ws : Words) (said : Answer) → IsHead form i budget → pool_row form i budget ws said → Follows (Pools form i budget) ws said
pool_follows form i budget ws said r h = must_then s ws said (λ shape g.
    spells_then s ws said (λ p is e g.
    must_then s ws said (λ kept g.
    let b : Begun = begin form i budget p.0 in
    let due = due_routes b p.1 (record { head = r; kept = omega arith; many = omega (arith, is.1); pool = λ k d l. absurd (omega arith); differ = λ i j d a l. absurd (omega arith) }, refl) in
    goes_then s ws said (due.0 ∙ ap (λ n. head_lines form i budget ++ pool_line p.0 n ∷ []) (let e : 0 + p.1 ≡ p.1 = omega arith in e) ∙ ap (λ w. head_lines form i budget ++ w ∷ []) (sym e), due.1) g) g) g) h
  where
    s : Reading
    s = Pools form i budget

pub route_follows : (b : Begun) (k : ℕ) (ws : Words) (said : Answer) → AreRoutes b (suc k) → route_row b k ws said → Follows (Routes b k) ws said
route_follows b k ws said r h = must_then s ws said (λ shape g.
    spells_then s ws said (λ x is e g.
    must_then s ws said (λ legal g.
    must_then s ws said (λ fresh g.
    let c : Begun = record b { pool = b.pool ++ x ∷ [] } in
    let n : length c.pool + k ≡ length b.pool + suc k = omega (arith, length-append b.pool (x ∷ [])) in
    let part : IsPoolPart c (length c.pool + k) = record {
      head = r.0.head;
      kept = omega (arith, r.0.kept);
      many = omega (arith, r.0.many);
      pool = All-push (IsPooled b.instance) b.pool x r.0.pool (record { team = is.team; some = is.some; route = legal });
      differ = all_pairs_push (λ (a c : Route). a ≢ c) b.pool x r.0.differ fresh;
    } in
    let due = due_routes c k (part, r.1) in
    goes_then s ws said (
      due.0 ∙ ap (routes_lines c) n
          ∙ map_more route_line (head_lines b.form b.instance b.budget) (pool_line b.kept (length b.pool + suc k)) b.pool x
          ∙ ap (λ w. spelled s ++ w ∷ []) (sym e),
      due.1,
    ) g) g) g) g) h
  where
    s : Reading
    s = Routes b k

-- ---- what is written

visit_in : (i : Instance) (k j t : ℕ) → IsDay (root_limits i) → IsPermittedVisit (root_limits i) k j t → (j < length i.tasks) × (t ≤ LAST_MINUTE)
visit_in i k j t day p = (p.known, omega (arith, last_minute (root_limits i) j day, p.late))

goes_in : (i : Instance) (k : ℕ) (v : Visit) (vs : List Visit) → IsDay (root_limits i) → GoesOn (root_limits i) k v vs
    → AllByRecursion (λ (v : Visit). v.task < length i.tasks) vs × AllByRecursion (λ (v : Visit). v.start ≤ LAST_MINUTE) vs
goes_in i k v [] day g = (tt, tt)
goes_in i k v (w ∷ ws) day g =
    let a = visit_in i k w.task w.start day g.1 in
    let b = goes_in i k w ws day g.2 in
    ((a.0, b.0), (a.1, b.1))

route_in : (i : Instance) (k : ℕ) (vs : List Visit) → IsDay (root_limits i) → IsRoute (root_limits i) k vs
    → AllByRecursion (λ (v : Visit). v.task < length i.tasks) vs × AllByRecursion (λ (v : Visit). v.start ≤ LAST_MINUTE) vs
route_in i k [] day g = (tt, tt)
route_in i k (v ∷ vs) day g =
    let a = visit_in i k v.task v.start day g.0 in
    let b = goes_in i k v vs day g.1 in
    ((a.0, b.0), (a.1, b.1))

pub pool_reached : (form : DossierForm) (i : Instance) (budget kept : ℕ) (pool : List Route) → IsInstance i → kept ≤ length pool → length pool ≤ MOST_NUMBER
    → All (IsPooled i) pool → AllPairs (λ (a b : Route). a ≢ b) pool
    → Reaches (Pools form i budget) (pool_lines kept pool) (Plans (record (begin form i budget kept) { pool = pool }))
pool_reached form i budget kept pool whole some many good differ = (
  routes_due (begin form i budget kept) (length pool),
  Holds (_, refl, refl) (Spelled (kept, length pool) (omega arith, many) refl (Holds some (On refl))),
  reaches_all route_line (λ rs k. routes_due (record (begin form i budget kept) { pool = rs }) k) pool one [] pool refl,
)
  where
    one : (ys : List Route) (x : Route) (zs : List Route) → pool ≡ ys ++ x ∷ zs
        → Says (routes_due (record (begin form i budget kept) { pool = ys }) (suc (length zs))) (route_line x) (More (routes_due (record (begin form i budget kept) { pool = ys ++ x ∷ [] }) (length zs)))
    one ys x zs e =
        let g = All-at (IsPooled i) pool ys x zs e good in
        let in_range = route_in i x.team x.visits (root_day i whole) g.route in
        Holds ((_, refl), route_pairs x g.some) (Spelled x (record { team = g.team; some = g.some; tasks = in_range.0; starts = in_range.1 }) refl
        (Holds g.route (Holds (AllPairs-at (λ (a b : Route). a ≢ b) pool ys x zs e differ) (On refl))))
