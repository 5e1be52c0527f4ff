-- the rows of the table for the lines of a pool
use Rattle.std.proofs.Common.{◌≡◌, ◌≢◌, ◌≤◌, ◌<◌, ◌++◌, ◌^◌, ℕ, List, [], ◌∷◌, length, map, ap, subst, sym, refl, ◌∙◌, arith, w64, to_z, of_z, None, Some}
use Rattle.std.specs.Prelude.{ℤ, pos, codes, All, Result, Ok, Err}
use Rattle.std.specs.List.{AllByRecursion, flat_map}
use Rattle.std.proofs.lemmas.List.{length-replicate}
use Rattle.std.proofs.lemmas.List.Elements.{All-contains}
use Rattle.std.proofs.lemmas.Int.{to_z_pos}
use Rattle.crew_terms.specs.Words.{Words}
use Rattle.crew_terms.specs.Instance.{Instance}
use Rattle.crew_terms.specs.Limits.{Limits, root_limits, Route}
use Rattle.crew_terms.specs.Plan.{Plan, empty_plan}
use Rattle.crew_terms.specs.Verdict.{IsPlanOf}
use Rattle.crew_terms.specs.declared.TheConstants.{LAST_MINUTE, MOST_TASKS, MOST_NUMBER}
use Rattle.crew_terms.specs.declared.Visit.{Visit}
use Rattle.crew_terms.specs.EmptyPlan.{job_none}
use Rattle.dossier_terms.specs.declared.DossierForm.{DossierForm}
use Rattle.dossier_terms.specs.declared.Reason.{Reason}
use Rattle.dossier_terms.specs.declared.Reason.TheVariants as reasons
use Rattle.dossier_terms.specs.Lines.{pool_line, route_line}
use Rattle.dossier_terms.specs.Reading.{More as Goes, No as Refuses, routes_due, Begun}
use Rattle.dossier_terms.specs.Rules.{Holds, Fails, Spelled, On, Begins}
use Rattle.dossier_terms.specs.Ranges.{IsRouteLine, IsPairs}
use Rattle.dossier_terms.specs.BodyTable.{pool_row, route_row, begin}
use Rattle.dossier_terms.specs.Counted.{route_pairs}
use Rattle.node_limits.specs.Rest.{NodeState, Rest, IsRestOver, limits_over, trail_over}
use Rattle.node_limits.specs.Trail.{Trail}
use Rattle.route_pool.specs.Numbers.{AreNumbersOf}
use Rattle.route_pool.specs.Verdict.{IsPoolVerdict, pool_after}
use Rattle.route_pool.specs.declared.pool.PoolVerdict.{PoolVerdict}
use Rattle.route_pool.specs.declared.pool.PoolVerdict.TheVariants.{Added, NotRoute, Repeated}
use Rattle.line_in.specs.Fields.{visit_numbers}
use Rattle.cert_checker.specs.Due.{IsRoot, Tells, draft_of}
use Rattle.cert_checker.specs.Rules.{TellsRoute}
use Rattle.cert_checker.specs.declared.due.BegunDossier.{BegunDossier as Held}
use Rattle.cert_checker.specs.declared.due.Step.{Step}
use Rattle.cert_checker.specs.declared.due.Step.TheVariants.{More, Whole}

-- ---- the limits of the root

none_left : (f : NodeState → Limits) (past : List NodeState) → map f past ≡ [] → past ≡ []
none_left f [] e = refl
none_left f (s ∷ past) e = absurd (cc)

-- limits that are put to rest are those of the root
pub rest_is_root : (i : Instance) (t : Trail) (rest : Rest) → t.limits ≡ root_limits i → t.past ≡ [] → trail_over t.limits.instance rest ≡ t → IsRestOver t.limits.instance rest → IsRoot i rest
rest_is_root i t rest e first same over =
    let of : t.limits.instance ≡ i = ap (λ (n : Limits). n.instance) e in record {
      over = subst (λ x. IsRestOver x rest) of over;
      root = ap (λ x. limits_over x rest.present) (sym of) ∙ ap (λ (x : Trail). x.limits) same ∙ e;
      past = none_left (limits_over t.limits.instance) rest.past (ap (λ (x : Trail). x.past) same ∙ first);
    }

-- limits of the root that woke are those of the root
pub root_woke : (i : Instance) (rest : Rest) (t : Trail) → IsRoot i rest → t ≡ trail_over i rest → (t.limits ≡ root_limits i) × (t.past ≡ [])
root_woke i rest t root woke = (ap (λ (x : Trail). x.limits) woke ∙ root.root, ap (λ (x : Trail). x.past) woke ∙ ap (map (limits_over i)) root.past)

-- ---- the empty plan

pub empty_is_plan : (i : Instance) → IsPlanOf i (empty_plan (length i.tasks))
empty_is_plan i = record {
  whole = length-replicate (length i.tasks) None;
  known = λ k j t d. absurd (let e : None ≡ Some d.0 = sym (job_none (length i.tasks) j) ∙ d.1 in cc);
}

-- what is read behind the line `pool`
pub begun : (form : DossierForm) (i : Instance) (budget kept : ℕ) (pool : List Route) (plan : Plan) → pool ≡ [] → plan ≡ empty_plan (length i.tasks)
    → ◌≡◌ {A = Begun} (record { form = form; instance = i; budget = budget; kept = kept; pool = pool; plan = plan; bound = 0 }) (begin form i budget kept)
begun form i budget kept pool plan e f =
    ap (λ x. with_parts x plan) e ∙ ap (λ x. with_parts [] x) f
  where
    with_parts : List Route → Plan → Begun
    with_parts x y = record { form = form; instance = i; budget = budget; kept = kept; pool = x; plan = y; bound = 0 }

-- ---- the line `pool`

-- a number that is told is the natural one
pub natural_is : (n : ℤ) (k r : ℕ) → n ≡ pos k → k ≤ MOST_NUMBER → to_z w64 (of_z w64 n) ≡ pos r → r ≡ k
natural_is n k r e le f =
    let g : pos r ≡ pos k = sym f ∙ ap (λ z. to_z w64 (of_z w64 z)) e ∙ to_z_pos w64 k (omega arith) in cc

pub pool_many : (form : DossierForm) (i : Instance) (budget k c : ℕ) (ws : Words) → k ≤ MOST_NUMBER → c ≤ MOST_NUMBER → ws ≡ pool_line k c
    → c < k → pool_row form i budget ws (Refuses reasons.Pool)
pool_many form i budget k c ws a b is more = Holds (_, is, refl) (Spelled (k, c) (a, b) is (Fails (λ le. absurd (omega arith)) refl))

pub pool_more : (form : DossierForm) (i : Instance) (budget k c : ℕ) (ws : Words) → k ≤ MOST_NUMBER → c ≤ MOST_NUMBER → ws ≡ pool_line k c
    → k ≤ c → pool_row form i budget ws (Goes (routes_due (begin form i budget k) c))
pool_more form i budget k c ws a b is le = Holds (_, is, refl) (Spelled (k, c) (a, b) is (Holds le (On refl)))

-- ---- a line `route`

small_tasks : (n : ℕ) (vs : List Visit) → n ≤ MOST_TASKS → AllByRecursion (λ (v : Visit). v.task < n) vs → AllByRecursion (λ (v : Visit). v.task < 2 ^ 32) vs
small_tasks n [] few h = tt
small_tasks n (v ∷ vs) few h = let a = h.0 in (omega arith, small_tasks n vs few h.1)

small_starts : (vs : List Visit) → AllByRecursion (λ (v : Visit). v.start ≤ LAST_MINUTE) vs → AllByRecursion (λ (v : Visit). v.start < 2 ^ 32) vs
small_starts [] h = tt
small_starts (v ∷ vs) h = let a = h.0 in (omega arith, small_starts vs h.1)

pub route_numbers : (m n : ℕ) (r : Route) → n ≤ MOST_TASKS → IsRouteLine m n r → AreNumbersOf r.visits (map pos (flat_map visit_numbers r.visits))
route_numbers m n r few h = record { spelled = refl; tasks = small_tasks n r.visits few h.tasks; starts = small_starts r.visits h.starts }

-- the row of a route is what the pool says of it
pub route_judged : (b : Begun) (more : ℕ) (ws : Words) (r : Route) (new : List Route) (verdict : PoolVerdict) (after : Held) (step : Result Step Reason)
    → IsRouteLine (length b.instance.teams) (length b.instance.tasks) r → ws ≡ route_line r → IsPoolVerdict (root_limits b.instance) b.pool r verdict → pool_after b.pool r new verdict
    → draft_of after ≡ record b { pool = new } → TellsRoute after more verdict step → Tells (route_row b more ws) step
route_judged b more ws r new verdict after step fits is says pool e told = at verdict says pool step told
  where
    shape : Begins (codes "route") ws × IsPairs ws
    shape = ((_, is), subst IsPairs (sym is) (route_pairs r fits.some))

    at : (v : PoolVerdict) → IsPoolVerdict (root_limits b.instance) b.pool r v → pool_after b.pool r new v → (s : Result Step Reason) → TellsRoute after more v s → Tells (route_row b more ws) s
    at Added h p (Ok (More due)) t =
        let next : routes_due (draft_of after) more ≡ routes_due (record b { pool = b.pool ++ r ∷ [] }) more =
        ap (λ d. routes_due d more) (e ∙ ap (λ (x : List Route). record b { pool = x }) p) in
        (routes_due (draft_of after) more, Holds shape (Spelled r fits is (Holds h.0 (Holds h.1 (On (ap Goes next))))), t)
    at Added h p (Ok (Whole ended)) t = absurd t
    at Added h p (Err reason) t = absurd t
    at NotRoute h p (Err reason) t = Holds shape (Spelled r fits is (Fails h (ap Refuses t)))
    at NotRoute h p (Ok (More due)) t = absurd t
    at NotRoute h p (Ok (Whole ended)) t = absurd t
    at Repeated h p (Err reason) t = Holds shape (Spelled r fits is (Holds h.0 (Fails (λ (new_one : All (λ (o : Route). o ≢ r) b.pool). All-contains (λ (o : Route). o ≢ r) b.pool r new_one h.1 refl) (ap Refuses t))))
    at Repeated h p (Ok (More due)) t = absurd t
    at Repeated h p (Ok (Whole ended)) t = absurd t
