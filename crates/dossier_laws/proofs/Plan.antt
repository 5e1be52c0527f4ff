-- the plan: what is read is its lines, and legal; and the lines of a legal one are read
use Rattle.std.proofs.Common.{◌≡◌, ◌<◌, ◌≤◌, ◌+◌, ◌-◌, ℕ, zero, suc, [], ◌∷◌, ◌++◌, length, set, ap, sym, refl, ◌∙◌, subst, arith, append_assoc, length-append, None, Some}
use Rattle.std.proofs.Math.Seq.{get_or-append_seam, set-append_seam}
use Rattle.std.specs.Prelude.{map, slice_set}
use Rattle.std.proofs.lemmas.List.{length-replicate, get_or-set_other, length-set}
use Rattle.crew_terms.specs.Rules.{IsInstance}
use Rattle.crew_terms.specs.Plan.{Plan, empty_plan, job_of, unassigned_count}
use Rattle.crew_terms.specs.Legal.{IsLegal}
use Rattle.crew_terms.specs.Words.{Words}
use Rattle.crew_terms.specs.EmptyPlan.{job_none}
use Rattle.dossier_terms.specs.Lines.{plan_line, do_line, jobs_from, plan_lines}
use Rattle.dossier_terms.specs.Reading.{Reading, Answer, More, Plans, Jobs, Trees, jobs_due, Begun}
use Rattle.dossier_terms.specs.Rules.{Holds, HoldsBy, Spelled, On}
use Rattle.dossier_terms.specs.Table.{Reaches}
use Rattle.dossier_terms.specs.BodyTable.{plan_row, job_row, after_job}
use Rattle.dossier_laws.proofs.SoFar.{IsPoolPart, AreRoutes, IsPlanPart, AreJobs, IsReading, spelled, Follows, routes_lines, jobs_lines}
use Rattle.dossier_laws.proofs.Jobs.{jobs_count, jobs_none, jobs_set, no_jobs, do_fits}
use Rattle.dossier_laws.proofs.Lists.{map_more}
use Rattle.dossier_laws.proofs.Rules.{must_then, by_then, spells_then, goes_then}

-- ---- what is read

due_jobs : (b : Begun) (k from : ℕ) → AreJobs b k from → (k ≡ 0 → IsLegal b.instance b.plan) → (spelled (jobs_due b k from) ≡ jobs_lines b k) × IsReading (jobs_due b k from)
due_jobs b zero from h legal =
    let a = jobs_count 0 b.plan in
    let w = h.0.whole in (
      ap (λ n. routes_lines b (length b.pool) ++ plan_line n b.bound ∷ map do_line (jobs_from 0 b.plan)) (let e : unassigned_count b.plan ≡ length b.instance.tasks - (length (jobs_from 0 b.plan) + 0) = omega arith in e),
      record { pool = h.0.pool; bound = h.0.bound; plan = legal refl },
    )
due_jobs b (suc k) from h legal = (refl, h)

after_follows : (s : Reading) (ws : Words) (said : Answer) (b : Begun) (k from : ℕ) → ((k ≡ 0 → IsLegal b.instance b.plan) → Follows s ws (More (jobs_due b k from)))
    → after_job b k from said → Follows s ws said
after_follows s ws said b zero from f h = by_then s ws said (λ legal g. goes_then s ws said (f (λ z. legal)) g) h
after_follows s ws said b (suc k) from f h = goes_then s ws said (f (λ z. absurd (omega arith))) h

pub plan_follows : (b : Begun) (ws : Words) (said : Answer) → AreRoutes b 0 → plan_row b ws said → Follows (Plans b) ws said
plan_follows b ws said r h = must_then s ws said (λ shape g.
    spells_then s ws said (λ p is e g.
    let c : Begun = record b { bound = p.1 } in
    let n : ℕ = length b.instance.tasks in
    let none : jobs_from 0 b.plan ≡ [] = ap (jobs_from 0) r.1 ∙ jobs_none 0 n in
    let pool : IsPoolPart c (length c.pool) = record { head = r.0.head; kept = omega (arith, r.0.kept); many = omega (arith, r.0.many); pool = r.0.pool; differ = r.0.differ } in
    let part : IsPlanPart c 0 = record { pool = pool; bound = is.1; whole = ap length r.1 ∙ length-replicate n None; later = λ j l. ap (λ p. job_of p j) r.1 ∙ job_none n j } in
    let a : length (jobs_from 0 b.plan) ≡ 0 = ap length none in
    after_follows s ws said c (n - p.0) 0 (λ legal.
    let due = due_jobs c (n - p.0) 0 (part, omega arith) legal in (
      due.0
          ∙ ap (λ m. spelled s ++ plan_line m p.1 ∷ map do_line (jobs_from 0 b.plan)) (let q : n - (length (jobs_from 0 b.plan) + (n - p.0)) ≡ p.0 = omega (arith, is.0) in q)
          ∙ ap (λ js. spelled s ++ plan_line p.0 p.1 ∷ map do_line js) none
          ∙ ap (λ w. spelled s ++ w ∷ []) (sym e),
      due.1,
    )) g) g) h
  where
    s : Reading
    s = Plans b

pub job_follows : (b : Begun) (k from : ℕ) (ws : Words) (said : Answer) → AreJobs b (suc k) from → job_row b k from ws said → Follows (Jobs b k from) ws said
job_follows b k from ws said r h = must_then s ws said (λ shape g.
    spells_then s ws said (λ p is e g.
    must_then s ws said (λ later g.
    let c : Begun = record b { plan = slice_set b.plan p.0 (Some p.1) } in
    let in_plan : p.0 < length b.plan = omega (arith, is.task, r.0.whole) in
    let jobs : jobs_from 0 c.plan ≡ jobs_from 0 b.plan ++ p ∷ [] =
    jobs_set 0 b.plan p.0 p.1 (λ i l. r.0.later i (omega arith)) in_plan ∙ ap (λ o. jobs_from 0 b.plan ++ (o, p.1) ∷ []) (let q : 0 + p.0 ≡ p.0 = omega arith in q) in
    let more : length (jobs_from 0 c.plan) ≡ length (jobs_from 0 b.plan) + 1 = ap length jobs ∙ length-append (jobs_from 0 b.plan) (p ∷ []) in
    let pool : IsPoolPart c (length c.pool) = record { head = r.0.pool.head; kept = r.0.pool.kept; many = r.0.pool.many; pool = r.0.pool.pool; differ = r.0.pool.differ } in
    let part : IsPlanPart c (suc p.0) = record {
      pool = pool;
      bound = r.0.bound;
      whole = length-set b.plan p.0 (Some p.1) ∙ r.0.whole;
      later = λ j l. get_or-set_other b.plan p.0 j (Some p.1) None (λ q. absurd (omega arith)) ∙ r.0.later j (omega arith);
    } in
    let unassigned : ℕ = length b.instance.tasks - (length (jobs_from 0 b.plan) + suc k) in
    let n : length (jobs_from 0 c.plan) + k ≡ length (jobs_from 0 b.plan) + suc k = omega arith in
    after_follows s ws said c k (suc p.0) (λ legal.
    let due = due_jobs c k (suc p.0) (part, omega (arith, r.1)) legal in (
      due.0 ∙ ap (λ m. routes_lines b (length b.pool) ++ plan_line (length b.instance.tasks - m) b.bound ∷ map do_line (jobs_from 0 c.plan)) n
          ∙ ap (λ js. routes_lines b (length b.pool) ++ plan_line unassigned b.bound ∷ map do_line js) jobs
          ∙ map_more do_line (routes_lines b (length b.pool)) (plan_line unassigned b.bound) (jobs_from 0 b.plan) p
          ∙ ap (λ w. spelled s ++ w ∷ []) (sym e),
      due.1,
    )) g) g) g) h
  where
    s : Reading
    s = Jobs b k from

-- ---- what is written

after_holds : (b : Begun) (k from : ℕ) → (k ≡ 0 → IsLegal b.instance b.plan) → after_job b k from (More (jobs_due b k from))
after_holds b zero from h = HoldsBy (h refl) (On refl)
after_holds b (suc k) from h = On refl

jobs_reached : (b : Begun) → IsInstance b.instance → IsLegal b.instance b.plan → (done q : Plan) (from : ℕ) → b.plan ≡ done ++ q → from ≤ length done
    → Reaches (jobs_due (record b { plan = done ++ empty_plan (length q) }) (length (jobs_from (length done) q)) from) (map do_line (jobs_from (length done) q)) (Trees b)
jobs_reached b w legal done [] from e l = ap (λ p. Trees (record b { plan = p })) (sym e)
jobs_reached b w legal done (None ∷ q) from e l =
    let n : length (done ++ None ∷ []) ≡ suc (length done) = omega (arith, length-append done (None ∷ [])) in
    let a = jobs_reached b w legal (done ++ None ∷ []) q from (e ∙ sym (append_assoc done (None ∷ []) q)) (omega arith) in
    subst (λ m. Reaches (jobs_due (record b { plan = done ++ None ∷ empty_plan (length q) }) (length (jobs_from m q)) from) (map do_line (jobs_from m q)) (Trees b)) n
    (subst (λ p. Reaches (jobs_due (record b { plan = p }) (length (jobs_from (length (done ++ None ∷ [])) q)) from) (map do_line (jobs_from (length (done ++ None ∷ [])) q)) (Trees b))
    (append_assoc done (None ∷ []) (empty_plan (length q))) a)
jobs_reached b w legal done (Some job ∷ q) from e l =
    let n : length (done ++ Some job ∷ []) ≡ suc (length done) = omega (arith, length-append done (Some job ∷ [])) in
    let k : ℕ = length (jobs_from (suc (length done)) q) in
    let c : Begun = record b { plan = set (done ++ None ∷ empty_plan (length q)) (length done) (Some job) } in
    let placed : c.plan ≡ done ++ Some job ∷ empty_plan (length q) = set-append_seam done None (empty_plan (length q)) (Some job) in
    let here : job_of b.plan (length done) ≡ Some job = ap (λ p. job_of p (length done)) e ∙ get_or-append_seam done (Some job) q None in
    let in_plan : length done < length b.plan = omega (arith, ap length e, length-append done (Some job ∷ q)) in
    let last : k ≡ 0 → IsLegal b.instance c.plan = λ (z : k ≡ 0). subst (IsLegal b.instance) (e ∙ ap (λ w. done ++ Some job ∷ w) (no_jobs (suc (length done)) q z) ∙ sym placed) legal in
    let a = jobs_reached b w legal (done ++ Some job ∷ []) q (suc (length done)) (e ∙ sym (append_assoc done (Some job ∷ []) q)) (omega arith) in (
      jobs_due c k (suc (length done)),
      Holds (_, refl, omega arith) (Spelled (length done, job) (do_fits b.instance b.plan (length done) job w legal.feasible here in_plan) refl
          (Holds l (after_holds c k (suc (length done)) last))),
      subst (λ p. Reaches (jobs_due (record b { plan = p }) k (suc (length done))) (map do_line (jobs_from (suc (length done)) q)) (Trees b)) (sym placed)
          (subst (λ m. Reaches (jobs_due (record b { plan = done ++ Some job ∷ empty_plan (length q) }) (length (jobs_from m q)) (suc (length done))) (map do_line (jobs_from m q)) (Trees b)) n
          (subst (λ p. Reaches (jobs_due (record b { plan = p }) (length (jobs_from (length (done ++ Some job ∷ [])) q)) (suc (length done))) (map do_line (jobs_from (length (done ++ Some job ∷ [])) q)) (Trees b))
          (append_assoc done (Some job ∷ []) (empty_plan (length q))) a)),
    )

-- from the line `plan` on
pub plan_reached : (b : Begun) → IsInstance b.instance → IsLegal b.instance b.plan → b.bound ≤ length b.instance.tasks
    → Reaches (Plans (record b { plan = empty_plan (length b.instance.tasks); bound = 0 })) (plan_lines b.plan b.bound) (Trees b)
plan_reached b w legal le =
    let n : ℕ = length b.instance.tasks in
    let a = jobs_count 0 b.plan in
    let few : unassigned_count b.plan ≤ n = omega (arith, legal.feasible.whole) in
    let none : n - unassigned_count b.plan ≡ 0 → IsLegal b.instance (empty_plan n) = λ (z : n - unassigned_count b.plan ≡ 0).
    subst (IsLegal b.instance) (no_jobs 0 b.plan (omega (arith, legal.feasible.whole)) ∙ ap empty_plan legal.feasible.whole) legal in
    let left : n - unassigned_count b.plan ≡ length (jobs_from 0 b.plan) = omega (arith, legal.feasible.whole) in (
      jobs_due (record b { plan = empty_plan n }) (n - unassigned_count b.plan) 0,
      Holds (_, refl, refl) (Spelled (unassigned_count b.plan, b.bound) (few, le) refl (after_holds (record b { plan = empty_plan n }) (n - unassigned_count b.plan) 0 none)),
      subst (λ k. Reaches (jobs_due (record b { plan = empty_plan n }) k 0) (map do_line (jobs_from 0 b.plan)) (Trees b)) (sym left)
          (subst (λ m. Reaches (jobs_due (record b { plan = empty_plan m }) (length (jobs_from 0 b.plan)) 0) (map do_line (jobs_from 0 b.plan)) (Trees b)) legal.feasible.whole
          (jobs_reached b w legal [] b.plan 0 refl (omega arith))),
    )
