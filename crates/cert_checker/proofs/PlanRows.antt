-- the rows of the table for the lines of a plan
use Rattle.std.proofs.Common.{◌≡◌, ◌≢◌, ◌≤◌, ◌<◌, ◌-◌, ℕ, zero, suc, List, [], ◌∷◌, length, map, subst, sym, refl, ◌∙◌, arith, ◌⊎◌, inl, inr, None, Some, get_or-set_same, get_or-set_other}
use Rattle.std.specs.Prelude.{pos, Contains, slice_set, Ok, Err}
use Rattle.std.specs.Global.{Box}
use Rattle.std.specs.List.{AllByRecursion}
use Rattle.std.proofs.lemmas.Bool.{cases_eq}
use Rattle.std.proofs.lemmas.List.{length-set}
use Rattle.crew_terms.specs.Words.{Words}
use Rattle.crew_terms.specs.Instance.{Instance}
use Rattle.crew_terms.specs.Plan.{Plan, Job, job_of, Does}
use Rattle.crew_terms.specs.Legal.{IsLegal}
use Rattle.crew_terms.specs.Verdict.{IsVerdict, IsPlanOf}
use Rattle.crew_terms.specs.declared.PlanVerdict.{PlanVerdict}
use Rattle.dossier_terms.specs.declared.Reason.TheVariants as reasons
use Rattle.dossier_terms.specs.Lines.{plan_line, do_line}
use Rattle.dossier_terms.specs.Reading.{Answer, Jobs, Trees, Begun}
use Rattle.dossier_terms.specs.Rules.{Must, Holds, HoldsBy, FailsBy, Spelled, On}
use Rattle.dossier_terms.specs.Ranges.{IsDoLine}
use Rattle.dossier_terms.specs.BodyTable.{plan_row, job_row, after_job}
use Rattle.head_check.specs.Numbers.{AreBelow}
use Rattle.cert_checker.specs.Due.{IsBegun, Tells, draft_of}
use Rattle.cert_checker.specs.declared.due.BegunDossier.{BegunDossier as Held}
use Rattle.cert_checker.specs.declared.due.Due.TheVariants.{Job as JobDue, Tree as TreeDue}
use Rattle.cert_checker.specs.declared.due.Step.TheVariants.{More}

-- ---- the line `plan`

pub plan_says : (b : Begun) (u l : ℕ) (ws : Words) (said : Answer) → u ≤ length b.instance.tasks → l ≤ length b.instance.tasks → ws ≡ plan_line u l
    → after_job (record b { bound = l }) (length b.instance.tasks - u) 0 said → plan_row b ws said
plan_says b u l ws said p q is rest = Holds (_, is, refl) (Spelled (u, l) (p, q) is rest)

-- ---- the numbers at the end of a line

pub below_from : (past most : ℕ) (ns : List ℕ) → past ≤ most → AllByRecursion (λ n. n < past) ns → AreBelow most (map pos ns)
below_from past most [] le h k d l = absurd (omega arith)
below_from past most (n ∷ ns) le h zero d l = (n, refl, (let a = h.0 in omega arith))
below_from past most (n ∷ ns) le h (suc k) d l = below_from past most ns le h.1 k d (omega arith)

-- ---- a line `do`

below_all : (m : ℕ) (ks : List ℕ) → AllByRecursion (λ k. k < m) ks → (k : ℕ) → Contains ks k → k < m
below_all m [] h k c = absurd (let l = c.1 in omega arith)
below_all m (x ∷ ks) h k (zero, l, e) = let a = h.0 in omega (arith, e)
below_all m (x ∷ ks) h k (suc n, l, e) = below_all m ks h.1 k (n, omega arith, e)

-- a job more of known teams
pub plan_of_more : (i : Instance) (p : Plan) (j start : ℕ) (ks : List ℕ) → IsPlanOf i p → j < length i.tasks → AllByRecursion (λ k. k < length i.teams) ks
    → IsPlanOf i (slice_set p j (Some (record { start = start; teams = ks })))
plan_of_more i p j start ks h below known = record {
  whole = length-set p j (Some job) ∙ h.whole;
  known = λ k g t d. at k g t d (cases_eq j g);
}
  where
    job : Job
    job = record { start = start; teams = ks }

    at : (k g t : ℕ) → Does (slice_set p j (Some job)) k g t → (j ≡ g) ⊎ (j ≢ g) → k < length i.teams
    at k g t d (inl e) =
        let here : job_of (slice_set p j (Some job)) g ≡ Some job = subst (λ x. job_of (slice_set p j (Some job)) x ≡ Some job) e
        (get_or-set_same p j (Some job) None (let w = h.whole in omega arith)) in
        let same : job ≡ d.0 = (let f : Some job ≡ Some d.0 = sym here ∙ d.1 in cc) in
        below_all (length i.teams) ks known k (subst (λ (o : Job). Contains o.teams k) (sym same) d.3)
    at k g t d (inr ne) =
        let there : job_of (slice_set p j (Some job)) g ≡ job_of p g = get_or-set_other p j g (Some job) None (λ e. ne (sym e)) in
        h.known k g t (d.0, sym there ∙ d.1, d.2, d.3)

pub job_says : (b : Begun) (k from : ℕ) (ws : Words) (p : ℕ × Job) (said : Answer) → IsDoLine (length b.instance.teams) (length b.instance.tasks) p → ws ≡ do_line p
    → Must (from ≤ p.0) reasons.Shape (after_job (record b { plan = slice_set b.plan p.0 (Some p.1) }) k (suc p.0)) said → job_row b k from ws said
job_says b k from ws p said fits is rest = Holds (_, is, omega arith) (Spelled p fits is rest)

pub job_goes_on : (b : Box Held) (more from : ℕ) → 0 < more → IsBegun b.value → Tells (after_job (draft_of b.value) more from) (Ok (More (JobDue b (more - 1) from)))
job_goes_on b zero from l h = absurd (omega arith)
job_goes_on b (suc more) from l h = let e : suc more - 1 ≡ more = omega arith in
    subst (λ n. Tells (after_job (draft_of b.value) (suc more) from) (Ok (More (JobDue b n from)))) (sym e) (Jobs (draft_of b.value) more from, On refl, (h, refl))

pub jobs_judged : (b : Box Held) (more from : ℕ) → more ≡ 0 → IsBegun b.value → IsLegal b.value.base.instance b.value.plan → Tells (after_job (draft_of b.value) more from) (Ok (More (TreeDue b)))
jobs_judged b more from none begun legal = subst (λ n. Tells (after_job (draft_of b.value) n from) (Ok (More (TreeDue b)))) (sym none)
    (Trees (draft_of b.value), HoldsBy legal (On refl), (begun.root, refl))

pub jobs_faulty : (b : Box Held) (more from : ℕ) (v : PlanVerdict) → more ≡ 0 → IsVerdict b.value.base.instance b.value.plan v → (IsLegal b.value.base.instance b.value.plan → ⊥)
    → Tells (after_job (draft_of b.value) more from) (Err (reasons.Plan v))
jobs_faulty b more from v none is broken = subst (λ n. Tells (after_job (draft_of b.value) n from) (Err (reasons.Plan v))) (sym none)
    (FailsBy (reasons.Plan v) (v, is, refl) broken refl)
