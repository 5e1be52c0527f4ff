-- the jobs of a plan, in the order of their tasks
use Rattle.std.proofs.Common.{◌≡◌, ◌<◌, ◌≤◌, ◌+◌, ℕ, zero, suc, [], ◌∷◌, ◌++◌, length, set, ap, sym, refl, ◌∙◌, arith, Option, None, Some}
use Rattle.std.specs.Prelude.{slice_index_or, is_none, cond}
use Rattle.std.proofs.lemmas.List.Sums.{sum_by-cons}
use Rattle.std.proofs.lemmas.List.Elements.{Contains-get_or, recursion_from_All}
use Rattle.crew_terms.specs.Instance.{Instance, no_task}
use Rattle.crew_terms.specs.Rules.{IsInstance}
use Rattle.crew_terms.specs.Plan.{Plan, Job, empty_plan, job_of, unassigned_count}
use Rattle.crew_terms.specs.Legal.{IsFeasible}
use Rattle.dossier_terms.specs.Lines.{jobs_from}
use Rattle.dossier_terms.specs.Ranges.{IsDoLine}

pub jobs_count : (o : ℕ) (p : Plan) → unassigned_count p + length (jobs_from o p) ≡ length p
jobs_count o [] = refl
jobs_count o (None ∷ p) = let a = jobs_count (suc o) p in let e : unassigned_count (None ∷ p) ≡ 1 + unassigned_count p = sum_by-cons (λ (x : Option Job). cond (is_none x) 1 0) None p in omega arith
jobs_count o (Some job ∷ p) = let a = jobs_count (suc o) p in let e : unassigned_count (Some job ∷ p) ≡ 0 + unassigned_count p = sum_by-cons (λ (x : Option Job). cond (is_none x) 1 0) (Some job) p in omega arith

pub jobs_none : (o n : ℕ) → jobs_from o (empty_plan n) ≡ []
jobs_none o zero = refl
jobs_none o (suc n) = jobs_none (suc o) n

pub jobs_later : (o : ℕ) (p : Plan) → ((i : ℕ) → job_of p i ≡ None) → jobs_from o p ≡ []
jobs_later o [] h = refl
jobs_later o (None ∷ p) h = jobs_later (suc o) p (λ i. h (suc i))
jobs_later o (Some job ∷ p) h = absurd (let a : Some job ≡ None = h 0 in cc)

pub jobs_set : (o : ℕ) (p : Plan) (j : ℕ) (job : Job) → ((i : ℕ) → j ≤ i → job_of p i ≡ None) → j < length p
    → jobs_from o (set p j (Some job)) ≡ jobs_from o p ++ (o + j, job) ∷ []
jobs_set o [] j job h l = absurd (omega arith)
jobs_set o (None ∷ p) zero job h l = ap (λ w. (o, job) ∷ w) (jobs_later (suc o) p (λ i. h (suc i) (omega arith)))
    ∙ ap (λ w. (w, job) ∷ []) (let e : o ≡ o + 0 = omega arith in e) ∙ ap (λ w. w ++ (o + 0, job) ∷ []) (sym (jobs_later (suc o) p (λ i. h (suc i) (omega arith))))
jobs_set o (Some x ∷ p) zero job h l = absurd (let a : Some x ≡ None = h 0 (omega arith) in cc)
jobs_set o (None ∷ p) (suc j) job h l = jobs_set (suc o) p j job (λ i m. h (suc i) (omega arith)) (omega arith)
    ∙ ap (λ w. jobs_from (suc o) p ++ (w, job) ∷ []) (let e : suc o + j ≡ o + suc j = omega arith in e)
jobs_set o (Some x ∷ p) (suc j) job h l = ap (λ w. (o, x) ∷ w) (jobs_set (suc o) p j job (λ i m. h (suc i) (omega arith)) (omega arith)
    ∙ ap (λ w. jobs_from (suc o) p ++ (w, job) ∷ []) (let e : suc o + j ≡ o + suc j = omega arith in e))

pub no_jobs : (o : ℕ) (q : Plan) → length (jobs_from o q) ≡ 0 → q ≡ empty_plan (length q)
no_jobs o [] h = refl
no_jobs o (None ∷ q) h = ap (λ w. None ∷ w) (no_jobs (suc o) q h)
no_jobs o (Some job ∷ q) h = absurd (omega arith)

pub do_fits : (i : Instance) (p : Plan) (j : ℕ) (job : Job) → IsInstance i → IsFeasible i p → job_of p j ≡ Some job → j < length p → IsDoLine (length i.teams) (length i.tasks) (j, job)
do_fits i p j job w h e l =
    let fits = h.jobs j job e in
    let known : j < length i.tasks = omega (arith, h.whole) in
    let task = w.parts.tasks j no_task known in
    record {
      task = known;
      start = omega (arith, fits.window.late, task.window.day);
      teams = recursion_from_All (λ k. k < length i.teams) job.teams (λ k d m. fits.known (slice_index_or job.teams k d) (Contains-get_or job.teams k d m));
    }
