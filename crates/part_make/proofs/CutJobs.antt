-- frozen jobs of some tasks, one by one
use Rattle.std.proofs.Common.{◌≡◌, ◌≢◌, ◌≤◌, ◌<◌, ◌+◌, ◌⊎◌, inl, inr, ◌∙◌, ℕ, List, None, length, get_or, set, sym, subst, arith, ext_get_or}
use Rattle.std.proofs.lemmas.Bool.{cases_lt}
use Rattle.std.proofs.lemmas.List.{get_or-map, get_or-replicate, get_or-set_same, get_or-set_other, length-map, length-replicate, length-set}
use Rattle.crew_terms.specs.Plan.{Plan, empty_plan, job_of}
use Rattle.part_terms.specs.Parts.{cut_down}

-- q has the jobs that p has of the first k of these tasks, and no others
pub record AreCut (p : Plan) (tasks : List ℕ) (k : ℕ) (q : Plan) : Type 0 where
  pub whole : length q ≡ length tasks
  pub done : (h : ℕ) → h < k → job_of q h ≡ job_of p (get_or tasks h 0)
  pub left : (h : ℕ) → k ≤ h → h < length tasks → job_of q h ≡ None

module _ (p : Plan) (tasks : List ℕ) where
  -- none yet
  pub none_cut : (q : Plan) → q ≡ empty_plan (length tasks) → AreCut p tasks 0 q
  none_cut q e = subst (AreCut p tasks 0) (sym e) (record {
    whole = length-replicate (length tasks) None;
    done = λ h l. absurd (omega arith);
    left = λ h le l. get_or-replicate (length tasks) h None None l;
  })

  -- one more
  pub cut_more : (k : ℕ) (q r : Plan) → k < length tasks → AreCut p tasks k q → r ≡ set q k (job_of p (get_or tasks k 0)) → AreCut p tasks (k + 1) r
  cut_more k q r l are e = subst (AreCut p tasks (k + 1)) (sym e) (record {
    whole = length-set q k (job_of p (get_or tasks k 0)) ∙ are.whole;
    done = λ h m. by h (cases_lt h k) (omega arith);
    left = λ h le m.
        let other : h ≢ k = omega arith in
        get_or-set_other q k h (job_of p (get_or tasks k 0)) None other ∙ are.left h (omega arith) m;
  })
    where
      by : (h : ℕ) → (h < k) ⊎ (k ≤ h) → h ≤ k → job_of (set q k (job_of p (get_or tasks k 0))) h ≡ job_of p (get_or tasks h 0)
      by h (inl m) le =
          let other : h ≢ k = omega arith in
          get_or-set_other q k h (job_of p (get_or tasks k 0)) None other ∙ are.done h m
      by h (inr m) le =
          let same : k ≡ h = omega arith in
          subst (λ g. job_of (set q k (job_of p (get_or tasks k 0))) g ≡ job_of p (get_or tasks g 0)) same
          (get_or-set_same q k (job_of p (get_or tasks k 0)) None (let w = are.whole in omega arith))

  -- all of them
  pub all_cut : (k : ℕ) (q : Plan) → length tasks ≤ k → AreCut p tasks k q → q ≡ cut_down p tasks
  all_cut k q le are =
      ext_get_or None q (cut_down p tasks) (are.whole ∙ sym (length-map tasks (job_of p)))
      (λ h l. let w = are.whole in are.done h (omega arith) ∙ sym (get_or-map (job_of p) tasks h 0 None (omega arith)))
