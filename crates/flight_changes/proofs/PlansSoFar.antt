-- a plan that is made task by task
use Rattle.std.proofs.Common.{◌≡◌, ◌≢◌, ◌<◌, ◌≤◌, ◌+◌, ◌++◌, ℕ, [], ◌∷◌, None, length, take, set, arith, refl, sym, ap, ◌∙◌}
use Rattle.std.proofs.lemmas.List.{get_or-set_other, length-replicate, length-set, take_all, take_more, take_more_set}
use Rattle.crew_terms.specs.Plan.{Plan, empty_plan, job_of}
use Rattle.crew_terms.specs.EmptyPlan.{job_none}

-- p is as q below task j, and has no job from there on
pub record IsSoFar (p q : Plan) (j : ℕ) : Type 0 where
  pub whole : length p ≡ length q
  pub below : take j p ≡ take j q
  pub rest : (h : ℕ) → j ≤ h → job_of p h ≡ None

pub so_far_none : (q : Plan) (n : ℕ) → n ≡ length q → IsSoFar (empty_plan n) q 0
so_far_none q n e = record { whole = length-replicate n None ∙ e; below = refl; rest = λ h l. job_none n h }

pub so_far_more : (p q : Plan) (j : ℕ) → IsSoFar p q j → j < length q → IsSoFar (set p j (job_of q j)) q (j + 1)
so_far_more p q j so l =
    let n = length-set p j (job_of q j) in
    let w = so.whole in
    record {
      whole = n ∙ w;
      below = take_more_set p j (job_of q j) (omega arith) ∙ ap (λ front. front ++ job_of q j ∷ []) so.below ∙ sym (take_more q j None l);
      rest = λ h m. let ne : h ≢ j = omega arith in get_or-set_other p j h (job_of q j) None ne ∙ so.rest h (omega arith);
    }

pub so_far_all : (p q : Plan) (j : ℕ) → IsSoFar p q j → length q ≤ j → p ≡ q
so_far_all p q j so l = let w = so.whole in sym (take_all j p (omega arith)) ∙ so.below ∙ take_all j q l
