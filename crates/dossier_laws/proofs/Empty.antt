-- plans without a job
use Rattle.std.proofs.Common.{◌≡◌, [], ◌∷◌, ◌++◌, length, ap, sym, ◌∙◌, List, length-append, None}
use Rattle.std.proofs.lemmas.List.{replicate-append-replicate}
use Rattle.crew_terms.specs.Instance.{Instance}
use Rattle.crew_terms.specs.Rules.{HasNoFrozen}
use Rattle.crew_terms.specs.Plan.{empty_plan, job_of}
use Rattle.crew_terms.specs.Legal.{IsLegal}
use Rattle.crew_terms.specs.EmptyPlan.{job_none, empty_feasible}

-- one more task
pub empty_more : {A : Type 0} (xs : List A) (x : A) → empty_plan (length xs) ++ None ∷ [] ≡ empty_plan (length (xs ++ x ∷ []))
empty_more xs x = replicate-append-replicate (length xs) 1 None ∙ ap empty_plan (sym (length-append xs (x ∷ [])))

pub empty_legal : (i : Instance) → HasNoFrozen i → IsLegal i (empty_plan (length i.tasks))
empty_legal i none = record {
  feasible = empty_feasible i;
  frozen = λ j job e. absurd (let a : job_of i.frozen j ≡ None = ap (λ p. job_of p j) none ∙ job_none (length i.tasks) j in cc);
}
