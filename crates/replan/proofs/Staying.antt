-- plans that are no worse than those before them
use Rattle.std.proofs.Common.{◌≡◌, ◌≤◌, ◌+◌, ◌∙◌, ◌∷◌, [], ℕ, Option, None, Some, Result, Ok, length, zero, suc, cond, refl, subst, arith}
use Rattle.std.specs.Prelude.{IfOk, IfSome, is_none}
use Rattle.std.proofs.lemmas.List.Recursion.{is_count_by}
use Rattle.std.proofs.lemmas.List.Sums.{count_by-le-length}
use Rattle.crew_terms.specs.Instance.{Instance}
use Rattle.crew_terms.specs.Legal.{IsLegal}
use Rattle.crew_terms.specs.Plan.{Plan, job_of, unassigned_count}
use Rattle.crew_terms.specs.Verdict.{IsPlanOf}
use Rattle.day_terms.specs.Instances.{day_instance}
use Rattle.day_terms.specs.State.{DayState}
use Rattle.plan_again.specs.Stays.{IsNoWorse, StaysOrBetters}
use Rattle.replan.specs.Staying.{BeginsFrom, LosesNoTask, StaysIn, last_plan_of}

-- no worse than a plan that is no worse
no_worse_then : (a b d : Plan) → IsNoWorse a b → IsNoWorse b d → IsNoWorse a d
no_worse_then a b d first second = record {
  fewer = (let x = first.fewer in let y = second.fewer in omega arith);
  keeps = λ e j job is.
      let x = first.fewer in
      let y = second.fewer in
      second.keeps (omega arith) j job (first.keeps (omega arith) j job is);
}

-- no more tasks are unassigned than there are
count_most : (p : Plan) → unassigned_count p ≤ length p
count_most p = count_by-le-length is_none p

-- how many tasks have no job, task by task
abbrev jobless : Plan → ℕ
jobless [] = 0
jobless (x ∷ p) = cond (is_none x) (1 + jobless p) (jobless p)

jobless_is : (p : Plan) → jobless p ≡ unassigned_count p
jobless_is p = is_count_by jobless is_none refl (λ _ _. refl) p

none_in : (p : Plan) → jobless p ≡ length p → (j : ℕ) → job_of p j ≡ None
none_in [] e j = refl
none_in (Some job ∷ p) e j = absurd (let m = count_most p in let is = jobless_is p in let f : jobless p ≡ suc (length p) = e in omega (arith, m, is, f))
none_in (None ∷ p) e zero = refl
none_in (None ∷ p) e (suc j) = none_in p (let f : 1 + jobless p ≡ suc (length p) = e in omega (arith, f)) j

-- where as many have none as there are, none has one
none_of : (p : Plan) → unassigned_count p ≡ length p → (j : ℕ) → job_of p j ≡ None
none_of p e = none_in p (jobless_is p ∙ e)

-- no plan of the instance is worse than one without jobs
nothing_to_lose : (i : Instance) (old p : Plan) → unassigned_count old ≡ length old → length old ≡ length i.tasks → IsPlanOf i p → IsNoWorse old p
nothing_to_lose i old p none was is = record {
  fewer = (let b = is.whole in let m = count_most p in omega (arith, none, was, b, m));
  keeps = λ e j job has. absurd (let none_there = none_of old none j in cc);
}

-- the plan that a search hands over which begins so is no worse than the old one
pub begun_no_worse : (i : Instance) (old p : Plan) (begin : Option Plan) → BeginsFrom old begin → StaysOrBetters begin p → length old ≡ length i.tasks → IsPlanOf i p → IsNoWorse old p
begun_no_worse i old p None begins stays was is = nothing_to_lose i old p begins was is
begun_no_worse i old p (Some b) begins stays was is = no_worse_then old b p begins stays

-- the plan of a round that begins so loses no task of the last plan, if there is one
pub begun_loses : (i : Instance) (last begin : Option Plan) (p : Plan) → IfSome last (λ old. IsLegal i old → BeginsFrom old begin) → StaysOrBetters begin p → IsPlanOf i p → LosesNoTask i last p
begun_loses i None begin p begins stays is = tt
begun_loses i (Some old) begin p begins stays is = λ legal. begun_no_worse i old p begin (begins legal) stays legal.feasible.whole is

-- what begins a round is known where its memory was there
pub begin_known : {E : Type 0} (i : Instance) (last : Option Plan) (r : Result (Option Plan) E) (begin : Option Plan) → r ≡ Ok begin → IfSome last (λ old. IsLegal i old → IfOk r (BeginsFrom old))
    → IfSome last (λ old. IsLegal i old → BeginsFrom old begin)
begin_known i None r begin is stays = tt
begin_known i (Some old) r begin is stays = λ legal. subst (λ x. IfOk x (BeginsFrom old)) is (stays legal)

-- where it is the state's, with what is left of the state's last plan, the plan stays in the state
pub stays_in : (s day : DayState) (i : Instance) (last p : Plan) → day ≡ s → i ≡ day_instance day → last ≡ last_plan_of day → LosesNoTask i (Some last) p → StaysIn s p
stays_in s day i last p same is has loses =
    subst (λ x. StaysIn x p) same (subst (λ l. LosesNoTask (day_instance day) (Some l) p) has (subst (λ x. LosesNoTask x (Some last) p) is loses))
