-- a task is done once, and a verdict says whether the plan is feasible
use Rattle.std.proofs.Common.{◌≡◌, ◌∙◌, ℕ, Some, ap, sym}
use Rattle.std.specs.Prelude.{◌↔◌}
use Rattle.crew_terms.specs.Instance.{Instance}
use Rattle.crew_terms.specs.Plan.{Plan, Job, Does}
use Rattle.crew_terms.specs.Legal.{IsFeasible}
use Rattle.crew_terms.specs.Verdict.{IsFeasibility, Feasible, BadJob, BadTeam, IsJobFault, Outside, Miscounted, OfTeam, Unskilled, OffShift}
use Rattle.crew_terms.specs.declared.PlanVerdict.{PlanVerdict}
use Rattle.crew_terms.specs.declared.PlanVerdict.TheVariants.{Legal, Window, Count, Skill, Shift, Clash}
use Rattle.crew_laws.specs.Faultless.{no_clash, no_fault}

-- a task is done once
pub one_start : (p : Plan) (k h j t u : ℕ) → Does p k j t → Does p h j u → t ≡ u
one_start p k h j t u (a, e, s, m) (b, f, r, n) = let x : Some a ≡ Some b = sym e ∙ f in let y : a ≡ b = cc in sym s ∙ ap (λ (j : Job). j.start) y ∙ r

-- a fault is not the word for a feasible plan
told_fault : (i : Instance) (j : ℕ) (job : Job) (told : PlanVerdict) → IsJobFault i j job told → told ≡ Legal → ⊥
told_fault i j job told (Outside broken is) e = let x : Window j ≡ Legal = sym is ∙ e in cc
told_fault i j job told (Miscounted window broken is) e = let x : Count j ≡ Legal = sym is ∙ e in cc
told_fault i j job told (OfTeam window list front k back teams earlier (Unskilled broken is)) e = let x : Skill k j ≡ Legal = sym is ∙ e in cc
told_fault i j job told (OfTeam window list front k back teams earlier (OffShift qualified broken is)) e = let x : Shift k j ≡ Legal = sym is ∙ e in cc

-- a verdict says whether the plan is feasible
pub decides : (i : Instance) (p : Plan) (told : PlanVerdict) → IsFeasibility i p told → (told ≡ Legal) ↔ IsFeasible i p
decides i p told (Feasible feasible is) = ((λ _. feasible), (λ _. is))
decides i p told (BadJob j job at earlier how) =
    ((λ e. absurd (told_fault i j job told how e)), (λ feasible. absurd (no_fault i j job told how (feasible.jobs j job at))))
decides i p told (BadTeam jobs k j h known earlier first is) = (
  (λ e. let x : Clash k j h ≡ Legal = sym is ∙ e in cc),
  (λ feasible. absurd (first.broken (no_clash i p k feasible j first.start h first.next_start first.next))),
)
