-- slots of a plan that are unassigned
use Rattle.std.proofs.Common.{◌≡◌, ◌≤◌, ◌-◌, ◌++◌, ◌∷◌, ℕ, zero, suc, List, [], Option, None, length, map, take, replicate, arith, refl, sym, ap, ◌∙◌}
use Rattle.std.specs.Option.{option_map}
use Rattle.std.proofs.lemmas.List.{take_all, length_push, length-append, length-map, map-append, replicate_more}
use Rattle.crew_terms.specs.Plan.{Plan}
use Rattle.crew_instance.specs.Draft.{filled}
use Rattle.crew_instance.specs.Kept.{job_in, jobs_in}
use Rattle.crew_instance.specs.declared.plans.Slot.{Slot}

pub map-replicate : {A B : Type 0} (f : A → B) (n : ℕ) (x : A) → map f (replicate n x) ≡ replicate n (f x)
map-replicate f zero x = refl
map-replicate f (suc n) x = ap (λ ys. f x ∷ ys) (map-replicate f n x)

-- each of them is unassigned
abbrev pub AreNone : List (Option Slot) → Type 0
AreNone slots = slots ≡ replicate (length slots) None

pub one_more_none : (slots : List (Option Slot)) (slot : Option Slot) → AreNone slots → slot ≡ None → AreNone (slots ++ slot ∷ [])
one_more_none slots slot are none =
    ap (λ s. slots ++ s ∷ []) none ∙ ap (λ ss. ss ++ None ∷ []) are ∙ replicate_more (length slots) None ∙ ap (λ n. replicate n None) (sym (length_push slots slot))

-- the slots of a plan, and unassigned ones behind them
pub lengthened : (p : Plan) (n : ℕ) (old new more : List (Option Slot)) → jobs_in old ≡ p → length old ≤ n → new ≡ take n old ++ more → length new ≡ n → AreNone more → jobs_in new ≡ filled n p
lengthened p n old new more view few grown long none =
    let whole = take_all n old few in
    let same : new ≡ old ++ more = grown ∙ ap (λ ss. ss ++ more) whole in
    let a = ap length same in
    let b = length-append old more in
    let d : length p ≡ length old = ap length (sym view) ∙ length-map old (option_map job_in) in
    let count : length more ≡ n - length p = omega arith in
    ap jobs_in (same ∙ ap (λ ss. old ++ ss) none) ∙ map-append (option_map job_in) old (replicate (length more) None)
    ∙ ap (λ js. js ++ map (option_map job_in) (replicate (length more) None)) view
    ∙ ap (λ js. p ++ js) (map-replicate (option_map job_in) (length more) None ∙ ap (λ k. replicate k None) count)
