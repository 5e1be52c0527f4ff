use Rattle.std.proofs.Common.{◌≡◌, ◌≤◌, ◌%◌, ◌/◌, ◌-◌, ℕ, List, Bool, true, false, length, eqb, MatchBool, sym, refl, ◌∙◌, arith}
use Rattle.std.proofs.lemmas.Bool.{eqb-true, eq-eqb}
use Rattle.crew_terms.specs.Words.{Words}
use Rattle.dossier_terms.specs.Rules.{Begins}
use Rattle.dossier_terms.specs.Ranges.{IsPairs}
use Rattle.line_in.proofs.shape.has_pairs.Goals as goal

-- four words or more are pairs where their number is even
even : (first : List ℕ) (ws : Words) (n : ℕ) (b : Bool) → n ≡ length ws → 4 ≤ n → Begins first ws → eqb (n % 2) 0 ≡ b → MatchBool b (Begins first ws × IsPairs ws) (Begins first ws × IsPairs ws → ⊥)
even first ws n true count some begins h = let none = eqb-true (n % 2) 0 h in (begins, ((n - 4) / 2, omega arith))
even first ws n false count some begins h = λ (b, pairs). let all = pairs.1 in let same : true ≡ false = sym (eq-eqb (n % 2) 0 (omega arith)) ∙ h in cc

pub returns : goal.returns
returns c = even c.args.first.now c.args.words.now c.count-count.result _ c.count-count.ensures (omega arith) c.if-not-begins.ensures refl
