-- the words of a line of a late task
use Rattle.std.proofs.Common.{◌≡◌, ◌≢◌, ◌≤◌, ◌<◌, ◌+◌, ℕ, List, [], ◌∷◌, length, get_or, ap, sym, refl, ◌∙◌, arith, rules}
use Rattle.std.specs.Prelude.{ℤ, pos, negsuc, ◌≤ℤ◌, FitsSigned}
use Rattle.std.specs.Fmt.{decimal, signed_decimal}
use Rattle.std.specs.Int.{w64}
use Rattle.std.proofs.lemmas.Int.{ints}
use Rattle.crew_terms.specs.Words.{Words}
use Rattle.dossier_terms.specs.Rules.{IsShape}
use Rattle.field_table.specs.declared.fields.Kind.TheVariants.{Number}
use Rattle.line_in.specs.Fields.{IsIn}
use Rattle.late_lines.specs.Lines.{late_word}

pub read_is : (words : Words) (name : List ℕ) (z : ℤ) (end : ℕ) → IsShape late_word 2 words → get_or words 1 [] ≡ name → get_or words 2 [] ≡ signed_decimal z → z ≡ pos end
    → words ≡ late_word ∷ name ∷ decimal end ∷ []
read_is words name z end shape first second is = by shape.0 shape.1 shape.2
  where
    by : (rest : Words) → words ≡ late_word ∷ rest → length rest ≡ 2 → words ≡ late_word ∷ name ∷ decimal end ∷ []
    by [] e l = absurd (omega arith)
    by (a ∷ []) e l = absurd (omega arith)
    by (a ∷ b ∷ []) e l =
        let f : a ≡ name = sym (ap (λ (ws : Words). get_or ws 1 []) e) ∙ first in
        let g : b ≡ decimal end = sym (ap (λ (ws : Words). get_or ws 2 []) e) ∙ second ∙ ap signed_decimal is in
        e ∙ ap (λ x. late_word ∷ x ∷ b ∷ []) f ∙ ap (λ x. late_word ∷ name ∷ x ∷ []) g
    by (a ∷ b ∷ c ∷ rest) e l = absurd (omega arith)

-- a number past the range is none in it
pub out_of_range : (word : List ℕ) → ((z : ℤ) → IsIn (record { low = pos 0; high = pos 5760; kind = Number }) z → word ≢ signed_decimal z) → (n : ℕ) → n ≤ 5760 → word ≢ decimal n
out_of_range word none n l e = none (pos n) (record { fits = fits; low = omega (arith, ints); high = omega (arith, ints) }) e
  where
    fits : FitsSigned w64 (pos n)
    fits = search rules
