-- the words of the lines of a bundle between its dossiers
use Rattle.std.proofs.Common.{◌≡◌, ◌≢◌, ◌≤◌, ◌<◌, ℕ, List, [], ◌∷◌, length, get_or, ap, sym, refl, ◌∙◌, arith, rules}
use Rattle.std.specs.Prelude.{ℤ, pos, ◌≤ℤ◌, FitsSigned, codes}
use Rattle.std.specs.Fmt.{decimal, signed_decimal}
use Rattle.std.specs.Int.{w64}
use Rattle.std.proofs.lemmas.Int.{ints}
use Rattle.crew_terms.specs.Words.{Words}
use Rattle.crew_terms.specs.declared.TheConstants.{MOST_TASKS}
use Rattle.dossier_terms.specs.Rules.{IsShape}
use Rattle.field_table.specs.declared.fields.Kind.TheVariants.{Number}
use Rattle.line_in.specs.Fields.{IsIn}
use Rattle.part_texts.specs.Lines.{count_words, first_words, parts_word}

pub first_line : (ws : Words) → IsShape (codes "crew") 2 ws → get_or ws 1 [] ≡ codes "parts" → get_or ws 2 [] ≡ codes "1" → ws ≡ first_words
first_line ws ([], is, all) a b = absurd (omega arith)
first_line ws (x ∷ [], is, all) a b = absurd (omega arith)
first_line ws (x ∷ y ∷ z ∷ rest, is, all) a b = absurd (omega arith)
first_line ws (x ∷ y ∷ [], is, all) a b =
    let e : x ≡ codes "parts" = ap (λ (xs : Words). get_or xs 1 []) (sym is) ∙ a in
    let f : y ≡ codes "1" = ap (λ (xs : Words). get_or xs 2 []) (sym is) ∙ b in
    is ∙ ap (λ w. codes "crew" ∷ w ∷ y ∷ []) e ∙ ap (λ w. codes "crew" ∷ codes "parts" ∷ w ∷ []) f

pub first_shape : (ws : Words) → ws ≡ first_words → IsShape (codes "crew") 2 ws
first_shape ws is = (codes "parts" ∷ codes "1" ∷ [], is, refl)

pub count_line : (ws : Words) (z : ℤ) (k : ℕ) → IsShape parts_word 1 ws → get_or ws 1 [] ≡ signed_decimal z → z ≡ pos k → ws ≡ count_words k
count_line ws z k ([], is, all) a b = absurd (omega arith)
count_line ws z k (x ∷ y ∷ rest, is, all) a b = absurd (omega arith)
count_line ws z k (x ∷ [], is, all) a b =
    let e : x ≡ decimal k = ap (λ (xs : Words). get_or xs 1 []) (sym is) ∙ a ∙ ap signed_decimal b in
    is ∙ ap (λ w. parts_word ∷ w ∷ []) e

-- a number out of range is no number of parts
pub out_of_range : (ws : Words) → ((z : ℤ) → IsIn (record { low = pos 0; high = pos 400; kind = Number }) z → get_or ws 1 [] ≢ signed_decimal z) → (k : ℕ) → k ≤ MOST_TASKS → ws ≢ count_words k
out_of_range ws none k l is = none (pos k) (record { fits = fits; low = omega (arith, ints); high = omega (arith, ints) }) (ap (λ (xs : Words). get_or xs 1 []) is)
  where
    fits : FitsSigned w64 (pos k)
    fits = search rules
