-- the words of the first lines
use Rattle.std.proofs.Common.{◌≡◌, ℕ, List, [], ◌∷◌, length, get_or, ap, sym, refl, ◌∙◌, arith}
use Rattle.std.specs.Prelude.{codes}
use Rattle.crew_terms.specs.Words.{Words}
use Rattle.dossier_terms.specs.Rules.{IsShape}
use Rattle.sheet_terms.specs.Lines.{squeeze_line}

pub first_line : (ws : Words) → IsShape (codes "crew") 2 ws → get_or ws 1 [] ≡ codes "squeeze" → get_or ws 2 [] ≡ codes "1" → ws ≡ squeeze_line
first_line ws ([], is, all) a b = absurd (omega arith)
first_line ws (x ∷ [], is, all) a b = absurd (omega arith)
first_line ws (x ∷ y ∷ z ∷ rest, is, all) a b = absurd (omega arith)
first_line ws (x ∷ y ∷ [], is, all) a b =
    let e : x ≡ codes "squeeze" = ap (λ xs. get_or xs 1 []) (sym is) ∙ a in
    let f : y ≡ codes "1" = ap (λ xs. get_or xs 2 []) (sym is) ∙ b in
    is ∙ ap (λ w. codes "crew" ∷ w ∷ y ∷ []) e ∙ ap (λ w. codes "crew" ∷ codes "squeeze" ∷ w ∷ []) f

pub first_shape : (ws : Words) → ws ≡ squeeze_line → IsShape (codes "crew") 2 ws
first_shape ws is = (codes "squeeze" ∷ codes "1" ∷ [], is, refl)
