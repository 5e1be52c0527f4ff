-- the lines of a node by their first words
use Rattle.std.proofs.Common.{◌≡◌, [], ◌∷◌, ℕ, List, Some, ap, sym, ◌∙◌, arith}
use Rattle.std.specs.Prelude.{codes, slice_get}
use Rattle.crew_terms.specs.Words.{Words}
use Rattle.dossier_terms.specs.Rules.{Begins, IsShape}

abbrev pub node_keys : Words
node_keys = codes "window" ∷ codes "pair" ∷ codes "leaf" ∷ []

begins : (ws : Words) (w : List ℕ) → slice_get ws 0 ≡ Some w → Begins w ws
begins [] w at = absurd cc
begins (x ∷ ws) w at = (ws, ap (λ v. v ∷ ws) (let e : x ≡ w = cc in e))

-- a line whose first word is the key at this place begins with it
pub begins_at : (ws : Words) (n k : ℕ) (w key : List ℕ) → slice_get ws 0 ≡ Some w → slice_get node_keys n ≡ Some w → n ≡ k → slice_get node_keys k ≡ Some key → Begins key ws
begins_at ws n k w key first at is known =
    let same : Some w ≡ Some key = sym at ∙ ap (slice_get node_keys) is ∙ known in
    begins ws key (first ∙ same)

abbrev pub leaf_keys : Words
leaf_keys = codes "bare" ∷ codes "open" ∷ codes "closed" ∷ []

-- a line of the word leaf and one word more, which is the key at this place
pub leaf_line : (ws : Words) (n k : ℕ) (w key : List ℕ) → IsShape (codes "leaf") 1 ws → slice_get ws 1 ≡ Some w → slice_get leaf_keys n ≡ Some w → n ≡ k
    → slice_get leaf_keys k ≡ Some key → ws ≡ codes "leaf" ∷ key ∷ []
leaf_line ws n k w key ([], is, few) at found place known = absurd (omega arith)
leaf_line ws n k w key (x ∷ y ∷ xs, is, few) at found place known = absurd (omega arith)
leaf_line ws n k w key (x ∷ [], is, few) at found place known =
    let own : Some x ≡ Some w = ap (λ ys. slice_get ys 1) (sym is) ∙ at in
    let same : Some w ≡ Some key = sym found ∙ ap (slice_get leaf_keys) place ∙ known in
    let all : Some x ≡ Some key = own ∙ same in
    let word : x ≡ key = cc in
    is ∙ ap (λ v. codes "leaf" ∷ v ∷ []) word
