use Rattle.std.proofs.Common.{◌≡◌, ◌∷◌, [], List, ℕ, String, Global, length, get_or, map, sym, ◌∙◌, arith}
use Rattle.std.specs.Prelude.{string_bytes, codes}
use Rattle.std.specs.Fmt.{decimal}
use Rattle.std.proofs.lemmas.Slice.Eq.{bytes_eq-Decides}
use Rattle.parts_cli.specs.Words.{parts_words}
use Rattle.parts_cli.specs.declared.words.Parts.{Parts}
use Rattle.parts_cli.proofs.words.Parts.of.Goals as goal

-- the bytes of two words
two : (ws : List (String Global)) (a b : String Global) → length ws ≡ 2 → a ≡ get_or ws 0 a → b ≡ get_or ws 1 b
    → map (λ w. string_bytes w) ws ≡ string_bytes a ∷ string_bytes b ∷ []
two [] a b count p q = absurd (omega arith)
two (v ∷ []) a b count p q = absurd (omega arith)
two (v ∷ w ∷ []) a b count p q = cc
two (v ∷ w ∷ x ∷ xs) a b count p q = absurd (omega arith)

asked : (words : List (List ℕ)) (a b : List ℕ) (s : Parts) → words ≡ a ∷ b ∷ [] → a ≡ codes "parts" → b ≡ decimal s.nodes → words ≡ parts_words s
asked words a b s is p q = is ∙ cc

pub returns-then-eq : goal.returns-then-eq
returns-then-eq c =
    let low = c.in-len2.len_at_least in
    let high = c.in-len2.len_below in
    let is = two c.args.words.now c.word-item.result c.nodes-item.result (omega arith) c.word-item.is c.nodes-item.is in
    let first = (bytes_eq-Decides c.as_str-2.result.now (codes "parts")).0 (sym c.eq.ensures ∙ c.if-eq.true) in
    (c.in_ok-nodes.ensures.1, asked _ _ _ (record { nodes = c.in_ok-nodes.nodes }) is (sym c.as_str-2.ensures.value ∙ first) (sym c.as_str.ensures.value ∙ c.in_ok-nodes.ensures.2))
