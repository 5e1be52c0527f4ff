use Rattle.std.proofs.Common.{◌≡◌, ◌∷◌, [], List, ℕ, String, Global, length, get_or, map, sym, ◌∙◌, arith}
use Rattle.std.specs.Prelude.{string_bytes, codes}
use Rattle.std.specs.Fmt.{decimal}
use Rattle.std.proofs.lemmas.Slice.Eq.{bytes_eq-Decides}
use Rattle.parts_cli.specs.Words.{part_words}
use Rattle.parts_cli.specs.declared.words.OnePart.{OnePart}
use Rattle.parts_cli.proofs.words.OnePart.of.Goals as goal

-- the bytes of three words
three : (ws : List (String Global)) (a b d : String Global) → length ws ≡ 3 → a ≡ get_or ws 0 a → b ≡ get_or ws 1 b → d ≡ get_or ws 2 d
    → map (λ w. string_bytes w) ws ≡ string_bytes a ∷ string_bytes b ∷ string_bytes d ∷ []
three [] a b d count p q r = absurd (omega arith)
three (v ∷ []) a b d count p q r = absurd (omega arith)
three (v ∷ w ∷ []) a b d count p q r = absurd (omega arith)
three (v ∷ w ∷ x ∷ []) a b d count p q r = cc
three (v ∷ w ∷ x ∷ y ∷ ys) a b d count p q r = absurd (omega arith)

asked : (words : List (List ℕ)) (a b d : List ℕ) (s : OnePart) → words ≡ a ∷ b ∷ d ∷ [] → a ≡ codes "part" → b ≡ decimal s.nodes → d ≡ decimal s.number → words ≡ part_words s
asked words a b d s is p q r = is ∙ cc

pub returns-then-eq : goal.returns-then-eq
returns-then-eq c =
    let low = c.in-len3.len_at_least in
    let high = c.in-len3.len_below in
    let is = three c.args.words.now c.word-item.result c.nodes-item.result c.number-item.result (omega arith) c.word-item.is c.nodes-item.is c.number-item.is in
    let first = (bytes_eq-Decides c.as_str-3.result.now (codes "part")).0 (sym c.eq.ensures ∙ c.if-eq.true) in (
      record { few = c.in_ok-nodes.ensures.1; some = c.in_ok-number.ensures.0; within = c.in_ok-number.ensures.1 },
      asked _ _ _ _ (record { nodes = c.in_ok-nodes.nodes; number = c.in_ok-number.number }) is (sym c.as_str-3.ensures.value ∙ first) (sym c.as_str.ensures.value ∙ c.in_ok-nodes.ensures.2)
          (sym c.as_str-2.ensures.value ∙ c.in_ok-number.ensures.2),
    )
