use Rattle.std.proofs.Common.{◌≡◌, List, [], ◌∷◌, ℕ, length, get_or, map, String, Global, ap, sym, ◌∙◌, arith, Bool, ◌↔◌}
use Rattle.std.specs.Prelude.{string_bytes, IsTrue}
use Rattle.std.specs.Str.{bytes_eq}
use Rattle.std.proofs.lemmas.Slice.Eq.{bytes_eq-Decides}
use Rattle.parts_cli.proofs.run.asks_for.Goals as goal

one_word : (ws : List (String Global)) (w : String Global) → length ws ≡ 1 → w ≡ get_or ws 0 w → map (λ w. string_bytes w) ws ≡ string_bytes w ∷ []
one_word [] w h e = absurd (omega arith)
one_word (v ∷ []) w h e = ap (λ x. string_bytes x ∷ []) (sym e)
one_word (v ∷ u ∷ vs) w h e = absurd (omega arith)

head_same : {x y : List ℕ} → ◌≡◌ {A = List (List ℕ)} (x ∷ []) (y ∷ []) → x ≡ y
head_same e = cc

says : (r : Bool) (bytes word : List ℕ) (texts : List (List ℕ)) → texts ≡ bytes ∷ [] → r ≡ bytes_eq bytes word → IsTrue r ↔ (texts ≡ word ∷ [])
says r bytes word texts t e =
    let d = bytes_eq-Decides bytes word in
    ((λ h. t ∙ ap (λ b. b ∷ []) (d.0 (sym e ∙ h))), (λ h. e ∙ d.1 (head_same (sym t ∙ h))))

pub returns-then-words-eq1 : goal.returns-then-words-eq1
returns-then-words-eq1 c =
    says c.eq.result c.as_str.result.now _ _ (one_word c.args.words.now c.index-words-0.result c.if-words-eq1.true c.index-words-0.is ∙ ap (λ b. b ∷ []) (sym c.as_str.ensures.value)) c.eq.ensures
