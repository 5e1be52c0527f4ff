-- a list of a function's values at 0, 1, .., which grows by one
use Rattle.std.proofs.Common.{◌≡◌, ◌+◌, ◌++◌, ◌∷◌, [], ℕ, List, map, arith, sym, ap, ◌∙◌}
use Rattle.std.specs.List.{range_with_len}
use Rattle.std.proofs.lemmas.List.FromFn.{map-range_with_len_more}

pub one_more : {X : Type 0} (f : ℕ → X) (n : ℕ) (xs ys : List X) (y : X) → ys ≡ xs ++ y ∷ [] → xs ≡ map f (range_with_len 0 n) → y ≡ f n → ys ≡ map f (range_with_len 0 (n + 1))
one_more f n xs ys y grows is last =
    grows ∙ ap (λ x. x ++ y ∷ []) is ∙ ap (λ m. map f (range_with_len 0 n) ++ m ∷ []) last ∙ sym (map-range_with_len_more f 0 n n (omega arith))
