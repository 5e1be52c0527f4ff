-- sums of rewards
use Rattle.std.proofs.Common.{◌≡◌, ◌<◌, ◌+◌, ℕ, ℤ, ◌+ℤ◌, List, ◌∷◌, length, get_or, drop, arith, ap, sym, ◌∙◌}
use Rattle.std.proofs.Common.{drop-cons, add-one}
use Rattle.std.proofs.lemmas.Int.{ints}
use Rattle.crew_terms.specs.Leaf.{Prices, earned, reward, rewards}
use Rattle.crew_terms.specs.declared.Visit.{Visit}

-- one visit more
pub earned_more : (p : Prices) (k : ℕ) (visits : List Visit) (i : ℕ) (v : Visit) (sum next all : ℤ) → i < length visits
    → get_or visits i v ≡ v → next ≡ reward p k v.task → sum +ℤ rewards (earned p k) (drop i visits) ≡ all
    → (sum +ℤ next) +ℤ rewards (earned p k) (drop (i + 1) visits) ≡ all
earned_more p k visits i v sum next all known at is so =
    let e : rewards (earned p k) (drop i visits) ≡ reward p k v.task +ℤ rewards (earned p k) (drop (i + 1) visits) =
    ap (rewards (earned p k)) (drop-cons visits i v known ∙ ap (λ m. get_or visits i v ∷ drop m visits) (sym (add-one i)) ∙ ap (λ w. w ∷ drop (i + 1) visits) at) in
    omega (arith, ints)
