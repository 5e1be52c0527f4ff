-- prices that prove a greater number prove as much
use Rattle.std.proofs.Common.{◌≤◌, ℕ, arith}
use Rattle.crew_terms.specs.Limits.{Limits}
use Rattle.crew_terms.specs.Leaf.{Prices}
use Rattle.search_terms.specs.Proven.{IsProvedCount, PricesProve, ProveAsMuch}

pub more_prove_more : (n : Limits) (p q s : Prices) (l m : ℕ)
    → ((n : Limits) (prices : Prices) (l m : ℕ) → m ≤ l → PricesProve n prices l → PricesProve n prices m)
    → ProveAsMuch n p s → IsProvedCount n p l → l ≤ m → IsProvedCount n q m → ProveAsMuch n q s
more_prove_more n p q s l m less much first more last = λ k few proved.
    let known : k ≤ l = first.greatest k few (much k few proved) in
    less n q m k (omega (arith, known, more)) last.proved
