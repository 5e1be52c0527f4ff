-- potentials that hold with a worth that a route earns hold with the greatest that a route earns: it is the same
use Rattle.std.proofs.Common.{◌≡◌, ℕ, List, subst, arith}
use Rattle.std.specs.Prelude.{ℤ, ◌≤ℤ◌}
use Rattle.std.proofs.lemmas.Int.{ints}
use Rattle.crew_terms.specs.Leaf.{HoldsLocally, IsWorth, rewards}
use Rattle.crew_terms.specs.Limits.{Limits, IsRoute}
use Rattle.crew_terms.specs.declared.Visit.{Visit}

pub held : (n : Limits) (k : ℕ) (w phi : ℕ → ℕ → ℤ) (worth greatest : ℤ) → HoldsLocally n k w phi worth → (r : List Visit) × IsRoute n k r × (rewards w r ≡ worth)
    → IsWorth n k w greatest → ((r : List Visit) → IsRoute n k r → rewards w r ≤ℤ worth) → HoldsLocally n k w phi greatest
held n k w phi worth greatest holds (r, is, earned) most bounds =
    let low = most.greatest r is in
    let high = bounds most.attained.0 most.attained.1 in
    let attained = most.attained.2 in
    let same : worth ≡ greatest = omega (arith, ints) in
    subst (HoldsLocally n k w phi) same holds
