-- the worths of all teams, and what they prove
use Rattle.std.proofs.Common.{◌≡◌, ◌≤◌, ◌<◌, ℕ, zero, suc, ℤ, List, subst, arith}
use Rattle.std.specs.Prelude.{◌≤ℤ◌}
use Rattle.std.proofs.lemmas.Int.{ints}
use Rattle.crew_terms.specs.Limits.{Limits, IsRoute, teams_in}
use Rattle.crew_terms.specs.Leaf.{Prices, HoldsLocally, IsValidLeaf, IsWorth, Proves, rewards, worth_of, earned}
use Rattle.crew_terms.specs.declared.Visit.{Visit}
use Rattle.label_pricing.specs.Worths.{AreWorths}

-- a team has one worth
pub worth_is_one : (n : Limits) (k : ℕ) (w : ℕ → ℕ → ℤ) (v z : ℤ) → IsWorth n k w v → IsWorth n k w z → v ≡ z
worth_is_one n k w v z a b =
    let x = a.attained in
    let y = b.attained in
    let e = x.2 in
    let f = y.2 in
    let g = a.greatest y.0 y.1 in
    let h = b.greatest x.0 x.1 in
    omega (arith, ints)

-- potentials that are valid with worths that routes attain are valid with the worths
pub decided : (n : Limits) (p : Prices) (worths others : List ℤ) (phi : ℕ → ℕ → ℕ → ℤ) → IsValidLeaf n p others phi
    → ((k : ℕ) → k < teams_in n → (r : List Visit) × IsRoute n k r × (rewards (earned p k) r ≡ worth_of others k))
    → ((k : ℕ) (phi : ℕ → ℕ → ℤ) (worth : ℤ) (r : List Visit) → HoldsLocally n k (earned p k) phi worth → IsRoute n k r → rewards (earned p k) r ≤ℤ worth)
    → AreWorths n p worths → IsValidLeaf n p worths phi
decided n p worths others phi valid attained bounds are = record {
  range = valid.range;
  priced = valid.priced;
  valid = λ k below.
      let holds = valid.valid k below in
      let is : IsWorth n k (earned p k) (worth_of others k) = record { attained = attained k below; greatest = λ r route. bounds k (phi k) (worth_of others k) r holds route } in
      subst (HoldsLocally n k (earned p k) (phi k)) (worth_is_one n k (earned p k) (worth_of others k) (worth_of worths k) is (are.each k below)) holds;
}

-- a bound proves what is less than what it proves
pub less_proved : (b : ℤ) (l m : ℕ) → l ≤ m → Proves b m → Proves b l
less_proved b zero m le is = tt
less_proved b (suc l) zero le is = absurd (omega arith)
less_proved b (suc l) (suc m) le is = omega (arith, ints)
