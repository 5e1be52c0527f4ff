-- what a team can earn fits 64 signed bits
use Rattle.std.proofs.Common.{◌≡◌, ◌≤◌, ◌<◌, ◌+◌, ◌*◌, ◌-◌, ℕ, ℤ, pos, negsuc, List, [], ◌∷◌, length, arith}
use Rattle.std.specs.Prelude.{◌≤ℤ◌, neg_ℤ, FitsSigned}
use Rattle.std.specs.Int.{w64}
use Rattle.std.proofs.lemmas.Int.{ints}
use Rattle.crew_terms.specs.Instance.{no_team}
use Rattle.crew_terms.specs.Rules.{IsInstance}
use Rattle.crew_terms.specs.Limits.{Limits, IsPermittedVisit, IsRoute, teams_in}
use Rattle.crew_terms.specs.Leaf.{rewards, IsWorth}
use Rattle.crew_terms.specs.declared.TheConstants.{MOST_PRICE, LAST_MINUTE}
use Rattle.crew_terms.specs.declared.Visit.{Visit}
use Rattle.crew_laws.specs.Visits.{visit}
use Rattle.potentials.specs.Sums.{AreBoundedBy}
use Rattle.label_pricing.specs.Best.{IsBest}
use Rattle.label_pricing.specs.Turns.{IsEnd}
use Rattle.label_pricing.proofs.Onward.{short}

signed : (v : ℤ) → neg_ℤ (pos (2 * MOST_PRICE)) ≤ℤ v → v ≤ℤ pos ((LAST_MINUTE + 1) * (2 * MOST_PRICE)) → FitsSigned w64 v
signed v a b = omega (arith, ints)

pub worth_least : (n : Limits) (k : ℕ) (w : ℕ → ℕ → ℤ) (v : ℤ) → IsWorth n k w v → pos 0 ≤ℤ v
worth_least n k w v is = is.greatest [] tt

module _ (n : Limits) (k : ℕ) (w : ℕ → ℕ → ℤ) (instance : IsInstance n.instance) (range : AreBoundedBy (2 * MOST_PRICE) w) (known : k < teams_in n) where
  ends : IsEnd n k (LAST_MINUTE + 1)
  ends j t here =
      let day = (instance.parts.teams k no_team known).shift.day in
      let home = here.in_shift.returns in
      omega arith

  below : (j t : ℕ) (r : List Visit) → IsRoute n k (visit j t ∷ r) → rewards w (visit j t ∷ r) ≤ℤ pos ((LAST_MINUTE + 1) * (2 * MOST_PRICE))
  below j t r is = let a = short n k w range instance (LAST_MINUTE + 1) ends (omega arith) j t r is in omega (arith, ints)

  pub best_fits : (j t : ℕ) (v : ℤ) → IsPermittedVisit n k j t → IsBest n k w j t v → FitsSigned w64 v
  best_fits j t v here is =
      let at = is.attained in
      let e = at.2 in
      let most = below j t at.0 at.1 in
      let least = is.greatest [] (here, tt) in
      let a = (range j t).least in
      signed v (omega (arith, ints)) (omega (arith, ints))

  pub worth_fits : (v : ℤ) → IsWorth n k w v → FitsSigned w64 v
  worth_fits v is = by is.attained.0 is.attained.1 is.attained.2
    where
      least : pos 0 ≤ℤ v
      least = is.greatest [] tt

      by : (r : List Visit) → IsRoute n k r → rewards w r ≡ v → FitsSigned w64 v
      by [] on e = let a = least in let b : pos 0 ≡ v = e in signed v (omega (arith, ints)) (omega (arith, ints))
      by (z ∷ zs) on e = let a = least in let most = below z.task z.start zs on in signed v (omega (arith, ints)) (omega (arith, ints))
