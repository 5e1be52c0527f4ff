-- the cases of a decided node, by its first fault
use Rattle.std.proofs.Common.{◌<◌, ℕ, arith}
use Rattle.crew_terms.specs.Leaf.{AreInRange, Prices}
use Rattle.crew_terms.specs.Limits.{Limits, IsLimits, teams_in}
use Rattle.crew_terms.specs.Rules.{IsInstance}
use Rattle.crew_terms.specs.Decided.{IsDecided}
use Rattle.search_terms.specs.Closing.{CrowdedPrices, HasNoPlan, IsCrowded, IsShort, IsStuck, ShortPrices, StuckPrices}
use Rattle.leaf_close.specs.Cases.{AreClosingPrices, CrowdedTask, HasFault, HasNoFault, OfCrowded, OfShort, OfStuck, ShortTask, StuckTeam}
use Rattle.leaf_close.specs.Faults.{AreFaultPrices, IsFirstNodeFault}
use Rattle.leaf_close.specs.declared.faults.Fault.{Fault}
use Rattle.leaf_close.specs.declared.faults.Fault.TheVariants.{Stuck, Crowded, Short}

-- the laws of the first three cases
pub record AreLaws : Type 0 where
  pub stuck : (n : Limits) (p : Prices) (k : ℕ) → IsInstance n.instance → IsLimits n → IsDecided n → AreInRange p → k < teams_in n → IsStuck n k → StuckPrices n k p → HasNoPlan n p
  pub crowded : (n : Limits) (p : Prices) (j : ℕ) → IsInstance n.instance → IsLimits n → IsDecided n → AreInRange p → IsCrowded n j → CrowdedPrices n j p → HasNoPlan n p
  pub short : (n : Limits) (p : Prices) (j : ℕ) → IsInstance n.instance → IsLimits n → IsDecided n → AreInRange p → IsShort n j → ShortPrices n j p → HasNoPlan n p

-- a node with a fault is not one with none
pub fault_excludes : (n : Limits) → HasFault n → HasNoFault n → ⊥
fault_excludes n (StuckTeam k team stuck) none = none.teams k team stuck
fault_excludes n (CrowdedTask j crowded) none = let e = none.tasks j crowded.known crowded.some in let l = crowded.many in omega arith
fault_excludes n (ShortTask j short) none = let e = none.tasks j short.known short.some in let l = short.few in omega arith

module _ (n : Limits) (fault : Fault) where
  pub is_fault : IsFirstNodeFault n fault → HasFault n
  is_fault = by fault
    where
      by : (f : Fault) → IsFirstNodeFault n f → HasFault n
      by (Stuck k) first = StuckTeam k first.team first.stuck
      by (Crowded j) first = CrowdedTask j first.1.crowded
      by (Short j) first = ShortTask j first.2.short

  module _ (p : Prices) where
    pub fault_prices : IsFirstNodeFault n fault → AreFaultPrices n fault p → AreClosingPrices n p
    fault_prices = by fault
      where
        by : (f : Fault) → IsFirstNodeFault n f → AreFaultPrices n f p → AreClosingPrices n p
        by (Stuck k) first prices = OfStuck k first prices
        by (Crowded j) first prices = OfCrowded first.0 j first.1 prices
        by (Short j) first prices = OfShort first.0 first.1 j first.2 prices

    pub no_plan : AreLaws → IsInstance n.instance → IsLimits n → IsDecided n → AreInRange p → IsFirstNodeFault n fault → AreFaultPrices n fault p → HasNoPlan n p
    no_plan laws instance limits decided range = by fault
      where
        by : (f : Fault) → IsFirstNodeFault n f → AreFaultPrices n f p → HasNoPlan n p
        by (Stuck k) first prices = laws.stuck n p k instance limits decided range first.team first.stuck prices
        by (Crowded j) first prices = laws.crowded n p j instance limits decided range first.1.crowded prices
        by (Short j) first prices = laws.short n p j instance limits decided range first.2.short prices
