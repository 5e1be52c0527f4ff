-- what keeps a decided node from having a plan
use Rattle.crew_terms.specs.Leaf.{Prices}
use Rattle.crew_terms.specs.Limits.{Limits}
use Rattle.search_terms.specs.Closing.{NoneIsStuck, StuckPrices, CrowdedPrices, ShortPrices}
use Rattle.leaf_close.specs.Cases.{IsFirstStuck, IsFirstCrowded, IsFirstShort, NoneIsCrowded}
use Rattle.leaf_close.specs.declared.faults.Fault.{Fault}
use Rattle.leaf_close.specs.declared.faults.Fault.TheVariants.{Stuck, Crowded, Short}

-- the first fault of the node: of the teams, of the tasks with too many required teams, of those with too few
abbrev pub IsFirstNodeFault : Limits → Fault → Type 0
IsFirstNodeFault n (Stuck k) = IsFirstStuck n k
IsFirstNodeFault n (Crowded j) = NoneIsStuck n × IsFirstCrowded n j
IsFirstNodeFault n (Short j) = NoneIsStuck n × NoneIsCrowded n × IsFirstShort n j

-- the prices that tell the fault
abbrev pub AreFaultPrices : Limits → Fault → Prices → Type 0
AreFaultPrices n (Stuck k) p = StuckPrices n k p
AreFaultPrices n (Crowded j) p = CrowdedPrices n j p
AreFaultPrices n (Short j) p = ShortPrices n j p
