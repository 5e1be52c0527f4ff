-- the room for the potentials of a team in a node
use Rattle.crew_terms.specs.Instance.{Instance}
use Rattle.crew_terms.specs.Limits.{root_limits}
use Rattle.label_pricing.specs.Pricing.{HasRoom}
use Rattle.potentials.specs.Prices.{ArePricesOf}
use Rattle.potentials.specs.Table.{IsTableOf}
use Rattle.cert_write.specs.declared.tables.Room.{Room}

-- there is room for the prices of any leaf of the instance, for any team, and for its potentials
pub record IsRoomOf (i : Instance) (room : Room) : Type 0 where
  pub pricer : HasRoom i room.pricer
  pub prices : ArePricesOf (root_limits i) room.prices
  pub table : IsTableOf i room.table
