use Rattle.std.proofs.Common.{ap, subst}
use Rattle.crew_terms.specs.Instance.{Instance}
use Rattle.node_limits.specs.Trail.{Trail}
use Rattle.cert_write.specs.Tables.{IsRoomOf}
use Rattle.cert_write.proofs.DeskRoom.{ready}
use Rattle.cert_write.proofs.desk.Desk.open.Goals as goal

pub returns : goal.returns
returns c =
    let space = subst (λ (i : Instance). IsRoomOf i c.in_ok-room.room) (ap (λ (t : Trail). t.limits.instance) c.in_ok-limits.ensures) c.in_ok-room.ensures in
    ready c.args.instance.now c.args.tree.now _ _ _ _ c.depth-depth.result c.in_ok-limits.ensures c.in_ok-reserve.ensures.ok c.depth-depth.ensures.number c.in_ok-walk.ensures.root c.in_ok-walk.ensures.none c.in_ok-walk.ensures.depth
    space
