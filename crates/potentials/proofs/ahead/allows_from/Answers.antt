use Rattle.std.proofs.Common.{pos, arith, get_or, w64, rules}
use Rattle.std.specs.Prelude.{FitsSigned}
use Rattle.std.proofs.lemmas.Int.{to_z-of_z}
use Rattle.std.proofs.lemmas.Option.{slice_get-get_or}
use Rattle.potentials.specs.declared.ahead.Best.{Best}
use Rattle.potentials.proofs.Rising.{allows_by}
use Rattle.potentials.proofs.ahead.allows_from.Goals as goal

pub returns : goal.returns
returns c =
    let reward : FitsSigned w64 c.args.reward = c.ranges.reward in
    let most : FitsSigned w64 c.but.result = search rules in
    let potential : FitsSigned w64 c.args.fall.potential = search rules in
    let enough = simp to_z-of_z at c.is_enough.ensures in
    let none : Best = record { minute = 0; task = 0; potential = pos 0; second = pos 0 } in
    let inside = c.if-at-list.false in
    λ t. allows_by c.args.list.now c.requires c.args.task c.args.reward c.args.ready c.args.fall.potential c.args.at (get_or c.args.list.now c.args.at none) c.but.result
    (slice_get-get_or c.args.list.now c.args.at none (omega arith)) (c.is_last_since.ensures c.if-not-is_last_since.false) c.but.ensures (enough.0 t)
