use Rattle.std.proofs.Common.{[], ap, subst, sym}
use Rattle.crew_terms.specs.Limits.{root_limits}
use Rattle.route_terms.specs.Kept.{AreKeptIn, None}
use Rattle.replan.specs.Kept.{handed_in}
use Rattle.replan.proofs.round.place_kept.Goals as goal

pub returns-in_default-clause-kept : goal.returns-in_default-clause-kept
returns-in_default-clause-kept g c =
    let n = root_limits c.args.instance.now in
    subst (AreKeptIn n (handed_in c.args.carry.now)) (sym c.requires) (subst (λ h. AreKeptIn n h []) (sym (ap handed_in c.in_default.is)) None)
