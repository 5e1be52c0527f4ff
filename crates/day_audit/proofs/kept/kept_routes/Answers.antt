use Rattle.std.proofs.Common.{[], ap, subst, sym}
use Rattle.crew_terms.specs.Limits.{root_limits}
use Rattle.route_terms.specs.Kept.{AreKeptIn, None}
use Rattle.day_audit.specs.Kept.{handed_in}
use Rattle.day_audit.proofs.kept.kept_routes.Goals as goal

pub returns-in_default : goal.returns-in_default
returns-in_default c =
    let n = root_limits c.args.instance.now in
    subst (AreKeptIn n (handed_in c.args.carry.now)) (sym c.new-columns.ensures) (subst (λ h. AreKeptIn n h []) (sym (ap handed_in c.in_default.is)) None)
