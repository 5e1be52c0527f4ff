use Rattle.std.proofs.Common.{◌++◌, ◌+◌, ◌∙◌, ap, sym}
use Rattle.std.specs.List.{range_with_len}
use Rattle.crew_terms.specs.Ranges.{range_from}
use Rattle.frac_master.proofs.Ranges.{grown}
use Rattle.frac_master.proofs.shares.push_route_places.Goals as goal

pub loop-i-preserved : goal.loop-i-preserved
loop-i-preserved c =
    let i = c.loop-i.i in
    let first = c.args.first in
    let old = c.args.at.now.items in
    grown old c.loop-i.at.items c.push.new.self.items (first + i) (range_with_len first i) c.loop-i.invariant c.in_ok-push.ensures.items
    ∙ ap (λ l. old ++ l) (sym (range_from first i))
