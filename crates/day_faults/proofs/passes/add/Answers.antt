use Rattle.std.proofs.Common.{◌≡◌, ◌∙◌, ap, rules, true}
use Rattle.std.specs.Result.{is_ok}
use Rattle.day_faults.specs.Days.{stops_of}
use Rattle.day_faults.proofs.Goes.{stop_last}
use Rattle.day_faults.proofs.passes.add.Goals as goal

pub returns : goal.returns
returns c =
    let good : is_ok c.push.result ≡ true = search rules in
    let items = rw good at c.push.ensures.items in
    ap stops_of items ∙ stop_last _ _
