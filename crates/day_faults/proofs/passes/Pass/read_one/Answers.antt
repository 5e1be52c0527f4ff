use Rattle.std.proofs.Common.{◌<◌, sym, subst, length, rules}
use Rattle.std.specs.Prelude.{All}
use Rattle.day_terms.specs.Ranges.{IsInRange}
use Rattle.day_faults.specs.Days.{stops_of}
use Rattle.day_faults.proofs.Goes.{goes_on_none}
use Rattle.day_faults.proofs.passes.Pass.read_one.Goals as goal

pub take-requires : goal.take-requires
take-requires c =
    let below : 0 < length c.as_slice-entries.result.now = search rules in
    subst IsInRange (sym c.index-entries-0.is) ((subst (All IsInRange) (sym c.as_slice-entries.ensures) c.in_ok-day.ensures.in_range) 0 c.index-entries-0.result below)

pub returns-then-is_empty : goal.returns-then-is_empty
returns-then-is_empty c = goes_on_none (stops_of c.args.self.now.records.items)
