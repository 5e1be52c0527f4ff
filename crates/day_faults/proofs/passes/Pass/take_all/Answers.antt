use Rattle.std.proofs.Common.{◌<◌, ◌≤◌, ◌++◌, ap, sym, subst, length, arith}
use Rattle.day_terms.specs.Ranges.{IsInRange}
use Rattle.day_faults.specs.Days.{stops_of}
use Rattle.day_faults.specs.Stops.{stops_among}
use Rattle.day_faults.proofs.Goes.{all_told, one_more}
use Rattle.day_faults.proofs.passes.Pass.take_all.Goals as goal

pub loop-n-init : goal.loop-n-init
loop-n-init c = ap (λ rs. stops_of rs ++ stops_among c.args.self.now.desk 1 c.args.entries.now) c.requires.fresh

pub take-requires : goal.take-requires
take-requires c =
    let below : c.loop-n.n < length c.args.entries.now = (let t = c.loop-n-test.true in omega arith) in
    subst IsInRange (sym c.index-entries-n.is) (c.requires.range c.loop-n.n c.index-entries-n.result below)

pub loop-n-preserved : goal.loop-n-preserved
loop-n-preserved c =
    let below : c.loop-n.n < length c.args.entries.now = (let t = c.loop-n-test.true in omega arith) in
    one_more (stops_of c.loop-n.self.records.items) (stops_of c.take.new.self.records.items) c.loop-n.self.desk c.take.new.self.desk c.args.entries.now c.loop-n.n c.index-entries-n.result _
    below c.index-entries-n.is c.in_ok-take.ensures.passed c.in_ok-take.ensures.told c.loop-n.invariant

pub returns : goal.returns
returns c =
    let past : length c.args.entries.now ≤ c.loop-n.n = (let t = c.loop-n-test.false in omega arith) in
    all_told (stops_of c.loop-n.self.records.items) c.loop-n.self.desk c.args.entries.now c.loop-n.n _ past c.loop-n.invariant
