use Rattle.std.proofs.Common.{◌≡◌, ◌<◌, ◌≤◌, length, take, arith, sym, ◌∙◌}
use Rattle.std.proofs.Math.ListN.{length-set}
use Rattle.std.proofs.lemmas.List.{length-map, take_all, take_more_set}
use Rattle.head_check.specs.Numbers.{natural, naturals}
use Rattle.head_check.proofs.Listed.{told_at, pushed}
use Rattle.head_check.proofs.numbers.number_list.Goals as goal

pub loop-n-preserved : goal.loop-n-preserved
loop-n-preserved c =
    let zs = c.args.numbers.now in
    let n = c.loop-n.n in
    let items = c.loop-n.list.items in
    let held = c.loop-n.invariant in
    let below : n < length zs = (let t = c.loop-n-test.true in let e = c.len-n-end.ensures in omega arith) in
    let told = told_at zs n c.number_at.result below c.number_at.ensures in
    let room = held.room in
    record {
      room = rw length-set held.room;
      front = rw (take_more_set items n c.number_at.result (omega arith)) (pushed zs n c.number_at.result (take n items) below told held.front);
    }

pub returns : goal.returns
returns c =
    let zs = c.args.numbers.now in
    let n = c.loop-n.n in
    let items = c.loop-n.list.items in
    let held = c.loop-n.invariant in
    let all : length zs ≤ n = (let t = c.loop-n-test.false in let e = c.len-n-end.ensures in omega arith) in
    let room = held.room in
    let size : length (naturals zs) ≡ length zs = length-map zs natural in
    sym (take_all n items (omega arith)) ∙ held.front ∙ take_all n (naturals zs) (omega arith)
