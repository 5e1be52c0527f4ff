use Rattle.std.proofs.Common.{length, refl, arith}
use Rattle.std.proofs.lemmas.Option.{slice_get_read}
use Rattle.potentials.specs.Quick.{AreBoundedAt}
use Rattle.potentials.proofs.Each.{each_more}
use Rattle.potentials.proofs.quick.all_are_bounded.Goals as goal

pub loop-h-preserved : goal.loop-h-preserved
loop-h-preserved c =
    let records = c.args.records.now in
    let row = c.index-records-h.result in
    let read = slice_get_read records (length records) c.loop-h.h row refl (let t = c.loop-h-test.true in let m = c.tasks-h-end.ensures.count in let r = c.requires in omega arith) c.index-records-h.is in
    each_more records (AreBoundedAt c.args.instance.now c.args.ahead.now) c.loop-h.h row read (c.are_bounded_at.ensures c.if-not-are_bounded_at.false) c.loop-h.invariant

pub returns : goal.returns
returns c = λ t h row l read.
    let end = c.loop-h-test.false in
    let m = c.tasks-h-end.ensures.count in
    c.loop-h.invariant h row (omega arith) read
