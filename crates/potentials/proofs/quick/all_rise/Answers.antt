use Rattle.std.proofs.Common.{length, refl, arith, subst}
use Rattle.std.proofs.lemmas.Option.{slice_get_read, slice_get_within}
use Rattle.potentials.specs.Ahead.{AreRising}
use Rattle.potentials.specs.declared.ahead.Ahead.{Ahead}
use Rattle.potentials.proofs.Each.{each_more}
use Rattle.potentials.proofs.quick.all_rise.Goals as goal

pub loop-place-preserved : goal.loop-place-preserved
loop-place-preserved c =
    let ahead = c.args.ahead.now in
    let item = c.place-item.result in
    let here = subst AreRising c.deref.ensures.value (c.are_rising.ensures c.if-not-are_rising.false) in
    each_more ahead (λ p (a : Ahead). AreRising a.list.items) c.loop-place.place-index item (slice_get_read ahead (length ahead) c.loop-place.place-index item refl c.loop-place-test.true c.place-item.is) here c.loop-place.invariant

pub returns : goal.returns
returns c = λ t p place read.
    let inside = slice_get_within c.args.ahead.now p place read in
    let end = c.loop-place-test.false in
    c.loop-place.invariant p place (omega arith) read
