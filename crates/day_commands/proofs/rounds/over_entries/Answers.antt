use Rattle.std.proofs.Common.{◌<◌, [], None, length, subst, sym, refl, ◌∙◌, arith, ap, Ok}
use Rattle.std.specs.Prelude.{All, IsTrue}
use Rattle.day_terms.specs.Ranges.{IsInRange}
use Rattle.day_commands.specs.Says.{SaysAt, is_of_text}
use Rattle.crew_io.specs.Chains.{writes_none, writes_then}
use Rattle.crew_io.specs.Puts.{TellsWrites}
use Rattle.crew_io.specs.Results.{err_is_not_ok, on_err}
use Rattle.day_commands.specs.Taken.{IsTakenSo, IsDay, Wrote, output_of, planning_of}
use Rattle.day_commands.proofs.Said.{at_refused, at_front, at_memory, at_taken, at_end, at_stop, nothing_yet, refused_is_no_want, refused_of_text, whole_of_text, whole_is_no_fault, refused_entry_is_no_fault, same_ok, whole_no_fault}
use Rattle.day_commands.proofs.rounds.over_entries.Goals as goal

pub loop-n-init : goal.loop-n-init
loop-n-init g c = record {
  output = refl;
  so_far = nothing_yet (output_of c.args.taker.now) (planning_of c.args.taker.now) (g.K.Sink.got c.args.out.now) c.requires.none_yet;
  tells = writes_none g.K.Sink c.args.out.now;
}

pub returns-in_err-proved-clause-memory : goal.returns-in_err-proved-clause-memory
returns-in_err-proved-clause-memory g c = λ text whole.
    let day = subst (λ es. IsDay text es c.args.day.now.stop) (sym c.as_slice-entries.ensures) whole in
    let i = c.loop-n.invariant in
    on_err c.from_residual.result _
    (at_memory (output_of c.args.taker.now) text c.as_slice-entries.result.now c.loop-n.n c.args.day.now.stop c.loop-n.all_proved (planning_of c.loop-n.taker) (g.K.Sink.got c.args.out.now) (g.K.Sink.got c.loop-n.out)
    c.plans_to_come.ensures (g.K.Sink.got c.take.new.out) day i.so_far c.in_err-proved.ensures.nothing)

pub take-requires-clause-open_yet : goal.take-requires-clause-open_yet
take-requires-clause-open_yet g c = c.loop-n.invariant.so_far.open_yet

pub take-requires-clause-unknown : goal.take-requires-clause-unknown
take-requires-clause-unknown g c = c.loop-n.invariant.so_far.unknown

pub refuse-requires : goal.refuse-requires
refuse-requires g c =
    refused_is_no_want _ c.in_ok-proved.field-0 (planning_of c.loop-n.taker) (planning_of c.take.new.self) _ c.in-Refused.fault (g.K.Sink.got c.loop-n.out) (g.K.Sink.got c.take.new.out) c.in_ok-proved.ensures.taken c.in-Refused.is

pub returns-in-Refused-clause-says : goal.returns-in-Refused-clause-says
returns-in-Refused-clause-says g c = λ text whole.
    let day = subst (λ es. IsDay text es c.args.day.now.stop) (sym c.as_slice-entries.ensures) whole in
    let below : c.loop-n.n < length c.as_slice-entries.result.now = (let t = c.loop-n-test.true in omega arith) in
    let i = c.loop-n.invariant in
    let s = planning_of c.loop-n.taker in
    let new = planning_of c.take.new.self in
    let mid = g.K.Sink.got c.loop-n.out in
    let held = g.K.Sink.got c.take.new.out in
    let comes = subst (λ o. IsTakenSo o s c.index-entries-n.result c.in_ok-proved.field-0 new mid held) i.output c.in_ok-proved.ensures.taken in
    at_refused (output_of c.args.taker.now) text c.as_slice-entries.result.now c.loop-n.n c.args.day.now.stop c.loop-n.all_proved s (g.K.Sink.got c.args.out.now) mid
    c.plans_to_come.ensures c.index-entries-n.result new c.in_ok-proved.field-0 c.in-Refused.fault held (g.K.Sink.got c.refuse.new.out) c.refuse.result day below i.so_far
    (subst (λ e. IsTakenSo (output_of c.args.taker.now) s e c.in_ok-proved.field-0 new mid held) c.index-entries-n.is comes) c.in-Refused.is c.refuse.ensures.refused c.refuse.ensures.part c.refuse.ensures.others

pub returns-in-Refused-clause-others : goal.returns-in-Refused-clause-others
returns-in-Refused-clause-others g c = refused_of_text (output_of c.args.taker.now) c.refuse.result c.refuse.ensures.others

pub returns-in-WriteFault-clause-says : goal.returns-in-WriteFault-clause-says
returns-in-WriteFault-clause-says g c = λ text whole.
    let day = subst (λ es. IsDay text es c.args.day.now.stop) (sym c.as_slice-entries.ensures) whole in
    let below : c.loop-n.n < length c.as_slice-entries.result.now = (let t = c.loop-n-test.true in omega arith) in
    let i = c.loop-n.invariant in
    let s = planning_of c.loop-n.taker in
    let new = planning_of c.take.new.self in
    let mid = g.K.Sink.got c.loop-n.out in
    let later = g.K.Sink.got c.take.new.out in
    let comes = subst (λ o. IsTakenSo o s c.index-entries-n.result c.in_ok-proved.field-0 new mid later) i.output c.in_ok-proved.ensures.taken in
    at_front (output_of c.args.taker.now) text c.as_slice-entries.result.now c.loop-n.n c.args.day.now.stop c.loop-n.all_proved s (g.K.Sink.got c.args.out.now) mid
    c.plans_to_come.ensures c.index-entries-n.result new c.in_ok-proved.field-0 later day below i.so_far
    (subst (λ e. IsTakenSo (output_of c.args.taker.now) s e c.in_ok-proved.field-0 new mid later) c.index-entries-n.is comes) c.in-WriteFault.is

pub loop-n-preserved : goal.loop-n-preserved
loop-n-preserved g c =
    let below : c.loop-n.n < length c.as_slice-entries.result.now = (let t = c.loop-n-test.true in omega arith) in
    let i = c.loop-n.invariant in
    let s = planning_of c.loop-n.taker in
    let new = planning_of c.take.new.self in
    let mid = g.K.Sink.got c.loop-n.out in
    let later = g.K.Sink.got c.take.new.out in
    let comes = subst (λ o. IsTakenSo o s c.index-entries-n.result c.in_ok-proved.field-0 new mid later) i.output c.in_ok-proved.ensures.taken in
    record {
      output = c.in_ok-proved.ensures.output ∙ i.output;
      so_far = at_taken (output_of c.args.taker.now) [] c.as_slice-entries.result.now c.loop-n.n c.args.day.now.stop c.loop-n.all_proved s (g.K.Sink.got c.args.out.now) mid
          c.plans_to_come.ensures c.index-entries-n.result new c.in_ok-proved.field-0 c.in-Whole.proved later below i.so_far
          (subst (λ e. IsTakenSo (output_of c.args.taker.now) s e c.in_ok-proved.field-0 new mid later) c.index-entries-n.is comes) c.in-Whole.is;
      tells = writes_then g.K.Sink _ _ _ (λ fault. fault) i.tells c.in_ok-proved.ensures.tells (λ fault. absurd fault)
          (λ e. whole_is_no_fault c.in_ok-proved.field-0 c.in-Whole.proved c.in-Whole.is e);
    }

pub returns-in_default-clause-says : goal.returns-in_default-clause-says
returns-in_default-clause-says g c = λ text whole.
    let day = subst (λ es. IsDay text es c.args.day.now.stop) (sym c.as_slice-entries.ensures) whole in
    subst (λ a. Wrote (g.K.Sink.got c.args.out.now) (g.K.Sink.got c.loop-n.out) (SaysAt (output_of c.args.taker.now) a None text)) (sym c.whole.ensures)
    (at_end (output_of c.args.taker.now) text c.as_slice-entries.result.now c.loop-n.n c.args.day.now.stop c.loop-n.all_proved (planning_of c.loop-n.taker) (g.K.Sink.got c.args.out.now) (g.K.Sink.got c.loop-n.out)
    c.plans_to_come.ensures day (let t = c.loop-n-test.false in omega arith) c.loop-n.invariant.so_far c.in_default.is)

pub returns-in_default-clause-others : goal.returns-in_default-clause-others
returns-in_default-clause-others g c =
    subst (λ a. IsTrue (is_of_text (output_of c.args.taker.now) a)) (sym c.whole.ensures) (whole_of_text (output_of c.args.taker.now) _ c.loop-n.all_proved _ _ _ c.loop-n.invariant.so_far)

pub returns-in_default-clause-tells : goal.returns-in_default-clause-tells
returns-in_default-clause-tells g c =
    writes_then g.K.Sink _ _ _ (λ fault. fault) c.loop-n.invariant.tells (writes_none g.K.Sink c.loop-n.out) (λ e. whole_no_fault c.loop-n.all_proved c.whole.result c.whole.ensures e) (λ fault. absurd fault)

pub returns-in_err-proved-clause-tells : goal.returns-in_err-proved-clause-tells
returns-in_err-proved-clause-tells g c =
    writes_then g.K.Sink _ _ _ (λ fault. fault) c.loop-n.invariant.tells c.in_err-proved.ensures.tells (λ e. absurd (err_is_not_ok c.from_residual.result _ c.from_residual.ensures.0 e)) (λ e. absurd (cc))

pub returns-in-WriteFault-clause-tells : goal.returns-in-WriteFault-clause-tells
returns-in-WriteFault-clause-tells g c =
    writes_then g.K.Sink _ _ _ (λ fault. fault) c.loop-n.invariant.tells c.in_ok-proved.ensures.tells (λ _. ap Ok c.in-WriteFault.is) (λ _. refl)

pub take-requires-clause-range : goal.take-requires-clause-range
take-requires-clause-range g c =
    let below : c.loop-n.n < length c.as_slice-entries.result.now = (let t = c.loop-n-test.true in omega arith) in
    subst IsInRange (sym c.index-entries-n.is) ((subst (All IsInRange) (sym c.as_slice-entries.ensures) c.requires.range) c.loop-n.n c.index-entries-n.result below)

pub returns-clause-says : goal.returns-clause-says
returns-clause-says g c = λ text whole.
    let day = subst (λ es. IsDay text es c.args.day.now.stop) (sym c.as_slice-entries.ensures) whole in
    at_stop (output_of c.args.taker.now) text c.as_slice-entries.result.now c.loop-n.n c.args.day.now.stop c.loop-n.all_proved (planning_of c.loop-n.taker) (g.K.Sink.got c.args.out.now) (g.K.Sink.got c.loop-n.out)
    c.plans_to_come.ensures c.in-Some.stop (g.K.Sink.got c.refuse-2.new.out) c.refuse-2.result day (let t = c.loop-n-test.false in omega arith) c.loop-n.invariant.so_far c.in-Some.is
    c.refuse-2.ensures.refused c.refuse-2.ensures.part c.refuse-2.ensures.others

pub returns-clause-others : goal.returns-clause-others
returns-clause-others g c = refused_of_text (output_of c.args.taker.now) c.refuse-2.result c.refuse-2.ensures.others

pub returns-in-Refused-clause-tells : goal.returns-in-Refused-clause-tells
returns-in-Refused-clause-tells g c =
    let none_yet : TellsWrites g.K.Sink c.args.out.now c.take.new.out ⊥ =
    writes_then g.K.Sink _ _ _ (λ fault. fault) c.loop-n.invariant.tells c.in_ok-proved.ensures.tells (λ fault. absurd fault)
    (λ e. refused_entry_is_no_fault c.in_ok-proved.field-0 c.in-Refused.fault c.in-Refused.is e) in
    writes_then g.K.Sink _ _ _ (λ fault. fault) none_yet c.refuse.ensures.tells (λ e. same_ok e) (λ e. ap Ok e)

pub returns-clause-tells : goal.returns-clause-tells
returns-clause-tells g c = writes_then g.K.Sink _ _ _ (λ fault. fault) c.loop-n.invariant.tells c.refuse-2.ensures.tells (λ e. same_ok e) (λ e. ap Ok e)
