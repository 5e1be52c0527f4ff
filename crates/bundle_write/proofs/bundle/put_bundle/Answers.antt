use Rattle.std.proofs.Common.{Err, ap, subst}
use Rattle.crew_instance.specs.Draft.{rows_of}
use Rattle.bundle_join.specs.Joined.{IsJoinedPut}
use Rattle.bundle_write.proofs.Made.{are_texts, bundle_of}
use Rattle.bundle_write.proofs.bundle.put_bundle.Goals as goal

pub returns-in-Ok-clause-put : goal.returns-in-Ok-clause-put
returns-in-Ok-clause-put g c = λ d day.
    let i = c.args.day.now.instance.now in
    let p = c.in_ok-texts.ensures in
    let are = are_texts i c.args.nodes _ _ (rows_of c.deref-2.result.now) p.0 p.1 p.2 (ap rows_of c.deref-2.ensures.value) in
    let w = c.in-Ok.ensures.put d p.0 day are in
    (w.0, bundle_of d c.args.nodes i _ p.0 w.0 day.instance p.1 w.1, w.2, w.3)

pub returns-in-Err-WriteFault-clause-put : goal.returns-in-Err-WriteFault-clause-put
returns-in-Err-WriteFault-clause-put g c = λ d day.
    let i = c.args.day.now.instance.now in
    let p = c.in_ok-texts.ensures in
    let are = are_texts i c.args.nodes _ _ (rows_of c.deref-2.result.now) p.0 p.1 p.2 (ap rows_of c.deref-2.ensures.value) in
    let w =
    subst (λ f. IsJoinedPut d p.0 (Err f) (g.K.Sink.got c.args.sink.now) (g.K.Sink.got c.put_joined.new.sink)) c.in-Err-WriteFault.field-0-is (c.in-Err-WriteFault.ensures.put d p.0 day are) in
    (w.0, bundle_of d c.args.nodes i _ p.0 w.0 day.instance p.1 w.1, w.2)

pub returns-in-Err-OutOfMemory-clause-put : goal.returns-in-Err-OutOfMemory-clause-put
returns-in-Err-OutOfMemory-clause-put g c = λ d day.
    let i = c.args.day.now.instance.now in
    let p = c.in_ok-texts.ensures in
    let are = are_texts i c.args.nodes _ _ (rows_of c.deref-2.result.now) p.0 p.1 p.2 (ap rows_of c.deref-2.ensures.value) in
    subst (λ f. IsJoinedPut d p.0 (Err f) (g.K.Sink.got c.args.sink.now) (g.K.Sink.got c.put_joined.new.sink)) c.in-Err-OutOfMemory.field-0-is (c.in-Err-OutOfMemory.ensures.put d p.0 day are)

pub returns-clause-put : goal.returns-clause-put
returns-clause-put g c = λ d day.
    let i = c.args.day.now.instance.now in
    let p = c.in_ok-texts.ensures in
    let are = are_texts i c.args.nodes _ _ (rows_of c.deref-2.result.now) p.0 p.1 p.2 (ap rows_of c.deref-2.ensures.value) in
    (subst (λ f. IsJoinedPut d p.0 (Err f) (g.K.Sink.got c.args.sink.now) (g.K.Sink.got c.put_joined.new.sink)) c.in-Err-NoPart.field-0-is (c.in-Err-NoPart.ensures.put d p.0 day are)).1
