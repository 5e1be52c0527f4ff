use Rattle.std.proofs.Common.{◌∙◌, ap, subst, sym}
use Rattle.std.proofs.lemmas.Result.{err_from_is_err_and}
use Rattle.std.specs.Prelude.{Ok}
use Rattle.node_limits.specs.Rest.{IsRestOver, trail_over}
use Rattle.sheet_terms.specs.Table.{SaysOfSheet}
use Rattle.sheet_reader.specs.Reader.{SheetTells, StandsFor}
use Rattle.sheet_checker.proofs.Bodies.{body_in, more_told, refused_told, woke_over, woke_root}
use Rattle.sheet_checker.proofs.judge.body_line.Goals as goal

pub wake-limits-requires : goal.wake-limits-requires
wake-limits-requires c =
    let held = c.deref_mut-held.result.now in
    let body = body_in c.args.draft.value held c.requires.0 c.deref_mut-held.ensures.value c.requires.1 in
    subst (IsRestOver held.base.instance) (sym c.take.ensures.taken) body.root.over

pub line-requires : goal.line-requires
line-requires c =
    let held = c.deref_mut-held.result.now in
    let t = c.wake-limits.result in
    let reading = c.requires.0 in
    let body = body_in c.args.draft.value held reading c.deref_mut-held.ensures.value c.requires.1 in
    let woke = c.wake-limits.ensures ∙ ap (trail_over held.base.instance) c.take.ensures.taken in
    record {
      root = woke_root held t body.root woke;
      due = (held.base.nodes, reading, subst (λ j. StandsFor j held.base.nodes held.reader reading) (sym (woke_over held t body.root woke)) body.stands);
    }

pub returns-in_err-step : goal.returns-in_err-step
returns-in_err-step c =
    let held = c.deref_mut-held.result.now in
    let t = c.wake-limits.result in
    let refusal = c.in_err-step.field-0.0 in
    let woke = c.wake-limits.ensures ∙ ap (trail_over held.base.instance) c.take.ensures.taken in
    let p = err_from_is_err_and c.from_residual.result c.from_residual.ensures.1 in
    rw (p.1, p.2) (λ reading kept.
    let body = body_in c.args.draft.value held reading c.deref_mut-held.ensures.value kept in
    let stands = subst (λ j. StandsFor j held.base.nodes held.reader reading) (sym (woke_over held t body.root woke)) body.stands in
    refused_told t.limits.instance held.base.nodes (SaysOfSheet reading c.args.words) refusal c.line.new.self (c.in_err-step.ensures held.base.nodes reading stands))

pub returns-in-More : goal.returns-in-More
returns-in-More c = λ reading kept.
    let held = c.deref_mut-held.result.now in
    let t = c.wake-limits.result in
    let woke = c.wake-limits.ensures ∙ ap (trail_over held.base.instance) c.take.ensures.taken in
    let body = body_in c.args.draft.value held reading c.deref_mut-held.ensures.value kept in
    let stands = subst (λ j. StandsFor j held.base.nodes held.reader reading) (sym (woke_over held t body.root woke)) body.stands in
    let h = subst (λ step. SheetTells t.limits.instance held.base.nodes (SaysOfSheet reading c.args.words) (Ok step) c.line.new.self) c.in-More.is (c.in_ok-step.ensures held.base.nodes reading stands) in
    more_told held t body.root woke (SaysOfSheet reading c.args.words) c.line.new.self c.rest.result c.rest.ensures.same c.rest.ensures.over h

pub returns-in-Whole : goal.returns-in-Whole
returns-in-Whole c = λ reading kept.
    let held = c.deref_mut-held.result.now in
    let t = c.wake-limits.result in
    let woke = c.wake-limits.ensures ∙ ap (trail_over held.base.instance) c.take.ensures.taken in
    let body = body_in c.args.draft.value held reading c.deref_mut-held.ensures.value kept in
    let stands = subst (λ j. StandsFor j held.base.nodes held.reader reading) (sym (woke_over held t body.root woke)) body.stands in
    let h = subst (λ step. SheetTells t.limits.instance held.base.nodes (SaysOfSheet reading c.args.words) (Ok step) c.line.new.self) c.in-Whole.is (c.in_ok-step.ensures held.base.nodes reading stands) in
    (h.0, h.1, c.bound.ensures ∙ h.2)
