use Rattle.std.proofs.Common.{◌≡◌, ap, sym, subst, ◌∙◌}
use Rattle.crew_terms.specs.Limits.{Limits, root_limits}
use Rattle.node_limits.specs.Trail.{Trail}
use Rattle.sheet_terms.specs.Reading.{Bounds}
use Rattle.sheet_reader.specs.Reader.{StandsFor}
use Rattle.sheet_checker.specs.Due.{IsInBody}
use Rattle.sheet_checker.proofs.Bodies.{rests}
use Rattle.sheet_checker.proofs.judge.begin_body.Goals as goal

pub open-requires : goal.open-requires
open-requires c =
    let at = ap (λ (x : Trail). x.limits) c.in_ok-limits.ensures in
    at ∙ ap root_limits (sym (ap (λ (n : Limits). n.instance) at))

pub returns : goal.returns
returns c =
    let i = c.args.base.instance in
    let nodes = c.args.base.nodes in
    let t = c.in_ok-limits.limits in
    let at : t.limits ≡ root_limits i = ap (λ (x : Trail). x.limits) c.in_ok-limits.ensures in
    let stands : StandsFor i nodes c.in_ok-reader.reader (Bounds i nodes) =
    subst (λ (n : Limits). StandsFor n.instance nodes c.in_ok-reader.reader (Bounds n.instance nodes)) at (c.in_ok-reader.ensures nodes) in
    subst (λ d. IsInBody d (Bounds i nodes)) (sym c.in_ok-draft.ensures.ok) (record { root = rests i t c.rest-root.result at c.rest-root.ensures.same c.rest-root.ensures.over; stands = stands })
