use Rattle.std.proofs.Common.{◌≤◌, length, arith, sym, ◌∙◌, true≢false}
use Rattle.column_arena.proofs.Legality.{legal_start, legal_skip, legal_push, legal_end}
use Rattle.column_arena.proofs.legal.legal_in.Goals as goal

pub loop-id-init : goal.loop-id-init
loop-id-init g c = rw c.clear.ensures.items (legal_start _ _)

pub loop-id-preserved-then-not-is_found : goal.loop-id-preserved-then-not-is_found
loop-id-preserved-then-not-is_found g c =
    legal_skip _ _ c.loop-id.id (omega (arith, c.len-id-end.ensures.count)) c.loop-id.out.items c.loop-id.invariant
    (λ legal. absurd (true≢false (sym (c.is_found.ensures.1 legal) ∙ c.if-not-is_found.true)))

pub loop-id-preserved : goal.loop-id-preserved
loop-id-preserved g c =
    rw c.in_ok-push.ensures.items
    (legal_push _ _ c.loop-id.id (omega (arith, c.len-id-end.ensures.count)) c.loop-id.out.items c.loop-id.invariant (c.is_found.ensures.0 c.if-not-is_found.false))

pub returns-clause-numbers : goal.returns-clause-numbers
returns-clause-numbers g c =
    let past : length (g.C.Columns.columns c.args.columns.now) ≤ c.loop-id.id = omega (arith, c.len-id-end.ensures.count) in
    (legal_end _ _ c.loop-id.id c.loop-id.out.items past c.loop-id.invariant).0

pub returns-clause-routes : goal.returns-clause-routes
returns-clause-routes g c =
    let past : length (g.C.Columns.columns c.args.columns.now) ≤ c.loop-id.id = omega (arith, c.len-id-end.ensures.count) in
    (legal_end _ _ c.loop-id.id c.loop-id.out.items past c.loop-id.invariant).1
