use Rattle.std.proofs.Common.{◌<◌, ◌≤◌, ℕ, List, length, ap, ◌∙◌, arith, w64}
use Rattle.std.proofs.lemmas.Int.{to_z-of_z}
use Rattle.std.specs.Prelude.{ℤ, pos}
use Rattle.std.specs.Fmt.{signed_decimal}
use Rattle.crew_io.specs.Chains.{puts_nothing, puts_same, puts_more, puts_more_front, puts_all}
use Rattle.line_out.specs.Parts.{next_word}
use Rattle.dossier_out.specs.Texts.{of_mapped}
use Rattle.cert_write.proofs.leaf.put_prices.Goals as goal

-- the word of one price
abbrev one : ℤ → List ℕ
one v = next_word (signed_decimal v)

pub loop-j-init : goal.loop-j-init
loop-j-init g c = puts_nothing g.K.Sink c.args.out.now

pub loop-j-preserved : goal.loop-j-preserved
loop-j-preserved g c =
    let below : c.loop-j.j < length c.args.prices.now.pi = (let t = c.loop-j-test.true in let e = c.tasks-j-end.ensures.count in omega (arith, t, e)) in
    puts_more g.K.Sink one c.args.prices.now.pi c.loop-j.j (pos 0) below _ _ _ _ _ c.loop-j.invariant
    (puts_same g.K.Sink _ _ _ _ _ (ap one (to_z-of_z w64 c.pi.result (record { sfits = c.pi.type_inv }) ∙ c.pi.ensures.price)) c.in_ok-put_next.ensures)

pub returns-in_err-put_next : goal.returns-in_err-put_next
returns-in_err-put_next g c =
    let below : c.loop-j.j < length c.args.prices.now.pi = (let t = c.loop-j-test.true in let e = c.tasks-j-end.ensures.count in omega (arith, t, e)) in
    puts_same g.K.Sink _ _ _ _ _ (of_mapped next_word signed_decimal c.args.prices.now.pi)
    (puts_more_front g.K.Sink one c.args.prices.now.pi c.loop-j.j (pos 0) below _ _ _ _ _ c.from_residual.result c.from_residual.ensures.0 c.loop-j.invariant
    (puts_same g.K.Sink _ _ _ _ _ (ap one (to_z-of_z w64 c.pi.result (record { sfits = c.pi.type_inv }) ∙ c.pi.ensures.price)) c.in_err-put_next.ensures))

pub returns : goal.returns
returns g c =
    let past : length c.args.prices.now.pi ≤ c.loop-j.j = (let t = c.loop-j-test.false in let e = c.tasks-j-end.ensures.count in omega (arith, t, e)) in
    puts_same g.K.Sink _ _ _ _ _ (of_mapped next_word signed_decimal c.args.prices.now.pi)
    (puts_all g.K.Sink one c.args.prices.now.pi c.loop-j.j _ _ _ _ past c.loop-j.invariant)
