use Rattle.std.proofs.Common.{◌≤◌, ◌<◌, ℕ, length, ap, sym, subst, arith}
use Rattle.std.specs.List.{range_with_len}
use Rattle.std.proofs.lemmas.List.FromFn.{length-range_with_len}
use Rattle.crew_terms.specs.Ranges.{numbered}
use Rattle.crew_io.specs.Chains.{puts_nothing, puts_same, puts_more, puts_more_front, puts_all}
use Rattle.each_out.proofs.items.put_numbered.Goals as goal

below : (j n : ℕ) → j < n → j < length (range_with_len 0 n)
below j n h = subst (λ l. j < l) (sym (length-range_with_len 0 n)) h

pub loop-k-init : goal.loop-k-init
loop-k-init g c = puts_nothing g.K.Sink c.args.out.now

pub loop-k-preserved : goal.loop-k-preserved
loop-k-preserved g c =
    let text = g.W.Writes.text c.args.writer.now in
    let k = c.loop-k.k-counter in
    puts_more g.K.Sink text (range_with_len 0 c.args.n) k 0 (below k c.args.n c.loop-k-test.true) _ _ _ _ _ c.loop-k.invariant
    (puts_same g.K.Sink _ _ _ _ _ (ap text (sym (numbered c.args.n k c.loop-k-test.true))) c.in_ok-write.ensures)

pub returns-in_err-write : goal.returns-in_err-write
returns-in_err-write g c =
    let text = g.W.Writes.text c.args.writer.now in
    let k = c.loop-k.k-counter in
    puts_more_front g.K.Sink text (range_with_len 0 c.args.n) k 0 (below k c.args.n c.loop-k-test.true) _ _ _ _ _ c.from_residual.result c.from_residual.ensures.0 c.loop-k.invariant
    (puts_same g.K.Sink _ _ _ _ _ (ap text (sym (numbered c.args.n k c.loop-k-test.true))) c.in_err-write.ensures)

pub returns : goal.returns
returns g c =
    let past : length (range_with_len 0 c.args.n) ≤ c.loop-k.k-counter = (let t = c.loop-k-test.false in let l = length-range_with_len 0 c.args.n in omega (arith, t, l)) in
    puts_all g.K.Sink (g.W.Writes.text c.args.writer.now) (range_with_len 0 c.args.n) c.loop-k.k-counter _ _ _ _ past c.loop-k.invariant
