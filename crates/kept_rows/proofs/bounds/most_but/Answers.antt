use Rattle.std.proofs.Common.{◌≢◌, ◌≤◌, rules, arith, FitsSigned, below_more, unsigned_abs, get_or, pos}
use Rattle.std.specs.Int.{w128}
use Rattle.std.proofs.lemmas.Int.{to_z-of_z}
use Rattle.std.proofs.lemmas.Nat.{le_or_l, le_or_r}
use Rattle.search_terms.specs.Rows.{number}
use Rattle.kept_rows.proofs.bounds.most_but.Goals as goal
use Rattle.kept_rows.proofs.bounds.most_but.Goals.{then-h-last, else-h-last}

pub loop-h-preserved : goal.loop-h-preserved
loop-h-preserved c =
    elim c.if-h-last.branch [
      | then-h-last w ↦
          let row = c.args.row.now in
          let a : FitsSigned w128 (get_or row c.loop-h.h (pos 0)) = search rules in
          let l = le_or_l c.loop-h.bits w.unsigned_abs-bits.result in
          let r = le_or_r c.loop-h.bits w.unsigned_abs-bits.result in
          let e = rw (to_z-of_z w128 (get_or row c.loop-h.h (pos 0)) a) at w.unsigned_abs-bits.ensures.value in
          rw w.bits-is
          (below_more (λ i. i ≢ c.args.last → unsigned_abs (number row i) ≤ _) c.loop-h.h
          (λ i lt ne. omega (arith, c.loop-h.invariant i lt ne, l))
          (λ ne. omega (arith, e, r)))
      | else-h-last w ↦
          let row = c.args.row.now in
          rw w.bits-is
          (below_more (λ i. i ≢ c.args.last → unsigned_abs (number row i) ≤ c.loop-h.bits) c.loop-h.h
          (λ i lt ne. c.loop-h.invariant i lt ne)
          (λ ne. absurd (ne w.if-h-last.false)))
    ]
