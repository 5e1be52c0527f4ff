use Rattle.std.proofs.Common.{◌≡◌, ◌++◌, length, map, ap, sym, subst, ◌∙◌, arith, w64}
use Rattle.std.proofs.lemmas.Int.{to_z-of_z}
use Rattle.crew_terms.specs.Limits.{is_required, teams_in}
use Rattle.arrayvec.specs.ArrayVec.{array_vec_len}
use Rattle.line_out.specs.Parts.{part_word}
use Rattle.cert_write.proofs.Leaves.{prices_below, price_passed, price_pushed}
use Rattle.cert_write.proofs.leaf.push_extras.Goals as goal
use Rattle.cert_write.proofs.leaf.push_extras.Goals.{then-is_required, else-is_required}

pub loop-k-preserved : goal.loop-k-preserved
loop-k-preserved c =
    let i = c.loop-k.invariant in
    let n = c.args.limits.now.limits in
    let p = c.args.prices.now in
    let j = c.args.j in
    let k = c.loop-k.k in
    let told = ap is_required (sym c.pair.ensures) ∙ sym c.is_required.ensures in
    elim c.if-is_required.branch [
      | then-is_required w ↦ record {
        room = (let m = w.push.ensures.len in let e = ap (λ l. array_vec_len l) w.line-is in let r = i.room in omega (arith, m, e, r));
        so_far = ap (λ l. map part_word l.items) w.line-is
            ∙ price_pushed n p j k (map part_word c.args.line.now.items) c.loop-k.line.items w.push.new.self.items _ (to_z-of_z w64 w.rho.result (record { sfits = w.rho.type_inv }) ∙ w.rho.ensures.price)
            (told ∙ w.if-is_required.true) w.push.ensures.items i.so_far;
      }
      | else-is_required w ↦ record {
        room = (let e = ap (λ l. array_vec_len l) w.line-is in let r = i.room in omega (arith, e, r));
        so_far = ap (λ l. map part_word l.items) w.line-is ∙ i.so_far
            ∙ ap (λ ws. map part_word c.args.line.now.items ++ ws) (price_passed n p j k (told ∙ w.if-is_required.false));
      }
    ]

pub returns : goal.returns
returns c =
    let n = c.args.limits.now.limits in
    let k : c.loop-k.k ≡ teams_in n = (let f = c.loop-k-test.false in let e = c.loop-k.auto.k-end in let s = c.teams-k-end.ensures.count in let i = c.instance.ensures.instance in let l = ap (λ x. length x.teams) i in omega (arith, f, e, s, l)) in
    subst (λ m. map part_word c.loop-k.line.items ≡ map part_word c.args.line.now.items ++ prices_below n c.args.prices.now c.args.j m) k c.loop-k.invariant.so_far
