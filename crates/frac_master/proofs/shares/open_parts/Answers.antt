use Rattle.std.proofs.Common.{◌≡◌, ◌<◌, ◌+◌, ◌∙◌, ap, sym, arith, length, sum_by, take}
use Rattle.search_terms.specs.declared.Place.TheVariants.{Right}
use Rattle.search_terms.specs.BasicChoice.{is_unassigned_at}
use Rattle.search_terms.specs.Opening.{places_where}
use Rattle.frac_master.specs.Shares.{parts_at}
use Rattle.frac_master.proofs.Walked.{sum_where_front, sum_where_more}
use Rattle.frac_master.proofs.shares.open_parts.Goals as goal
use Rattle.frac_master.proofs.shares.open_parts.Goals.{then-is_open_of, else-is_open_of}

pub overflow_add-sum : goal.overflow_add-sum
overflow_add-sum c =
    let i = c.loop-i.i in
    let ps = c.args.places.now in
    let test = is_unassigned_at c.args.j in
    let x = parts_at c.args.table.now.rows c.args.whole in
    let here : i < length ps = omega arith in
    let m = sum_where_more test x ps i Right _ here (sym c.is_open_of.ensures ∙ c.if-is_open_of.true) in
    let f = sum_where_front test x (i + 1) ps in
    let inv : c.loop-i.sum ≡ sum_by x (places_where test 0 (take i ps)) = c.loop-i.invariant in
    let e = c.parts_of-sum.ensures in
    let fits = c.requires.fits in
    omega arith

pub loop-i-preserved : goal.loop-i-preserved
loop-i-preserved c =
    let i = c.loop-i.i in
    let ps = c.args.places.now in
    let test = is_unassigned_at c.args.j in
    let x = parts_at c.args.table.now.rows c.args.whole in
    let here : i < length ps = omega arith in
    let inv : c.loop-i.sum ≡ sum_by x (places_where test 0 (take i ps)) = c.loop-i.invariant in
    elim c.if-is_open_of.branch [
      | then-is_open_of w ↦
          let m = sum_where_more test x ps i Right _ here (sym c.is_open_of.ensures ∙ w.if-is_open_of.true) in
          w.sum-is ∙ ap (λ s. s + w.parts_of-sum.result) inv ∙ ap (λ k. sum_by x (places_where test 0 (take i ps)) + k) w.parts_of-sum.ensures ∙ sym m
      | else-is_open_of w ↦
          let m = sum_where_more test x ps i Right _ here (sym c.is_open_of.ensures ∙ w.if-is_open_of.false) in
          let z : sum_by x (places_where test 0 (take i ps)) + 0 ≡ sum_by x (places_where test 0 (take i ps)) = omega arith in
          w.sum-is ∙ inv ∙ sym (m ∙ z)
    ]
