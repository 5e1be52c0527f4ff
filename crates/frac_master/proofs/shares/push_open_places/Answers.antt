use Rattle.std.proofs.Common.{◌<◌, ◌++◌, ◌∷◌, [], ◌+◌, ◌∙◌, ◌≡◌, ap, sym, arith, cond, take, length, append-nil}
use Rattle.search_terms.specs.declared.Place.TheVariants.{Right}
use Rattle.search_terms.specs.Opening.{places_where}
use Rattle.search_terms.specs.Overflows.{is_unassigned}
use Rattle.frac_master.proofs.Ranges.{grown}
use Rattle.frac_master.proofs.Walked.{where_more}
use Rattle.frac_master.proofs.shares.push_open_places.Goals as goal
use Rattle.frac_master.proofs.shares.push_open_places.Goals.{then-is_unassigned+in_ok-push, else-is_unassigned}

pub loop-j-preserved : goal.loop-j-preserved
loop-j-preserved c =
    let j = c.loop-j.j in
    let ps = c.args.places.now in
    let old = c.args.at.now.items in
    let front = places_where is_unassigned 0 (take j ps) in
    let here : j < length ps = omega arith in
    let z : 0 + j ≡ j = omega arith in
    let more = where_more is_unassigned 0 ps j Right here in
    elim c.if-is_unassigned.branch [
      | then-is_unassigned+in_ok-push w ↦
          let t = sym c.is_unassigned.ensures ∙ w.if-is_unassigned.true in
          let m = more ∙ ap (λ b. front ++ cond b ((0 + j) ∷ []) []) t ∙ ap (λ k. front ++ k ∷ []) z in
          rw w.at-is (grown old c.loop-j.at.items w.push.new.self.items j front c.loop-j.invariant w.in_ok-push.ensures.items ∙ ap (λ l. old ++ l) (sym m))
      | else-is_unassigned w ↦
          let t = sym c.is_unassigned.ensures ∙ w.if-is_unassigned.false in
          let m = more ∙ ap (λ b. front ++ cond b ((0 + j) ∷ []) []) t ∙ append-nil front in
          rw w.at-is (c.loop-j.invariant ∙ ap (λ l. old ++ l) (sym m))
    ]
