use Rattle.std.proofs.Common.{◌<◌, ◌^◌, ◌++◌, ◌∷◌, [], ◌∙◌, ℕ, ℤ, ap, sym, arith, map, pos, subst, sum_by}
use Rattle.std.specs.List.{range_with_len}
use Rattle.std.proofs.lemmas.List.FromFn.{map-range_with_len_more}
use Rattle.search_terms.specs.BasicChoice.{is_unassigned_at}
use Rattle.search_terms.specs.Opening.{places_where}
use Rattle.frac_master.specs.Shares.{parts_at}
use Rattle.frac_master.proofs.LowestShares.{signed}
use Rattle.frac_master.proofs.Ranges.{grown}
use Rattle.frac_master.proofs.shares.push_open.Goals as goal

pub loop-j-preserved : goal.loop-j-preserved
loop-j-preserved c =
    let j = c.loop-j.j in
    let old = c.args.left_open.now.items in
    let front = c.loop-j.left_open.items in
    let x = parts_at c.args.table.now.rows c.args.whole in
    let open_of : ℕ → ℤ = λ i. pos (sum_by x (places_where (is_unassigned_at i) 0 c.args.places.now)) in
    let lt = c.requires.fits j (omega arith) in
    let small = subst (λ n. n < 2 ^ 127) (sym c.open_parts.ensures) lt in
    let e = signed c.open_parts.result small ∙ ap pos c.open_parts.ensures in
    grown old front c.push.new.self.items (open_of j) (map open_of (range_with_len 0 j)) c.loop-j.invariant (c.in_ok-push.ensures.items ∙ ap (λ z. front ++ z ∷ []) e)
    ∙ ap (λ l. old ++ l) (sym (map-range_with_len_more open_of 0 j j (omega arith)))
