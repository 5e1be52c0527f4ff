use Rattle.std.proofs.Common.{◌≡◌, ◌∙◌, ◌++◌, ◌∷◌, [], ℕ, ℤ, List, map, pos, replicate, ap, sym, arith}
use Rattle.std.specs.List.{range_with_len}
use Rattle.std.proofs.lemmas.List.FromFn.{map-range_with_len_more}
use Rattle.crew_terms.specs.Instance.{task_of}
use Rattle.squeeze_terms.specs.MinutePrices.{price_count}
use Rattle.minute_prices.proofs.prices.MinutePrices.zero.Goals as goal

pub loop-j-preserved : goal.loop-j-preserved
loop-j-preserved c =
    let i = c.args.instance.now in
    let j = c.loop-j.j in
    let f = λ (h : ℕ). replicate (price_count (task_of i h)) (pos 0) in
    let row : c.in_ok-zeros.field-0.items ≡ f j = c.in_ok-zeros.ensures ∙ ap (λ n. replicate n (pos 0)) (c.price_count-count.ensures ∙ ap price_count c.task.ensures.task) in
    c.in_ok-push.ensures.ok
    ∙ ap (λ (xs : List (List ℤ)). xs ++ c.in_ok-zeros.field-0.items ∷ []) c.loop-j.invariant
    ∙ ap (λ (r : List ℤ). map f (range_with_len 0 j) ++ r ∷ []) row
    ∙ sym (map-range_with_len_more f 0 j j (omega arith))
