use Rattle.std.proofs.Common.{◌≡◌, ◌∙◌, ◌++◌, ◌∷◌, [], ℕ, List, map, ap, sym, arith}
use Rattle.std.specs.List.{range_with_len}
use Rattle.std.proofs.lemmas.List.FromFn.{map-range_with_len_more}
use Rattle.squeeze_terms.specs.Possible.{possible_minutes}
use Rattle.minute_prices.proofs.possible.PossibleMinutes.of.Goals as goal

pub loop-j-preserved : goal.loop-j-preserved
loop-j-preserved c =
    let f = possible_minutes c.args.limits.now.limits.instance in
    let j = c.loop-j.j in
    c.in_ok-push.ensures.items
    ∙ ap (λ (xs : List (List ℕ)). xs ++ c.in_ok-minutes_of.field-0 ∷ []) c.loop-j.invariant
    ∙ ap (λ (m : List ℕ). map f (range_with_len 0 j) ++ m ∷ []) c.in_ok-minutes_of.ensures
    ∙ sym (map-range_with_len_more f 0 j j (omega arith))
