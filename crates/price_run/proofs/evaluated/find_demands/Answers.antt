use Rattle.std.proofs.Common.{◌<◌, ◌∙◌, ◌++◌, ◌∷◌, [], ℕ, List, Option, length, get_or, map, ap, sym, arith}
use Rattle.std.specs.List.{range_with_len}
use Rattle.std.proofs.lemmas.List.FromFn.{get_or-map-range_with_len, length-map-range_with_len, map-range_with_len_more}
use Rattle.squeeze_terms.specs.Possible.{possible_minutes}
use Rattle.squeeze_terms.specs.Run.{demand_minute}
use Rattle.price_run.proofs.evaluated.find_demands.Goals as goal

pub of_task-requires : goal.of_task-requires
of_task-requires c =
    let count = length-map-range_with_len (possible_minutes c.args.instance.now) 0 (length c.args.instance.now.tasks) in
    let e = ap length c.requires.possible in
    let below = c.loop-j-test.true in
    let tasks = c.tasks-j-end.ensures.count in
    omega arith

pub term_of-found-requires-clause-minutes : goal.term_of-found-requires-clause-minutes
term_of-found-requires-clause-minutes c =
    let below : c.loop-j.j < length c.args.instance.now.tasks = let a = c.loop-j-test.true in let tasks = c.tasks-j-end.ensures.count in omega arith in
    c.of_task.ensures ∙ ap (λ (m : List (List ℕ)). get_or m c.loop-j.j []) c.requires.possible
    ∙ get_or-map-range_with_len (possible_minutes c.args.instance.now) 0 (length c.args.instance.now.tasks) c.loop-j.j c.loop-j.j [] below (omega arith)

pub loop-j-preserved : goal.loop-j-preserved
loop-j-preserved c =
    let f = demand_minute c.args.instance.now c.args.prices.now in
    let j = c.loop-j.j in
    c.in_ok-push.ensures.items
    ∙ ap (λ (xs : List (Option ℕ)). xs ++ c.term_of-found.result.minute ∷ []) c.loop-j.invariant
    ∙ ap (λ (m : Option ℕ). map f (range_with_len 0 j) ++ m ∷ []) c.term_of-found.ensures.minute
    ∙ sym (map-range_with_len_more f 0 j j (omega arith))
