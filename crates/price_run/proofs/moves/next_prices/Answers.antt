use Rattle.std.proofs.Common.{◌<◌, ◌∙◌, ◌++◌, ◌∷◌, [], ℕ, ℤ, None, Option, List, length, get_or, map, ap, sym, arith}
use Rattle.std.specs.List.{range_with_len}
use Rattle.std.proofs.lemmas.List.FromFn.{get_or-map-range_with_len, length-map-range_with_len, map-range_with_len_more}
use Rattle.crew_terms.specs.Instance.{task_of}
use Rattle.squeeze_terms.specs.MinutePrices.{price_count}
use Rattle.squeeze_terms.specs.Run.{demand_minute, next_price}
use Rattle.price_run.proofs.moves.next_prices.Goals as goal

pub loop-j-preserved : goal.loop-j-preserved
loop-j-preserved c =
    let i = c.args.instance.now in
    let j = c.loop-j.j in
    let f = λ (h : ℕ). map (next_price i c.args.s c.args.prices.now c.args.routes.now h) (range_with_len 0 (price_count (task_of i h))) in
    c.in_ok-push.ensures.ok
    ∙ ap (λ (xs : List (List ℤ)). xs ++ c.in_ok-next_row.field-0.items ∷ []) c.loop-j.invariant
    ∙ ap (λ (r : List ℤ). map f (range_with_len 0 j) ++ r ∷ []) c.in_ok-next_row.ensures
    ∙ sym (map-range_with_len_more f 0 j j (omega arith))

pub bounds-demands-j : goal.bounds-demands-j
bounds-demands-j c =
    let count = length-map-range_with_len (demand_minute c.args.instance.now c.args.prices.now) 0 (length c.args.instance.now.tasks) in
    let e = ap length c.requires.demands in
    let below = c.loop-j-test.true in
    let tasks = c.tasks-j-end.ensures.count in
    omega arith

pub next_row-requires-clause-demand : goal.next_row-requires-clause-demand
next_row-requires-clause-demand c =
    let below : c.loop-j.j < length c.args.instance.now.tasks = let a = c.loop-j-test.true in let tasks = c.tasks-j-end.ensures.count in omega arith in
    ap (λ (ds : List (Option ℕ)). get_or ds c.loop-j.j None) c.requires.demands
    ∙ get_or-map-range_with_len (demand_minute c.args.instance.now c.args.prices.now) 0 (length c.args.instance.now.tasks) c.loop-j.j c.loop-j.j None below (omega arith)
