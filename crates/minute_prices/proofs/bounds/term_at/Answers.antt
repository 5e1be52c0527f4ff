use Rattle.std.proofs.Common.{◌≡◌, ◌<◌, ◌∙◌, [], ℕ, List, length, get_or, ap, arith}
use Rattle.std.proofs.lemmas.List.FromFn.{get_or-map-range_with_len, length-map-range_with_len}
use Rattle.squeeze_terms.specs.Possible.{possible_minutes}
use Rattle.minute_prices.proofs.bounds.term_at.Goals as goal

pub of_task-requires : goal.of_task-requires
of_task-requires c =
    let count = length-map-range_with_len (possible_minutes c.args.instance.now) 0 (length c.args.instance.now.tasks) in
    let e = ap length c.requires.possible in
    let below = c.requires.task in
    omega arith

pub term_of-requires-clause-minutes : goal.term_of-requires-clause-minutes
term_of-requires-clause-minutes c =
    c.of_task.ensures ∙ ap (λ (m : List (List ℕ)). get_or m c.args.j []) c.requires.possible
    ∙ get_or-map-range_with_len (possible_minutes c.args.instance.now) 0 (length c.args.instance.now.tasks) c.args.j c.args.j [] c.requires.task (omega arith)
