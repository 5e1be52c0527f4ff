use Rattle.std.proofs.Common.{◌∙◌}
use Rattle.std.proofs.lemmas.Bool.{lt-ltb}
use Rattle.std.proofs.lemmas.Option.{MatchOption-at_some}
use Rattle.node_limits.specs.Minutes.{AreMinutes, HasNoMinute}
use Rattle.crew_terms.specs.Minutes.{minute_count}
use Rattle.leaf_check.proofs.Minutes.{counted, found}
use Rattle.leaf_check.proofs.keys.counted_minutes.Goals as goal

pub unwrap-first-requires : goal.unwrap-first-requires
unwrap-first-requires c =
    let n = c.args.limits.now.limits in
    found c.minutes_are_permitted.ensures n c.args.k c.args.j c.minutes.result c.requires.task c.minutes.ensures.exact ∙ lt-ltb 0 (minute_count n c.args.k c.args.j) c.requires.some

pub returns-clause-minutes : goal.returns-clause-minutes
returns-clause-minutes c =
    let n = c.args.limits.now.limits in
    let first = c.unwrap-first.result.0 in
    let last = c.unwrap-first.result.1 in
    counted c.minutes_are_permitted.ensures n c.args.k c.args.j first last
    (MatchOption-at_some (HasNoMinute n c.args.k c.args.j) (λ m. AreMinutes n c.args.k c.args.j m.0 m.1) c.unwrap-first.result c.unwrap-first.ensures c.minutes.ensures.exact)
