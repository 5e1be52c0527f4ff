use Rattle.std.proofs.Common.{◌≡◌, ◌<◌, ℕ, List, Option, None, Some, get_or, length, true, rules}
use Rattle.std.specs.Borrow.{Bor}
use Rattle.std.specs.Prelude.{IfSome}
use Rattle.std.specs.Option.{is_some}
use Rattle.crew_instance.specs.Times.{Times, IsMissing}
use Rattle.crew_instance.proofs.WholeRows.{none_missing}
use Rattle.crew_instance.proofs.travel_times.missing_from.Goals as goal

whole : (t : Times) (a y : ℕ) (row : Option (Bor (List ℕ))) → is_some row ≡ true → IfSome row (λ xs. length xs.now ≡ t.places)
    → IfSome row (λ xs. (b : ℕ) → b < length xs.now → t.given a b ≡ Some (get_or xs.now b 0)) → IsMissing t a y → ⊥
whole t a y None some count given is = cc
whole t a y (Some xs) some count given is = none_missing t a y xs.now count given is

pub returns-then-is_some-clause-none : goal.returns-then-is_some-clause-none
returns-then-is_some-clause-none g c y is =
    whole (g.T.TravelTimes.times c.args.times.now) c.args.a y c.given_row.result (search rules) c.given_row.ensures.count c.given_row.ensures.given is
