use Rattle.squeeze_laws.proofs.Possible.{minute_from_test, test_from_minute}
use Rattle.squeeze_laws.proofs.able_teams_may_begin.Goals as goal

pub returns : goal.returns
returns c = λ n k j t known. (
  (λ e. (c.minutes_are_permitted.ensures n k j t).1 (minute_from_test n k j t known e)),
  (λ is. test_from_minute n k j t ((c.minutes_are_permitted.ensures n k j t).0 is)),
)
