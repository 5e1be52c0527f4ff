use Rattle.std.proofs.Common.{◌≡◌, ◌<◌, ◌≤◌, ℕ, true, arith, ap}
use Rattle.crew_terms.specs.Limits.{Limits, IsLimits, tasks_in, teams_in, pair_of, is_required, has_required}
use Rattle.crew_terms.specs.Below.{any_below-some}
use Rattle.search_terms.specs.Closing.{IsStuck, NoMinute, NoTime}
use Rattle.search_laws.proofs.Whole.{known_required}
use Rattle.search_laws.proofs.decided_cases.Goals as goal

-- a stuck team has a required task
stuck_at : (n : Limits) (k : ℕ) → IsLimits n → k < teams_in n → IsStuck n k → (j : ℕ) × (j < tasks_in n) × (has_required n j ≡ true)
stuck_at n k is b (NoMinute j required none) = (j, known_required n is k j b required, any_below-some (teams_in n) (λ h. is_required (pair_of n h j)) k b (ap is_required required))
stuck_at n k is b (NoTime j h first second other order neighbours late) = (j, known_required n is k j b first, any_below-some (teams_in n) (λ g. is_required (pair_of n g j)) k b (ap is_required first))

pub returns : goal.returns
returns c = record {
  stuck = λ n p k is limits decided range below stuck priced.
      let proved = λ (l : ℕ) (le : l ≤ tasks_in n). c.closing_prices_prove.ensures.stuck n p k l is limits decided range below stuck priced le in
      let at = stuck_at n k limits below stuck in
      record { none = λ q legal within. c.no_plan_is_left.ensures n p q at.0 (proved (tasks_in n) (omega arith)) at.1 at.2 legal within; proved = proved };
  crowded = λ n p j is limits decided range crowded priced.
      let proved = λ (l : ℕ) (le : l ≤ tasks_in n). c.closing_prices_prove.ensures.crowded n p j l is limits decided range crowded priced le in
      record { none = λ q legal within. c.no_plan_is_left.ensures n p q j (proved (tasks_in n) (omega arith)) crowded.known crowded.some legal within; proved = proved };
  short = λ n p j is limits decided range short priced.
      let proved = λ (l : ℕ) (le : l ≤ tasks_in n). c.closing_prices_prove.ensures.short n p j l is limits decided range short priced le in
      record { none = λ q legal within. c.no_plan_is_left.ensures n p q j (proved (tasks_in n) (omega arith)) short.known short.some legal within; proved = proved };
  one = λ n p is node decided range free all priced. record {
    legal = c.one_plan_is_left.ensures.legal n is node decided free all;
    within = c.one_plan_is_left.ensures.within n is node.limits decided;
    only = λ r legal within. c.one_plan_is_left.ensures.only n r is node.limits decided legal within;
    proved = c.closing_prices_prove.ensures.«open» n p is node.limits decided range priced;
  };
}
