-- prices of tasks by start minute
use Rattle.std.specs.Prelude.{◌≡◌, ◌<◌, ◌+◌, ◌-◌, ℕ, ℤ, pos, Bool, List, [], length, nat_le, map, replicate, slice_index_or, if◌then◌else◌}
use Rattle.std.specs.List.{range_with_len}
use Rattle.crew_terms.specs.Instance.{Instance, task_of}
use Rattle.crew_terms.specs.Leaf.{IsPrice}
use Rattle.crew_terms.specs.declared.Task.{Task}

-- by task: a price for each minute of its own window, if it is joint; else one price for all minutes
abbrev pub MinutePrices : Type 0
MinutePrices = List (List ℤ)

-- the task needs two teams or more
abbrev pub is_joint : Task → Bool
is_joint task = nat_le 2 task.teams

-- how many prices the task has
abbrev pub price_count : Task → ℕ
price_count task = if is_joint task then task.latest + 1 - task.earliest else 1

-- where the price of minute t stands among those of the task
abbrev pub price_place : Task → ℕ → ℕ
price_place task t = if is_joint task then t - task.earliest else 0

-- the prices of task j
abbrev pub prices_of : MinutePrices → ℕ → List ℤ
prices_of p j = slice_index_or p j []

-- the price at place x of those of task j
abbrev pub price_at : MinutePrices → ℕ → ℕ → ℤ
price_at p j x = slice_index_or (prices_of p j) x (pos 0)

-- the price of task j at minute t: what a visit that begins then earns
abbrev pub minute_price : Instance → MinutePrices → ℕ → ℕ → ℤ
minute_price i p j t = price_at p j (price_place (task_of i j) t)

-- 0 for each task and minute
abbrev pub zero_minute_prices : Instance → MinutePrices
zero_minute_prices i = map (λ j. replicate (price_count (task_of i j)) (pos 0)) (range_with_len 0 (length i.tasks))

-- as many prices as each task has, each in the range of prices
pub record AreMinutePrices (i : Instance) (p : MinutePrices) : Type 0 where
  pub tasks : length p ≡ length i.tasks
  pub counts : (j : ℕ) → j < length i.tasks → length (prices_of p j) ≡ price_count (task_of i j)
  pub range : (j x : ℕ) → IsPrice (price_at p j x)
