-- the bound that minute prices give
use Rattle.std.specs.Prelude.{◌≡◌, ◌≤◌, ◌<◌, ℕ, ℤ, pos, ◌-ℤ◌, ◌*ℤ◌, List, length, map, fold}
use Rattle.std.specs.Int.{int_min}
use Rattle.crew_terms.specs.Instance.{Instance, task_of}
use Rattle.crew_terms.specs.Limits.{root_limits}
use Rattle.crew_terms.specs.Leaf.{HoldsLocally, IsWorth, Proves, worth_of}
use Rattle.crew_terms.specs.Total.{total}
use Rattle.crew_terms.specs.declared.TheConstants.{D}
use Rattle.squeeze_terms.specs.MinutePrices.{MinutePrices, AreMinutePrices, minute_price}
use Rattle.squeeze_terms.specs.Possible.{possible_minutes}

-- what the teams of task j earn together where they begin it at minute t
abbrev pub teams_price : Instance → MinutePrices → ℕ → ℕ → ℤ
teams_price i p j t = pos (task_of i j).teams *ℤ minute_price i p j t

-- what task j adds to a bound: the least that its teams earn together at a possible minute, and at most one task
abbrev pub minute_term : Instance → MinutePrices → ℕ → ℤ
minute_term i p j = fold int_min (pos D) (map (teams_price i p j) (possible_minutes i j))

-- all terms, minus all worths
abbrev pub minute_bound : Instance → MinutePrices → List ℤ → ℤ
minute_bound i p worths = total (length i.tasks) (minute_term i p) -ℤ total (length i.teams) (worth_of worths)

-- minute prices, with potentials that bound what each team can earn by them
pub record AreValidMinutePrices (i : Instance) (p : MinutePrices) (worths : List ℤ) (phi : ℕ → ℕ → ℕ → ℤ) : Type 0 where
  pub prices : AreMinutePrices i p
  pub valid : (k : ℕ) → k < length i.teams → HoldsLocally (root_limits i) k (minute_price i p) (phi k) (worth_of worths k)

-- for each team the most that it can earn by minute prices
pub record AreMinuteWorths (i : Instance) (p : MinutePrices) (worths : List ℤ) : Type 0 where
  pub count : length worths ≡ length i.teams
  pub each : (k : ℕ) → k < length i.teams → IsWorth (root_limits i) k (minute_price i p) (worth_of worths k)

-- the bound that minute prices give with the worths of all teams
pub record IsMinuteBound (i : Instance) (p : MinutePrices) (bound : ℤ) : Type 0 where
  pub worths : List ℤ
  pub each : AreMinuteWorths i p worths
  pub sum : bound ≡ minute_bound i p worths

-- the greatest number, of those from 0 to so many tasks, that the bound proves
pub record IsMostProved (tasks : ℕ) (bound : ℤ) (l : ℕ) : Type 0 where
  pub most : l ≤ tasks
  pub proved : Proves bound l
  pub greatest : (m : ℕ) → m ≤ tasks → Proves bound m → m ≤ l
