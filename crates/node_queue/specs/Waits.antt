-- what waits in a queue, the oldest first: keys, each with a bound and an item
use Rattle.std.specs.Prelude.{◌≡◌, ◌≤ℤ◌, ◌<ℤ◌, ◌==◌, ◌++◌, ℕ, not, if◌then◌else◌, Option, None, Some, List, [], ◌∷◌, filter, map, All}
use Rattle.node_queue.specs.declared.Waiting.{Waiting}

abbrev pub Waits : Type 0
Waits = List (ℕ × Waiting)

abbrev pub keys_of : Waits → List ℕ
keys_of q = map (λ (e : ℕ × Waiting). e.0) q

-- what waits under the key
abbrev pub found : Waits → ℕ → Option Waiting
found [] key = None
found (e ∷ es) key = if e.0 == key then Some e.1 else found es key

abbrev pub without : Waits → ℕ → Waits
without q key = filter (λ (e : ℕ × Waiting). not (e.0 == key)) q

-- the key of the oldest of those of least bound
pub record IsLeast (q : Waits) (key : ℕ) : Type 0 where
  pub older : Waits
  pub waiting : Waiting
  pub younger : Waits
  pub stands : q ≡ older ++ ((key, waiting) ∷ younger)
  pub below_older : All (λ (e : ℕ × Waiting). waiting.bound <ℤ e.1.bound) older
  pub not_above_younger : All (λ (e : ℕ × Waiting). waiting.bound ≤ℤ e.1.bound) younger
