use Rattle.std.proofs.Common.{◌≡◌, ◌≢◌, ℕ, ap, Option, None, Some}
use Rattle.std.specs.Prelude.{AllPairs, IfSome}
use Rattle.node_queue.specs.Waits.{IsLeast, Waits, keys_of}
use Rattle.search_tree.specs.Keyed.{Keyed, IsKey, IsLeastKey}
use Rattle.search_tree.proofs.Found.{least_bound, least_found}
use Rattle.search_tree.proofs.keyed.KeyedTree.least.Goals as goal

is_key : (k : Keyed) (q : Waits) (o : Option ℕ) → q ≡ k.waits → IfSome o (IsLeast q) → IfSome o (IsKey k)
is_key k q None same h = tt
is_key k q (Some key) same h =
    let f = least_found k.waits key (rw same at h) in
    (f.0.item, f.0.bound, f.1)

pub returns-clause-waits : goal.returns-clause-waits
returns-clause-waits c =
    is_key c.args.self.now c.self.inside.queue c.least.result (ap (λ (k : Keyed). k.waits) c.self.view_is) c.least.ensures.least

is_least : (k : Keyed) (q : Waits) (o : Option ℕ) → q ≡ k.waits → AllPairs (λ a b. a ≢ b) (keys_of q) → IfSome o (IsLeast q) → IfSome o (IsLeastKey k)
is_least k q None same differ h = tt
is_least k q (Some key) same differ h = λ n bound w other m b v.
    least_bound k.waits key (rw same at h) (rw same at differ) (record { bound = bound; item = n }) (record { bound = b; item = m }) other w v

pub returns-clause-least : goal.returns-clause-least
returns-clause-least c =
    is_least c.args.self.now c.self.inside.queue c.least.result (ap (λ (k : Keyed). k.waits) c.self.view_is) c.len.ensures.differ c.least.ensures.least
