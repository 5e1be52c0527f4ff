-- a fault is no answer
use Rattle.std.proofs.Common.{◌≡◌, Result, Ok, Err}
use Rattle.std.specs.Prelude.{IsErr, OnErr}

-- where there is a fault, nothing is answered
pub err_is_not_ok : {T E : Type 0} (result : Result T E) (x : T) → IsErr result → result ≡ Ok x → ⊥
err_is_not_ok (Ok y) x is e = absurd (cc)
err_is_not_ok (Err f) x is e = absurd (cc)

-- what holds, holds at a fault
pub on_err : {X E : Type 0} (r : Result X E) (P : Type 0) → P → OnErr r P
on_err (Ok x) P p = tt
on_err (Err e) P p = p
