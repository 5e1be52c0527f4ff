-- one more word of a row is accepted
use Rattle.std.proofs.Common.{◌≡◌, ◌<◌, ◌+◌, [], ◌∷◌, ℕ, zero, suc, ℤ, List, length, take, get_or, set, subst, arith}
use Rattle.crew_terms.specs.Words.{Words}
use Rattle.field_table.specs.Fields.{Accepts, AllAccept}
use Rattle.field_table.specs.declared.fields.Field.{Field}

accept_next : (fields : List Field) (words : Words) (values : List ℤ) (i : ℕ) (d : Field) (z : ℤ)
    → i < length fields → i < length words → i < length values
    → AllAccept (take i fields) (take i words) (take i values) → Accepts (get_or fields i d) (get_or words i []) z
    → AllAccept (take (suc i) fields) (take (suc i) words) (take (suc i) (set values i z))
accept_next [] ws zs i d z a b c all here = absurd (omega arith)
accept_next (f ∷ fs) [] zs i d z a b c all here = absurd (omega arith)
accept_next (f ∷ fs) (w ∷ ws) [] i d z a b c all here = absurd (omega arith)
accept_next (f ∷ fs) (w ∷ ws) (y ∷ zs) zero d z a b c all here = (here, tt)
accept_next (f ∷ fs) (w ∷ ws) (y ∷ zs) (suc i) d z a b c all here = (all.0, accept_next fs ws zs i d z (omega arith) (omega arith) (omega arith) all.1 here)

pub accept_more : (fields : List Field) (words : Words) (values : List ℤ) (i : ℕ) (d : Field) (z : ℤ)
    → i < length fields → i < length words → i < length values
    → AllAccept (take i fields) (take i words) (take i values) → Accepts (get_or fields i d) (get_or words i []) z
    → AllAccept (take (i + 1) fields) (take (i + 1) words) (take (i + 1) (set values i z))
accept_more fields words values i d z a b c all here =
    let e : suc i ≡ i + 1 = omega arith in
    subst (λ n. AllAccept (take n fields) (take n words) (take n (set values i z))) e (accept_next fields words values i d z a b c all here)
