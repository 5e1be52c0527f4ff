-- facts of the bytes that a source had left and of those that were written, where the source tells them
use Rattle.std.proofs.Common.{◌≡◌, ◌≤◌, ◌++◌, ℕ, List, length, take, Option, None, Some, ap, subst, ◌∙◌, arith, append_assoc}
use Rattle.std.specs.Prelude.{IfSome}
use Rattle.crew_io.specs.Io.{Appended, AppendedPart}

-- where the source tells its bytes: the fact of the input and of what was written, which is what the sink got, if it
-- tells that
abbrev pub OfBytes : Option (List ℕ) → Option (List ℕ) → Option (List ℕ) → (List ℕ → List ℕ → Type 0) → Type 0
OfBytes left got later Fact = IfSome left (λ input. (written : List ℕ) × Appended got later written × Fact input written)

pub of_bytes_weaker : (left got later : Option (List ℕ)) (F G : List ℕ → List ℕ → Type 0) → ((input written : List ℕ) → F input written → G input written) → OfBytes left got later F → OfBytes left got later G
of_bytes_weaker None got later F G f b = tt
of_bytes_weaker (Some input) got later F G f b = (b.0, b.1, f input b.0 b.2)

-- what was written, and a front of the next piece
pub piece_front : (old mid new : Option (List ℕ)) (xs ys : List ℕ) → Appended old mid xs → AppendedPart mid new ys → (n : ℕ) × (n ≤ length ys) × Appended old new (xs ++ take n ys)
piece_front None mid new xs ys p q = (0, omega arith, subst (λ m. AppendedPart m new ys) p q)
piece_front (Some bytes) mid new xs ys p q =
    let w = subst (λ m. AppendedPart m new ys) p q in
    (w.0, w.1, w.2 ∙ ap Some (append_assoc bytes xs (take w.0 ys)))
