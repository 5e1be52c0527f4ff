-- when two lists are one
use Rattle.std.proofs.Common.{◌≡◌, ◌≤◌, ◌<◌, ℕ, List, length, get_or, arith, ext_get_or}

-- lists of one length are one where their first elements are, up to that length
pub one_list : {X : Type 0} (d : X) (xs ys : List X) (n : ℕ) → length xs ≡ length ys → length xs ≤ n
    → ((i : ℕ) → i < n → get_or xs i d ≡ get_or ys i d) → xs ≡ ys
one_list d xs ys n e le h = ext_get_or d xs ys e (λ i l. h i (omega arith))
