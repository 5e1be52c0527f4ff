-- the first of a list of conditions that holds
use Rattle.std.proofs.Common.{◌≡◌, ◌++◌, Bool, true, false, List, [], ◌∷◌, Some, None, refl}
use Rattle.std.specs.Prelude.{All}
use Rattle.std.proofs.lemmas.List.Elements.{All-head, All-tail}
use Rattle.day_terms.specs.Refusal.{Refusal, first_of}

abbrev Fails : Bool × Refusal → Type 0
Fails row = row.0 ≡ false

pub first : (front back : List (Bool × Refusal)) (refusal : Refusal) → All Fails front → first_of (front ++ (true, refusal) ∷ back) ≡ Some refusal
first [] back refusal fail = refl
first (row ∷ front) back refusal fail = rw (All-head Fails row front fail) (first front back refusal (All-tail Fails row front fail))

pub none : (rows : List (Bool × Refusal)) → All Fails rows → first_of rows ≡ None
none [] fail = refl
none (row ∷ rows) fail = rw (All-head Fails row rows fail) (none rows (All-tail Fails row rows fail))
