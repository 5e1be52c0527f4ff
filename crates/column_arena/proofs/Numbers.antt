-- rising lists of the numbers that have a property
use Rattle.std.proofs.Common.{◌≡◌, ◌<◌, ◌≤◌, ◌+◌, ◌↔◌, ◌⊎◌, inl, inr, ℕ, List, [], ◌∷◌, ◌++◌, length, get_or, subst, arith, length-append, Contains}
use Rattle.std.specs.List.Sorted.{IsStrictlyIncreasing}
use Rattle.std.proofs.lemmas.Bool.{cases_lt}
use Rattle.std.proofs.lemmas.List.{get_or_append_left, get_or_push}
use Rattle.std.proofs.lemmas.List.Elements.{Contains-get_or, Contains-push, Contains-append_left, Contains-push_cases}
use Rattle.column_arena.specs.Columns.{AreNumbersWith}

pub numbers_of_none : {Has : ℕ → Type 0} → ((i : ℕ) → Has i → ⊥) → AreNumbersWith Has []
numbers_of_none none = record { rising = λ k l. absurd (omega arith); each = λ i. ((λ c. absurd (let l = c.1 in omega arith)), (λ h. absurd (none i h))) }

pub numbers_same : {Has Gets : ℕ → Type 0} (ids : List ℕ) → AreNumbersWith Has ids → ((i : ℕ) → Has i ↔ Gets i) → AreNumbersWith Gets ids
numbers_same ids are same = record {
  rising = are.rising;
  each = λ i. ((λ c. (same i).0 ((are.each i).0 c)), (λ h. (are.each i).1 ((same i).1 h)));
}

rising_push : (ids : List ℕ) (id : ℕ) → IsStrictlyIncreasing ids → ((i : ℕ) → Contains ids i → i < id) → IsStrictlyIncreasing (ids ++ id ∷ [])
rising_push ids id rising below k less = by (cases_lt (k + 1) (length ids))
  where
    long : length (ids ++ id ∷ []) ≡ length ids + 1
    long = length-append ids (id ∷ [])

    at : k < length ids → get_or (ids ++ id ∷ []) k 0 ≡ get_or ids k 0
    at l = get_or_append_left ids (id ∷ []) 0 k l

    by : (k + 1 < length ids) ⊎ (length ids ≤ k + 1) → get_or (ids ++ id ∷ []) k 0 < get_or (ids ++ id ∷ []) (k + 1) 0
    by (inl l) = rw (at (omega (arith, long)), get_or_append_left ids (id ∷ []) 0 (k + 1) l) (rising k l)
    by (inr l) = rw (at (omega (arith, long, less)), get_or_push ids id 0 (k + 1) (omega (arith, long, less))) (below (get_or ids k 0) (Contains-get_or ids k 0 (omega (arith, long, less))))

-- with one more number, above all others
pub numbers_push : {Has Gets : ℕ → Type 0} (ids : List ℕ) (id : ℕ) → AreNumbersWith Has ids → ((i : ℕ) → Has i → i < id)
    → ((i : ℕ) → Has i → Gets i) → Gets id → ((i : ℕ) → Gets i → Has i ⊎ (id ≡ i)) → AreNumbersWith Gets (ids ++ id ∷ [])
numbers_push {Has} {Gets} ids id are below more here cases = record {
  rising = rising_push ids id are.rising (λ i c. below i ((are.each i).0 c));
  each = λ i. ((λ c. into i (Contains-push_cases ids id i c)), (λ h. back i (cases i h)));
}
  where
    into : (i : ℕ) → Contains ids i ⊎ (id ≡ i) → Gets i
    into i (inl c) = more i ((are.each i).0 c)
    into i (inr e) = subst Gets e here

    back : (i : ℕ) → Has i ⊎ (id ≡ i) → Contains (ids ++ id ∷ []) i
    back i (inl h) = Contains-append_left ids (id ∷ []) i ((are.each i).1 h)
    back i (inr e) = subst (Contains (ids ++ id ∷ [])) e (Contains-push ids id)

pub number_at : {Has : ℕ → Type 0} (ids : List ℕ) (m : ℕ) → AreNumbersWith Has ids → m < length ids → Has (get_or ids m 0)
number_at ids m are below = (are.each (get_or ids m 0)).0 (Contains-get_or ids m 0 below)
