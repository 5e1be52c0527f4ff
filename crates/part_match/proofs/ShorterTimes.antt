-- limits of travel times, which hold of all of them where they hold of those between places
use Rattle.std.proofs.Common.{◌≡◌, ◌≤◌, ◌<◌, ◌⊎◌, inl, inr, ◌∙◌, ℕ, List, [], length, get_or, ap, arith}
use Rattle.std.proofs.lemmas.Bool.{cases_lt}
use Rattle.std.proofs.lemmas.List.{get_or_past}
use Rattle.crew_terms.specs.Instance.{Instance, minutes_between}
use Rattle.crew_terms.specs.Rules.{IsInstance}

module _ (j : Instance) (is : IsInstance j) where
  -- no minutes are known from a number that is no place's
  from_past : (a b : ℕ) → length j.places ≤ a → minutes_between j a b ≡ 0
  from_past a b le =
      let row : get_or j.travel a [] ≡ [] = get_or_past j.travel a [] (let r = is.times.rows in omega arith) in
      ap (λ (ts : List ℕ). get_or ts b 0) row ∙ get_or_past [] b 0 (omega arith)

  -- nor to one
  to_past : (a b : ℕ) → length j.places ≤ b → minutes_between j a b ≡ 0
  to_past a b le = by (cases_lt a (length j.places))
    where
      by : (a < length j.places) ⊎ (length j.places ≤ a) → minutes_between j a b ≡ 0
      by (inl l) =
          let long : length (get_or j.travel a []) ≡ length j.places = is.times.columns a [] (let r = is.times.rows in omega arith) in
          get_or_past (get_or j.travel a []) b 0 (omega arith)
      by (inr m) = from_past a b m

  -- where the minutes from one place to each place keep a limit, those to any number do
  pub to_all : (limit : ℕ → ℕ) (a n : ℕ) → length j.places ≤ n → ((b : ℕ) → b < n → minutes_between j a b ≤ limit b)
      → (b : ℕ) → minutes_between j a b ≤ limit b
  to_all limit a n le h b = by (cases_lt b n)
    where
      by : (b < n) ⊎ (n ≤ b) → minutes_between j a b ≤ limit b
      by (inl l) = h b l
      by (inr m) = let none : minutes_between j a b ≡ 0 = to_past a b (omega arith) in omega arith

  -- where the minutes from each place keep a limit, those from any number do
  pub from_all : (limit : ℕ → ℕ → ℕ) (n : ℕ) → length j.places ≤ n → ((a b : ℕ) → a < n → minutes_between j a b ≤ limit a b)
      → (a b : ℕ) → minutes_between j a b ≤ limit a b
  from_all limit n le h a b = by (cases_lt a n)
    where
      by : (a < n) ⊎ (n ≤ a) → minutes_between j a b ≤ limit a b
      by (inl l) = h a b l
      by (inr m) = let none : minutes_between j a b ≡ 0 = from_past a b (omega arith) in omega arith
