-- what is looked for, by its place
use Rattle.std.proofs.Common.{◌≡◌, ◌<◌, ℕ, zero, suc, Bool, true, false, List, [], ◌∷◌, Some, None, length, map, get_or, arith, refl, ap, ◌∙◌}
use Rattle.std.specs.Prelude.{find, flat_map}
use Rattle.std.specs.Option.{option_or}
use Rattle.std.proofs.lemmas.List.Folds.{find-append}

module _ {A B : Type 0} (p : B → Bool) (g : A → List B) where
  -- no list has one that passes
  pub none_in_lists : (xs : List A) (d : A) → ((i : ℕ) → i < length xs → find p (g (get_or xs i d)) ≡ None) → find p (flat_map g xs) ≡ None
  none_in_lists [] d none = refl
  none_in_lists (x ∷ xs) d none =
      find-append p (g x) (flat_map g xs)
      ∙ ap (λ o. option_or o (find p (flat_map g xs))) (none 0 (omega arith))
      ∙ none_in_lists xs d (λ i l. none (suc i) (omega arith))

  -- list a is the first that has one
  pub first_in_lists : (xs : List A) (d : A) (a : ℕ) (y : B) → a < length xs → ((i : ℕ) → i < a → find p (g (get_or xs i d)) ≡ None) → find p (g (get_or xs a d)) ≡ Some y
      → find p (flat_map g xs) ≡ Some y
  first_in_lists [] d a y l none found = absurd (omega arith)
  first_in_lists (x ∷ xs) d zero y l none found = find-append p (g x) (flat_map g xs) ∙ ap (λ o. option_or o (find p (flat_map g xs))) found
  first_in_lists (x ∷ xs) d (suc a) y l none found =
      find-append p (g x) (flat_map g xs)
      ∙ ap (λ o. option_or o (find p (flat_map g xs))) (none 0 (omega arith))
      ∙ first_in_lists xs d a y (omega arith) (λ i k. none (suc i) (omega arith)) found

module _ {A B : Type 0} (p : B → Bool) (f : A → B) where
  -- none passes
  pub none_passes : (xs : List A) (d : A) → ((i : ℕ) → i < length xs → p (f (get_or xs i d)) ≡ false) → find p (map f xs) ≡ None
  none_passes [] d none = refl
  none_passes (x ∷ xs) d none =
      let here = none 0 (omega arith) in
      rw here (none_passes xs d (λ i l. none (suc i) (omega arith)))

  -- that at b is the first that passes
  pub first_passes : (xs : List A) (d : A) (b : ℕ) → b < length xs → ((i : ℕ) → i < b → p (f (get_or xs i d)) ≡ false) → p (f (get_or xs b d)) ≡ true
      → find p (map f xs) ≡ Some (f (get_or xs b d))
  first_passes [] d b l none passes = absurd (omega arith)
  first_passes (x ∷ xs) d zero l none passes = rw passes refl
  first_passes (x ∷ xs) d (suc b) l none passes =
      let here = none 0 (omega arith) in
      rw here (first_passes xs d b (omega arith) (λ i k. none (suc i) (omega arith)) passes)
