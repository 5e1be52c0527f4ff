-- the minutes of a state's instance, by the names of its places
use Rattle.std.proofs.Common.{◌≡◌, ◌≢◌, ℕ, List, [], Some, None, map, get_or, slice_get, option_map, refl, ap, ◌∙◌}
use Rattle.std.specs.Prelude.{bytes_eq, if◌then◌else◌, unwrap_or}
use Rattle.std.proofs.lemmas.Option.{slice_get-map, get_or_from_slice_get}
use Rattle.std.proofs.lemmas.Slice.Eq.{bytes_eq-Decides}
use Rattle.crew_terms.specs.Instance.{minutes_between}
use Rattle.day_terms.specs.State.{DayState}
use Rattle.day_terms.specs.Instances.{minutes_given, minutes_by_name, day_instance}
use Rattle.day_terms.proofs.Times.{Bytes, no_tie}

-- what a list that is mapped has at a place
mapped_at : {A B : Type 0} (f : A → B) (xs : List A) (k : ℕ) (x : A) (d : B) → slice_get xs k ≡ Some x → get_or (map f xs) k d ≡ f x
mapped_at f xs k x d e = get_or_from_slice_get (map f xs) k (f x) d (slice_get-map f xs k ∙ ap (option_map f) e)

module _ (s : DayState) where
  pub between : (a b : ℕ) (from to : Bytes) → slice_get s.places a ≡ Some from → slice_get s.places b ≡ Some to → minutes_between (day_instance s) a b ≡ minutes_by_name s from to
  between a b from to e f =
      ap (λ xs. get_or xs b 0) (mapped_at (λ from. map (minutes_by_name s from) s.places) s.places a from [] e)
      ∙ mapped_at (minutes_by_name s from) s.places b to 0 f

  pub given : (from to : Bytes) (minutes : ℕ) → minutes_given s from to ≡ Some minutes → minutes_by_name s from to ≡ minutes
  given from to minutes e = ap (λ o. unwrap_or o (if bytes_eq from to then 0 else unwrap_or s.default_minutes 0)) e

  pub same : (place : Bytes) → minutes_given s place place ≡ None → minutes_by_name s place place ≡ 0
  same place e =
      ap (λ o. unwrap_or o (if bytes_eq place place then 0 else unwrap_or s.default_minutes 0)) e
      ∙ ap (λ t. if t then 0 else unwrap_or s.default_minutes 0) ((bytes_eq-Decides place place).1 refl)

  pub others : (from to : Bytes) (minutes : ℕ) → minutes_given s from to ≡ None → from ≢ to → s.default_minutes ≡ Some minutes → minutes_by_name s from to ≡ minutes
  others from to minutes e differ default =
      ap (λ o. unwrap_or o (if bytes_eq from to then 0 else unwrap_or s.default_minutes 0)) e
      ∙ ap (λ t. if t then 0 else unwrap_or s.default_minutes 0) (no_tie from to differ)
      ∙ ap (λ o. unwrap_or o 0) default
