-- a state's travel times by number are those by name
use Rattle.std.proofs.Common.{◌≡◌, ◌≢◌, ◌≤◌, ◌<◌, ◌==◌, ◌&&◌, ◌⊎◌, ℕ, Bool, true, false, not, inl, inr, List, [], Option, Some, None, is_none, length, map, get_or, if◌then◌else◌, arith, refl, sym, ap, ◌∙◌}
use Rattle.std.specs.Prelude.{AllPairs, bytes_eq, find, unwrap_or}
use Rattle.std.proofs.lemmas.Bool.{cases_lt, eq-eqb, eqb-true}
use Rattle.std.proofs.lemmas.List.{ext_get_or, get_or-map, get_or_default, length-map}
use Rattle.std.proofs.lemmas.List.FromFn.{get_or-map-range_with_len, length-map-range_with_len}
use Rattle.std.proofs.lemmas.Slice.Eq.{bytes_eq-Decides}
use Rattle.crew_instance.specs.Times.{IsMissing, IsFirstMissing, all_minutes, minutes_from, minutes_of}
use Rattle.day_terms.specs.ByTest.{by_test}
use Rattle.day_terms.specs.State.{DayState}
use Rattle.day_terms.specs.Instances.{day_instance, minutes_by_name, minutes_given}
use Rattle.day_terms.specs.Rounds.{first_missing, lacks_time}
use Rattle.flight_changes.specs.Times.{known_times}
use Rattle.flight_changes.proofs.FindAt.{first_in_lists, first_passes, none_in_lists, none_passes}
use Rattle.flight_changes.proofs.Keyed.{Bytes}

-- the tests of a missing time, where all pass
record Pass (a b c : Bool) : Type 0 where
  pub first : a ≡ false
  pub second : b ≡ true
  pub third : c ≡ true

all_pass : (a b c : Bool) → not a && b && c ≡ true → Pass a b c
all_pass true b c e = cc
all_pass false false c e = cc
all_pass false true false e = cc
all_pass false true true e = record { first = refl; second = refl; third = refl }

none_of : {X : Type 0} (o : Option X) → is_none o ≡ true → o ≡ None
none_of None e = refl
none_of (Some x) e = cc

-- the name that is read at a place
pub place_read : (s : DayState) (places : List Bytes) (a : ℕ) (name : Bytes) → places ≡ s.places → name ≡ get_or places a name → a < length s.places → name ≡ get_or s.places a []
place_read s places a name same read below = read ∙ ap (λ p. get_or p a name) same ∙ get_or_default s.places a name [] below

pub pair_read : (s : DayState) (places : List Bytes) (a b : ℕ) (from to : Bytes) → places ≡ s.places → from ≡ get_or places a from → to ≡ get_or places b to
    → a < length s.places → b < length s.places → ◌≡◌ {A = Option (Bytes × Bytes)} (Some (from, to)) (Some (get_or s.places a [], get_or s.places b []))
pair_read s places a b from to same read_from read_to l m =
    ap (λ name. Some (name, to)) (place_read s places a from same read_from l)
    ∙ ap (λ name. Some (get_or s.places a [], name)) (place_read s places b to same read_to m)

module _ (s : DayState) (names : AllPairs (λ a b. a ≢ b) s.places) where
  abbrev pub place : ℕ → Bytes
  place a = get_or s.places a []

  -- places with other numbers have other names
  other : (a b : ℕ) → a < length s.places → b < length s.places → a ≢ b → place a ≢ place b
  other a b l m differ same = elim (cases_lt a b) [
    | inl before ↦ names a b [] before m same
    | inr after ↦ names b a [] (omega arith) l (sym same)
  ]

  same_place : (a b : ℕ) → a < length s.places → b < length s.places → bytes_eq (place a) (place b) ≡ (a == b)
  same_place a b l m =
      by_test (a == b)
      (λ t. (bytes_eq-Decides (place a) (place b)).1 (ap place (eqb-true a b t)) ∙ sym t)
      (λ f.
      by_test (bytes_eq (place a) (place b))
      (λ t. absurd (other a b l m (λ e. let u = eq-eqb a b e in cc) ((bytes_eq-Decides (place a) (place b)).0 t)))
      (λ t. t ∙ sym f))

  minutes_same : (a b : ℕ) → a < length s.places → b < length s.places → minutes_of (known_times s) a b ≡ minutes_by_name s (place a) (place b)
  minutes_same a b l m =
      ap (λ e. unwrap_or (minutes_given s (place a) (place b)) (if e then 0 else unwrap_or s.default_minutes 0)) (sym (same_place a b l m))

  row_same : (a : ℕ) → a < length s.places → minutes_from (known_times s) a ≡ map (minutes_by_name s (place a)) s.places
  row_same a l =
      let n = length-map-range_with_len (λ b. minutes_of (known_times s) a b) 0 (length s.places) in
      let k = length-map s.places (minutes_by_name s (place a)) in
      ext_get_or 0 (minutes_from (known_times s) a) (map (minutes_by_name s (place a)) s.places) (n ∙ sym k) (λ b m.
      let below : b < length s.places = omega arith in
      get_or-map-range_with_len (λ b. minutes_of (known_times s) a b) 0 (length s.places) b b 0 below (omega arith)
      ∙ minutes_same a b l below
      ∙ sym (get_or-map (minutes_by_name s (place a)) s.places b [] 0 below))

  -- the minutes of the state's instance
  pub rows_same : all_minutes (known_times s) ≡ (day_instance s).travel
  rows_same =
      let by_name : Bytes → List ℕ = λ from. map (minutes_by_name s from) s.places in
      let n = length-map-range_with_len (λ a. minutes_from (known_times s) a) 0 (length s.places) in
      let k = length-map s.places by_name in
      ext_get_or [] (all_minutes (known_times s)) (map by_name s.places) (n ∙ sym k) (λ a m.
      let below : a < length s.places = omega arith in
      get_or-map-range_with_len (λ a. minutes_from (known_times s) a) 0 (length s.places) a a [] below (omega arith)
      ∙ row_same a below
      ∙ sym (get_or-map by_name s.places a [] [] below))

  missing_if : (a b : ℕ) → a < length s.places → b < length s.places → lacks_time s (place a, place b) ≡ true → IsMissing (known_times s) a b
  missing_if a b l m lacks =
      let pass = all_pass (bytes_eq (place a) (place b)) (is_none (minutes_given s (place a) (place b))) (is_none s.default_minutes) lacks in
      record {
        from = l;
        to = m;
        differ = λ e. let t = (bytes_eq-Decides (place a) (place b)).1 (ap place e) in let f = pass.first in cc;
        time = none_of (minutes_given s (place a) (place b)) pass.second;
        no_default = none_of s.default_minutes pass.third;
      }

  -- a time that isn't missing
  stands : (a b : ℕ) → a < length s.places → b < length s.places → (IsMissing (known_times s) a b → ⊥) → lacks_time s (place a, place b) ≡ false
  stands a b l m not_missing = by_test (lacks_time s (place a, place b)) (λ t. absurd (not_missing (missing_if a b l m t))) (λ f. f)

  lacks_if : (a b : ℕ) → IsMissing (known_times s) a b → lacks_time s (place a, place b) ≡ true
  lacks_if a b is =
      let differ : bytes_eq (place a) (place b) ≡ false = by_test (bytes_eq (place a) (place b)) (λ t. absurd (other a b is.from is.to is.differ ((bytes_eq-Decides (place a) (place b)).0 t))) (λ f. f) in
      ap (λ e. not e && is_none (minutes_given s (place a) (place b)) && is_none s.default_minutes) differ
      ∙ ap (λ o. is_none o && is_none s.default_minutes) is.time
      ∙ ap is_none is.no_default

  abbrev ways : Bytes → List (Bytes × Bytes)
  ways from = map (λ to. (from, to)) s.places

  -- no time is missing from a
  whole_row : (a : ℕ) → a < length s.places → ((b : ℕ) → IsMissing (known_times s) a b → ⊥) → find (lacks_time s) (ways (place a)) ≡ None
  whole_row a l none = none_passes (lacks_time s) (λ to. (place a, to)) s.places [] (λ b m. stands a b l m (none b))

  pub none_missing : ((a b : ℕ) → IsMissing (known_times s) a b → ⊥) → first_missing s ≡ None
  none_missing none = none_in_lists (lacks_time s) ways s.places [] (λ a l. whole_row a l (none a))

  pub found_missing : (a b : ℕ) → IsFirstMissing (known_times s) a b → first_missing s ≡ Some (place a, place b)
  found_missing a b is =
      let from = is.missing.from in
      first_in_lists (lacks_time s) ways s.places [] a (place a, place b) from
      (λ x l. whole_row x (omega arith) (λ y missing. before x y l (is.first x y missing)))
      (first_passes (lacks_time s) (λ to. (place a, to)) s.places [] b is.missing.to
      (λ y l. let to = is.missing.to in stands a y from (omega arith) (λ missing. earlier y l (is.first a y missing)))
      (lacks_if a b is.missing))
    where
      before : (x y : ℕ) → x < a → (a < x) ⊎ (a ≡ x) × (b ≤ y) → ⊥
      before x y l (inl after) = omega arith
      before x y l (inr (same, late)) = omega arith

      earlier : (y : ℕ) → y < b → (a < a) ⊎ (a ≡ a) × (b ≤ y) → ⊥
      earlier y l (inl after) = omega arith
      earlier y l (inr (same, late)) = omega arith
