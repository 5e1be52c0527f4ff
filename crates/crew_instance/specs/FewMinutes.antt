-- laws of minutes: they are few where those that were given are, and the default is
use Rattle.std.proofs.Common.{◌≡◌, ◌≤◌, ◌==◌, ℕ, Bool, true, false, Option, None, Some, length, arith, if◌then◌else◌}
use Rattle.std.specs.Prelude.{IfSome, unwrap_or}
use Rattle.std.specs.List.{All, range_with_len}
use Rattle.std.proofs.lemmas.List.Elements.{All-map}
use Rattle.std.proofs.lemmas.List.FromFn.{length-map-range_with_len}
use Rattle.crew_terms.specs.Rules.{AreTimes}
use Rattle.crew_terms.specs.declared.TheConstants.{LAST_MINUTE}
use Rattle.crew_instance.specs.Times.{Times, minutes_of, minutes_from, all_minutes}

abbrev pub Few : Option ℕ → Type 0
Few given = IfSome given (λ m. m ≤ LAST_MINUTE)

few_by : (given : Option ℕ) (same : Bool) (default : Option ℕ) → Few given → Few default → unwrap_or given (if same then 0 else unwrap_or default 0) ≤ LAST_MINUTE
few_by (Some m) same default h k = h
few_by None true default h k = omega arith
few_by None false (Some m) h k = k
few_by None false None h k = omega arith

module _ (times : Times) (given : (a b : ℕ) → Few (times.given a b)) (default : Few times.default_minutes) where
  few : (a b : ℕ) → minutes_of times a b ≤ LAST_MINUTE
  few a b = few_by (times.given a b) (a == b) times.default_minutes (given a b) default

  pub are_times : AreTimes times.places (all_minutes times)
  are_times = record {
    rows = length-map-range_with_len (λ a. minutes_from times a) 0 times.places;
    columns = All-map (λ row. length row ≡ times.places) (λ a. minutes_from times a) (range_with_len 0 times.places) (λ k x h. length-map-range_with_len (λ b. minutes_of times _ b) 0 times.places);
    minutes = All-map (All (λ t. t ≤ LAST_MINUTE)) (λ a. minutes_from times a) (range_with_len 0 times.places) (λ k x h. All-map (λ t. t ≤ LAST_MINUTE) (λ b. minutes_of times _ b) (range_with_len 0 times.places) (λ i y l. few _ _));
  }
