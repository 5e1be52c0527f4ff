-- runs of potentials and the words that spell them
use Rattle.std.proofs.Common.{◌≡◌, ◌≤◌, ◌<◌, ◌+◌, ◌*◌, [], ◌∷◌, ℕ, zero, suc, List, length, map, drop, length-drop, get_or, ap, sym, refl, ◌∙◌, arith}
use Rattle.std.proofs.lemmas.Int.{ints}
use Rattle.std.proofs.lemmas.List.{get_or-drop}
use Rattle.std.specs.Prelude.{FitsSigned, codes}
use Rattle.std.specs.Int.{w64}
use Rattle.std.specs.List.{AllByRecursion, flat_map}
use Rattle.std.specs.Fmt.{decimal, signed_decimal}
use Rattle.crew_terms.specs.Words.{Words}
use Rattle.crew_terms.specs.declared.TheConstants.{LAST_MINUTE}
use Rattle.dossier_terms.specs.Dossier.{IsSigned}
use Rattle.dossier_terms.specs.Counted.{runs_length}
use Rattle.dossier_terms.specs.Runs.{Run}
use Rattle.dossier_terms.specs.Lines.{run_words}
use Rattle.line_in.specs.Fields.{SpellsOne, SpellRuns, ArePairs, run_numbers}
use Rattle.line_in.proofs.Accepted.{cast}
use Rattle.line_in.proofs.Fields.{number_spelled}
use Rattle.line_in.proofs.PriceRanges.{potential_field, signed_in}
use Rattle.line_in.proofs.Names.{minute_field, spells}
use Rattle.line_in.proofs.Visits.{later, later_second}

-- two words spell a run
record SpellsRun (a b : List ℕ) : Type 0 where
  pub run : Run
  pub minute : run.from ≤ LAST_MINUTE
  pub number : IsSigned run.value
  pub first : a ≡ decimal run.from
  pub second : b ≡ signed_decimal run.value

run_at : (runs : List Run) → AllByRecursion (λ (r : Run). r.from ≤ LAST_MINUTE) runs → AllByRecursion (λ (r : Run). IsSigned r.value) runs → (k : ℕ) → k < length runs
    → SpellsRun (get_or (flat_map run_words runs) (2 * k) []) (get_or (flat_map run_words runs) (2 * k + 1) [])
run_at [] minutes numbers k h = absurd (omega arith)
run_at (r ∷ rs) minutes numbers zero h = record { run = r; minute = minutes.0; number = numbers.0; first = refl; second = refl }
run_at (r ∷ rs) minutes numbers (suc k) h =
    let at = run_at rs minutes.1 numbers.1 k (omega arith) in record {
      run = at.run;
      minute = at.minute;
      number = at.number;
      first = later (decimal r.from) (signed_decimal r.value) (flat_map run_words rs) k ∙ at.first;
      second = later_second (decimal r.from) (signed_decimal r.value) (flat_map run_words rs) k ∙ at.second;
    }

runs_all : (m : ℕ) (ws : Words) → length ws ≡ 2 * m → ((k : ℕ) → k < m → SpellsRun (get_or ws (2 * k) []) (get_or ws (2 * k + 1) [])) → (runs : List Run) × SpellRuns runs ws
runs_all zero [] l h = ([], record { minutes = tt; numbers = tt; spelled = refl })
runs_all zero (w ∷ ws) l h = absurd (omega arith)
runs_all (suc m) [] l h = absurd (omega arith)
runs_all (suc m) (a ∷ []) l h = absurd (omega arith)
runs_all (suc m) (a ∷ b ∷ ws) l h =
    let one = h 0 (omega arith) in
    let rest = runs_all m ws (omega arith) (λ k less.
    let at = h (suc k) (omega arith) in record {
      run = at.run;
      minute = at.minute;
      number = at.number;
      first = sym (later a b ws k) ∙ at.first;
      second = sym (later_second a b ws k) ∙ at.second;
    }) in (
      one.run ∷ rest.0,
      record {
        minutes = (one.minute, rest.1.minutes);
        numbers = (one.number, rest.1.numbers);
        spelled = ap (λ x. x ∷ b ∷ ws) one.first ∙ ap (λ x. decimal one.run.from ∷ x ∷ ws) one.second ∙ ap (λ xs. decimal one.run.from ∷ signed_decimal one.run.value ∷ xs) rest.1.spelled;
      },
    )

pub runs_signed : (runs : List Run) → flat_map run_words runs ≡ map signed_decimal (flat_map run_numbers runs)
runs_signed [] = refl
runs_signed (r ∷ rs) = ap (λ ws. decimal r.from ∷ signed_decimal r.value ∷ ws) (runs_signed rs)

pub runs_fit : (runs : List Run) → AllByRecursion (λ (r : Run). r.from ≤ LAST_MINUTE) runs → AllByRecursion (λ (r : Run). IsSigned r.value) runs → AllByRecursion (FitsSigned w64) (flat_map run_numbers runs)
runs_fit [] minutes numbers = tt
runs_fit (r ∷ rs) minutes numbers = let a = minutes.0 in (record { sfits = omega arith }, (numbers.0, runs_fit rs minutes.1 numbers.1))

-- ---- runs by their pairs of words

run_of : (a b : List ℕ) → SpellsOne minute_field a → SpellsOne potential_field b → SpellsRun a b
run_of a b one two =
    let from = number_spelled minute_field a refl (omega (arith, ints)) one in
    let most = from.1 in record {
      run = record { from = cast one.0; value = two.0 };
      minute = omega (arith, ints);
      number = two.1.fits;
      first = from.3;
      second = two.2;
    }

pub runs_of_pairs : (from m : ℕ) (ws : Words) → length ws ≡ from + 2 * m → ArePairs minute_field potential_field from ws → (runs : List Run) × SpellRuns runs (drop from ws)
runs_of_pairs from m ws all pairs =
    runs_all m (drop from ws) (let there = length-drop from ws in omega arith) (λ k less.
    let here = pairs k (omega arith) in
    let at = run_of (get_or ws (from + 2 * k) []) (get_or ws (from + 2 * k + 1) []) here.0 here.1 in
    let next : from + (2 * k + 1) ≡ from + 2 * k + 1 = omega arith in
    record {
      run = at.run;
      minute = at.minute;
      number = at.number;
      first = get_or-drop from ws (2 * k) [] ∙ at.first;
      second = get_or-drop from ws (2 * k + 1) [] ∙ ap (λ n. get_or ws n []) next ∙ at.second;
    })

pub pairs_of_runs : (from : ℕ) (ws : Words) (runs : List Run) → SpellRuns runs (drop from ws) → ArePairs minute_field potential_field from ws
pairs_of_runs from ws runs s = λ k there.
    let less : k < length runs = (let l = ap length s.spelled in omega (arith, l, runs_length runs, length-drop from ws)) in
    let at = run_at runs s.minutes s.numbers k less in
    let most = at.minute in
    let next : from + 2 * k + 1 ≡ from + (2 * k + 1) = omega arith in
    let first : get_or ws (from + 2 * k) [] ≡ decimal at.run.from = sym (get_or-drop from ws (2 * k) []) ∙ ap (λ xs. get_or xs (2 * k) []) s.spelled ∙ at.first in
    let second : get_or ws (from + 2 * k + 1) [] ≡ signed_decimal at.run.value =
    ap (λ n. get_or ws n []) next ∙ sym (get_or-drop from ws (2 * k + 1) []) ∙ ap (λ xs. get_or xs (2 * k + 1) []) s.spelled ∙ at.second in (
      spells minute_field (get_or ws (from + 2 * k) []) at.run.from (omega (arith, ints)) (omega (arith, ints)) (omega arith) first,
      (at.run.value, signed_in at.run.value at.number, second),
    )
