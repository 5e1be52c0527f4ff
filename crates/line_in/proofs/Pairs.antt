-- visits by their pairs of words
use Rattle.std.proofs.Common.{◌≡◌, ◌<◌, ◌+◌, ◌*◌, ◌^◌, ◌+ℤ◌, [], ℕ, ℤ, pos, List, length, drop, length-drop, get_or, ap, sym, refl, ◌∙◌, arith}
use Rattle.std.proofs.lemmas.Int.{ints}
use Rattle.std.proofs.lemmas.List.{get_or-drop}
use Rattle.std.specs.Fmt.{decimal}
use Rattle.crew_terms.specs.Words.{Words}
use Rattle.crew_terms.specs.declared.Visit.{Visit}
use Rattle.dossier_terms.specs.Counted.{visits_length}
use Rattle.line_in.specs.Fields.{SpellsOne, SpellVisits, ArePairs}
use Rattle.line_in.proofs.Accepted.{cast, number_field}
use Rattle.line_in.proofs.Fields.{number_spelled}
use Rattle.line_in.proofs.Names.{minute_field, spells}
use Rattle.line_in.proofs.Visits.{SpellsVisit, visit_at, visits_all}

visit_of : (tasks : ℕ) (last : ℤ) → last +ℤ pos 1 ≡ pos tasks → (a b : List ℕ) → SpellsOne (number_field 0 last) a → SpellsOne minute_field b → SpellsVisit tasks a b
visit_of tasks last e a b one two =
    let task = number_spelled (number_field 0 last) a refl (omega (arith, ints)) one in
    let start = number_spelled minute_field b refl (omega (arith, ints)) two in
    let below = task.1 in
    let most = start.1 in record {
      visit = record { task = cast one.0; start = cast two.0 };
      known = omega (arith, ints);
      start = omega (arith, ints);
      first = task.3;
      second = start.3;
    }

pub visits_of : (tasks from m : ℕ) (last : ℤ) (ws : Words) → last +ℤ pos 1 ≡ pos tasks → length ws ≡ from + 2 * m → ArePairs (number_field 0 last) minute_field from ws
    → (vs : List Visit) × SpellVisits tasks vs (drop from ws)
visits_of tasks from m last ws e all pairs =
    visits_all tasks m (drop from ws) (let there = length-drop from ws in omega arith) (λ k less.
    let here = pairs k (omega arith) in
    let at = visit_of tasks last e (get_or ws (from + 2 * k) []) (get_or ws (from + 2 * k + 1) []) here.0 here.1 in
    let next : from + (2 * k + 1) ≡ from + 2 * k + 1 = omega arith in
    record {
      visit = at.visit;
      known = at.known;
      start = at.start;
      first = get_or-drop from ws (2 * k) [] ∙ at.first;
      second = get_or-drop from ws (2 * k + 1) [] ∙ ap (λ n. get_or ws n []) next ∙ at.second;
    })

pub pairs_of_visits : (tasks from : ℕ) (last : ℤ) (ws : Words) (vs : List Visit) → last +ℤ pos 1 ≡ pos tasks → tasks < 2 ^ 32 → SpellVisits tasks vs (drop from ws)
    → ArePairs (number_field 0 last) minute_field from ws
pairs_of_visits tasks from last ws vs e few s = λ k there.
    let less : k < length vs = (let l = ap length s.spelled in omega (arith, l, visits_length vs, length-drop from ws)) in
    let at = visit_at tasks vs s.known s.starts k less in
    let below = at.known in
    let most = at.start in
    let next : from + 2 * k + 1 ≡ from + (2 * k + 1) = omega arith in
    let first : get_or ws (from + 2 * k) [] ≡ decimal at.visit.task = sym (get_or-drop from ws (2 * k) []) ∙ ap (λ xs. get_or xs (2 * k) []) s.spelled ∙ at.first in
    let second : get_or ws (from + 2 * k + 1) [] ≡ decimal at.visit.start =
    ap (λ n. get_or ws n []) next ∙ sym (get_or-drop from ws (2 * k + 1) []) ∙ ap (λ xs. get_or xs (2 * k + 1) []) s.spelled ∙ at.second in (
      spells (number_field 0 last) (get_or ws (from + 2 * k) []) at.visit.task (omega (arith, ints)) (omega (arith, ints)) (omega arith) first,
      spells minute_field (get_or ws (from + 2 * k + 1) []) at.visit.start (omega (arith, ints)) (omega (arith, ints)) (omega arith) second,
    )
