-- visits and the words that spell them
use Rattle.std.proofs.Common.{◌≡◌, ◌≤◌, ◌<◌, ◌+◌, ◌*◌, ◌^◌, [], ◌∷◌, ℕ, zero, suc, pos, List, length, map, get_or, ap, sym, refl, ◌∙◌, arith}
use Rattle.std.specs.Prelude.{FitsSigned}
use Rattle.std.specs.Int.{w64}
use Rattle.std.specs.List.{AllByRecursion, flat_map}
use Rattle.std.specs.Fmt.{decimal, signed_decimal}
use Rattle.crew_terms.specs.Words.{Words}
use Rattle.crew_terms.specs.declared.Visit.{Visit}
use Rattle.crew_terms.specs.declared.TheConstants.{LAST_MINUTE}
use Rattle.dossier_terms.specs.Lines.{visit_words}
use Rattle.line_in.specs.Fields.{SpellVisits, visit_numbers}
use Rattle.line_in.proofs.Rests.{signed_map}

-- two words spell a visit
pub record SpellsVisit (tasks : ℕ) (a b : List ℕ) : Type 0 where
  pub visit : Visit
  pub known : visit.task < tasks
  pub start : visit.start ≤ LAST_MINUTE
  pub first : a ≡ decimal visit.task
  pub second : b ≡ decimal visit.start

-- a pair of words after the first pair
pub later : (a b : List ℕ) (ws : Words) (k : ℕ) → get_or (a ∷ b ∷ ws) (2 * suc k) [] ≡ get_or ws (2 * k) []
later a b ws k = ap (λ n. get_or (a ∷ b ∷ ws) n []) (let e : 2 * suc k ≡ suc (suc (2 * k)) = omega arith in e)

pub later_second : (a b : List ℕ) (ws : Words) (k : ℕ) → get_or (a ∷ b ∷ ws) (2 * suc k + 1) [] ≡ get_or ws (2 * k + 1) []
later_second a b ws k = ap (λ n. get_or (a ∷ b ∷ ws) n []) (let e : 2 * suc k + 1 ≡ suc (suc (2 * k + 1)) = omega arith in e)

pub visit_at : (tasks : ℕ) (vs : List Visit) → AllByRecursion (λ (v : Visit). v.task < tasks) vs → AllByRecursion (λ (v : Visit). v.start ≤ LAST_MINUTE) vs → (k : ℕ) → k < length vs
    → SpellsVisit tasks (get_or (flat_map visit_words vs) (2 * k) []) (get_or (flat_map visit_words vs) (2 * k + 1) [])
visit_at tasks [] known starts k h = absurd (omega arith)
visit_at tasks (v ∷ vs) known starts zero h = record { visit = v; known = known.0; start = starts.0; first = refl; second = refl }
visit_at tasks (v ∷ vs) known starts (suc k) h =
    let at = visit_at tasks vs known.1 starts.1 k (omega arith) in record {
      visit = at.visit;
      known = at.known;
      start = at.start;
      first = later (decimal v.task) (decimal v.start) (flat_map visit_words vs) k ∙ at.first;
      second = later_second (decimal v.task) (decimal v.start) (flat_map visit_words vs) k ∙ at.second;
    }

pub visits_all : (tasks m : ℕ) (ws : Words) → length ws ≡ 2 * m → ((k : ℕ) → k < m → SpellsVisit tasks (get_or ws (2 * k) []) (get_or ws (2 * k + 1) []))
    → (vs : List Visit) × SpellVisits tasks vs ws
visits_all tasks zero [] l h = ([], record { known = tt; starts = tt; spelled = refl })
visits_all tasks zero (w ∷ ws) l h = absurd (omega arith)
visits_all tasks (suc m) [] l h = absurd (omega arith)
visits_all tasks (suc m) (a ∷ []) l h = absurd (omega arith)
visits_all tasks (suc m) (a ∷ b ∷ ws) l h =
    let one = h 0 (omega arith) in
    let rest = visits_all tasks m ws (omega arith) (λ k less.
    let at = h (suc k) (omega arith) in record {
      visit = at.visit;
      known = at.known;
      start = at.start;
      first = sym (later a b ws k) ∙ at.first;
      second = sym (later_second a b ws k) ∙ at.second;
    }) in (
      one.visit ∷ rest.0,
      record {
        known = (one.known, rest.1.known);
        starts = (one.start, rest.1.starts);
        spelled = ap (λ x. x ∷ b ∷ ws) one.first ∙ ap (λ x. decimal one.visit.task ∷ x ∷ ws) one.second ∙ ap (λ xs. decimal one.visit.task ∷ decimal one.visit.start ∷ xs) rest.1.spelled;
      },
    )

pub visits_map : (vs : List Visit) → flat_map visit_words vs ≡ map decimal (flat_map visit_numbers vs)
visits_map [] = refl
visits_map (v ∷ vs) = ap (λ ws. decimal v.task ∷ decimal v.start ∷ ws) (visits_map vs)

pub visits_signed : (vs : List Visit) → flat_map visit_words vs ≡ map signed_decimal (map pos (flat_map visit_numbers vs))
visits_signed vs = visits_map vs ∙ signed_map (flat_map visit_numbers vs)

pub visits_fit : (tasks : ℕ) (vs : List Visit) → tasks < 2 ^ 32 → AllByRecursion (λ (v : Visit). v.task < tasks) vs → AllByRecursion (λ (v : Visit). v.start ≤ LAST_MINUTE) vs
    → AllByRecursion (FitsSigned w64) (map pos (flat_map visit_numbers vs))
visits_fit tasks [] few known starts = tt
visits_fit tasks (v ∷ vs) few known starts =
    let a = known.0 in
    let b = starts.0 in
    (record { sfits = omega arith }, (record { sfits = omega arith }, visits_fit tasks vs few known.1 starts.1))
