-- each kind of line is a line
use Rattle.std.proofs.Common.{◌≤◌, ◌<◌, ◌+◌, ◌*◌, [], ◌∷◌, ℕ, ℤ, List, length, refl, arith}
use Rattle.std.specs.Prelude.{codes, map}
use Rattle.std.specs.List.{AllByRecursion, flat_map}
use Rattle.std.specs.Fmt.{decimal, signed_decimal}
use Rattle.std.proofs.lemmas.List.{length-map}
use Rattle.crew_terms.specs.Name.{IsName}
use Rattle.crew_terms.specs.Words.{Words}
use Rattle.crew_terms.specs.Plan.{Job}
use Rattle.crew_terms.specs.declared.TheConstants.{MOST_PLACES, MOST_TEAMS, MOST_TASKS, SKILLS, LAST_MINUTE}
use Rattle.crew_terms.specs.declared.TreeCounts.{TreeCounts}
use Rattle.crew_terms.specs.declared.Team.{Team}
use Rattle.crew_terms.specs.declared.Task.{Task}
use Rattle.crew_terms.specs.declared.Visit.{Visit}
use Rattle.dossier_terms.specs.declared.DossierForm.{DossierForm}
use Rattle.dossier_terms.specs.declared.DossierForm.TheVariants.{One, Two}
use Rattle.dossier_terms.specs.declared.Size.{Size}
use Rattle.crew_terms.specs.Limits.{Route}
use Rattle.dossier_terms.specs.Lines.{form_word, form_line, size_line, place_line, travel_line, team_words, task_words, pool_line, route_line, visit_words, plan_line, do_line, tree_line, window_line, pair_line, bare_line, open_line, closed_line, price_line, extra_line, worth_line, phi_line, end_line, frozen_line, keep_line, why_none_line, run_words, steps_line}
use Rattle.dossier_terms.specs.Runs.{Run}
use Rattle.dossier_terms.specs.Counted.{IsWide, visits_length, runs_length}
use Rattle.text_laws.specs.Texts.{AreLine}
use Rattle.text_laws.proofs.Lists.{rec-map}
use Rattle.text_laws.proofs.Short.{IsShort, short_line, fixed, number, small_number, signed_number, name}

-- fits 64 bits
abbrev pub IsFew : ℕ → Type 0
IsFew n = n < 18446744073709551616

few : (n : ℕ) → IsFew n → IsShort 20 (decimal n)
few n l = number 20 n (omega arith) l

few_32 : (n : ℕ) → IsFew n → IsShort 32 (decimal n)
few_32 n l = number 32 n (omega arith) l

-- a first word, numbers, and no more
fixed_words : (n : ℕ) (w : List ℕ) (ws : Words) → n ≤ 6241 → length (w ∷ ws) ≤ n → AllByRecursion (IsShort 20) (w ∷ ws) → AreLine (w ∷ ws)
fixed_words n w ws room count h = short_line 20 6241 w ws (omega arith) (omega arith) h

form_word_short : (form : DossierForm) → IsShort 20 (form_word form)
form_word_short One = fixed 20 (codes "1") refl (omega arith)
form_word_short Two = fixed 20 (codes "2") refl (omega arith)

pub form_is_line : (form : DossierForm) → AreLine (form_line form)
form_is_line form = fixed_words 3 (codes "crew") _ (omega arith) (omega arith)
    (fixed 20 (codes "crew") refl (omega arith), (fixed 20 (codes "dossier") refl (omega arith), (form_word_short form, tt)))

pub size_is_line : (z : Size) → IsFew z.teams → IsFew z.tasks → IsFew z.places → IsFew z.nodes → AreLine (size_line z)
size_is_line z a b c d = fixed_words 5 (codes "size") _ (omega arith) (omega arith)
    (fixed 20 (codes "size") refl (omega arith), (few z.teams a, (few z.tasks b, (few z.places c, (few z.nodes d, tt)))))

pub place_is_line : (word : List ℕ) → IsName word → AreLine (place_line word)
place_is_line word h = short_line 32 2 (codes "place") (word ∷ []) (omega arith) (omega arith) (fixed 32 (codes "place") refl (omega arith), (name word h, tt))

pub travel_is_line : (row : List ℕ) → length row ≤ MOST_PLACES → AllByRecursion IsFew row → AreLine (travel_line row)
travel_is_line row few_places h = fixed_words (MOST_PLACES + 1) (codes "travel") (map decimal row) (omega arith) (omega (arith, length-map row decimal))
    (fixed 20 (codes "travel") refl (omega arith), rec-map IsFew (IsShort 20) decimal few row h)

pub team_is_line : (p : Team × List ℕ) → IsName p.0.name → IsFew p.0.home → IsFew p.0.from → IsFew p.0.until → length p.1 ≤ SKILLS → AllByRecursion IsFew p.1 → AreLine (team_words p)
team_is_line p named a b c count h = short_line 32 (SKILLS + 5) (codes "team") _ (omega arith) (omega (arith, length-map p.1 decimal))
    (fixed 32 (codes "team") refl (omega arith), (name p.0.name named, (few_32 p.0.home a, (few_32 p.0.from b, (few_32 p.0.until c, rec-map IsFew (IsShort 32) decimal few_32 p.1 h)))))

pub task_is_line : (p : Task × List ℕ) → IsName p.0.name → IsFew p.0.place → IsFew p.0.earliest → IsFew p.0.latest → IsFew p.0.minutes → IsFew p.0.teams
    → length p.1 ≤ SKILLS → AllByRecursion IsFew p.1 → AreLine (task_words p)
task_is_line p named a b c d e count h = short_line 32 (SKILLS + 7) (codes "task") _ (omega arith) (omega (arith, length-map p.1 decimal)) (
  fixed 32 (codes "task") refl (omega arith),
  (
    name p.0.name named,
    (
      few_32 p.0.place a,
      (
        few_32 p.0.earliest b,
        (
          few_32 p.0.latest c,
          (
            few_32 p.0.minutes d,
            (
              few_32 p.0.teams e,
              rec-map IsFew (IsShort 32) decimal few_32 p.1 h,
            ),
          ),
        ),
      ),
    ),
  ),
)

pub pool_is_line : (kept columns : ℕ) → IsFew kept → IsFew columns → AreLine (pool_line kept columns)
pool_is_line kept columns a b = fixed_words 3 (codes "pool") _ (omega arith) (omega arith) (fixed 20 (codes "pool") refl (omega arith), (few kept a, (few columns b, tt)))

-- both numbers of a visit have at most four digits
pub record IsSmall (v : Visit) : Type 0 where
  pub task : v.task < 10000
  pub start : v.start < 10000

visits_short : (vs : List Visit) → AllByRecursion IsSmall vs → AllByRecursion (IsShort 5) (flat_map visit_words vs)
visits_short [] h = tt
visits_short (v ∷ vs) h = (small_number 5 v.task (omega arith) h.0.task, (small_number 5 v.start (omega arith) h.0.start, visits_short vs h.1))

pub route_is_line : (r : Route) → r.team < 10000 → length r.visits ≤ LAST_MINUTE + 1 → AllByRecursion IsSmall r.visits → AreLine (route_line r)
route_is_line r team count h = short_line 5 (2 * LAST_MINUTE + 4) (codes "route") _ (omega arith) (omega (arith, visits_length r.visits))
    (fixed 5 (codes "route") refl (omega arith), (small_number 5 r.team (omega arith) team, visits_short r.visits h))

pub plan_is_line : (u l : ℕ) → IsFew u → IsFew l → AreLine (plan_line u l)
plan_is_line u l a b = fixed_words 3 (codes "plan") _ (omega arith) (omega arith) (fixed 20 (codes "plan") refl (omega arith), (few u a, (few l b, tt)))

-- the words of a job are few numbers
pub record IsFewJob (p : ℕ × Job) : Type 0 where
  pub task : IsFew p.0
  pub start : IsFew p.1.start
  pub count : length p.1.teams ≤ MOST_TEAMS
  pub teams : AllByRecursion IsFew p.1.teams

pub do_is_line : (p : ℕ × Job) → IsFewJob p → AreLine (do_line p)
do_is_line p h = let n = h.count in fixed_words (MOST_TEAMS + 3) (codes "do") _ (omega arith) (omega (arith, length-map p.1.teams decimal))
    (fixed 20 (codes "do") refl (omega arith), (few p.0 h.task, (few p.1.start h.start, rec-map IsFew (IsShort 20) decimal few p.1.teams h.teams)))

pub frozen_is_line : (count : ℕ) → IsFew count → AreLine (frozen_line count)
frozen_is_line count l = fixed_words 2 (codes "frozen") _ (omega arith) (omega arith) (fixed 20 (codes "frozen") refl (omega arith), (few count l, tt))

pub keep_is_line : (p : ℕ × Job) → IsFewJob p → AreLine (keep_line p)
keep_is_line p h = let n = h.count in fixed_words (MOST_TEAMS + 3) (codes "keep") _ (omega arith) (omega (arith, length-map p.1.teams decimal))
    (fixed 20 (codes "keep") refl (omega arith), (few p.0 h.task, (few p.1.start h.start, rec-map IsFew (IsShort 20) decimal few p.1.teams h.teams)))

pub tree_is_line : (c : TreeCounts) → IsFew c.splits → IsFew c.closed → IsFew c.left_open → IsFew c.depth → AreLine (tree_line c)
tree_is_line c k l m n = fixed_words 5 (codes "tree") _ (omega arith) (omega arith)
    (fixed 20 (codes "tree") refl (omega arith), (few c.splits k, (few c.closed l, (few c.left_open m, (few c.depth n, tt)))))

pub window_is_line : (j cut : ℕ) → IsFew j → IsFew cut → AreLine (window_line j cut)
window_is_line j cut a b = fixed_words 3 (codes "window") _ (omega arith) (omega arith) (fixed 20 (codes "window") refl (omega arith), (few j a, (few cut b, tt)))

pub pair_is_line : (k j : ℕ) → IsFew k → IsFew j → AreLine (pair_line k j)
pair_is_line k j a b = fixed_words 3 (codes "pair") _ (omega arith) (omega arith) (fixed 20 (codes "pair") refl (omega arith), (few k a, (few j b, tt)))

pub why_none_is_line : AreLine why_none_line
why_none_is_line = fixed_words 2 (codes "why") _ (omega arith) (omega arith) (fixed 20 (codes "why") refl (omega arith), (fixed 20 (codes "none") refl (omega arith), tt))

leaf_is_line : (word : List ℕ) → IsShort 20 word → AreLine (codes "leaf" ∷ word ∷ [])
leaf_is_line word h = fixed_words 2 (codes "leaf") (word ∷ []) (omega arith) (omega arith) (fixed 20 (codes "leaf") refl (omega arith), (h, tt))

pub bare_is_line : AreLine bare_line
bare_is_line = leaf_is_line (codes "bare") (fixed 20 (codes "bare") refl (omega arith))

pub open_is_line : AreLine open_line
open_is_line = leaf_is_line (codes "open") (fixed 20 (codes "open") refl (omega arith))

pub closed_is_line : AreLine closed_line
closed_is_line = leaf_is_line (codes "closed") (fixed 20 (codes "closed") refl (omega arith))

pub price_is_line : (vs : List ℤ) → length vs ≤ MOST_TASKS → AllByRecursion IsWide vs → AreLine (price_line vs)
price_is_line vs count h = fixed_words (MOST_TASKS + 1) (codes "price") _ (omega arith) (omega (arith, length-map vs signed_decimal))
    (fixed 20 (codes "price") refl (omega arith), rec-map IsWide (IsShort 20) signed_decimal signed_number vs h)

pub extra_is_line : (j : ℕ) (vs : List ℤ) → IsFew j → length vs ≤ MOST_TEAMS → AllByRecursion IsWide vs → AreLine (extra_line j vs)
extra_is_line j vs l count h = fixed_words (MOST_TEAMS + 2) (codes "extra") _ (omega arith) (omega (arith, length-map vs signed_decimal))
    (fixed 20 (codes "extra") refl (omega arith), (few j l, rec-map IsWide (IsShort 20) signed_decimal signed_number vs h))

pub worth_is_line : (v : ℤ) → IsWide v → AreLine (worth_line v)
worth_is_line v h = fixed_words 2 (codes "worth") _ (omega arith) (omega arith) (fixed 20 (codes "worth") refl (omega arith), (signed_number v h, tt))

pub phi_is_line : (j : ℕ) (vs : List ℤ) → IsFew j → length vs ≤ LAST_MINUTE + 1 → AllByRecursion IsWide vs → AreLine (phi_line j vs)
phi_is_line j vs l count h = fixed_words (LAST_MINUTE + 3) (codes "phi") _ (omega arith) (omega (arith, length-map vs signed_decimal))
    (fixed 20 (codes "phi") refl (omega arith), (few j l, rec-map IsWide (IsShort 20) signed_decimal signed_number vs h))

-- both numbers of a run are short
pub record IsFewRun (r : Run) : Type 0 where
  pub from : IsFew r.from
  pub value : IsWide r.value

runs_short : (rs : List Run) → AllByRecursion IsFewRun rs → AllByRecursion (IsShort 20) (flat_map run_words rs)
runs_short [] h = tt
runs_short (r ∷ rs) h = (few r.from h.0.from, (signed_number r.value h.0.value, runs_short rs h.1))

pub steps_is_line : (j : ℕ) (rs : List Run) → IsFew j → length rs ≤ LAST_MINUTE + 1 → AllByRecursion IsFewRun rs → AreLine (steps_line j rs)
steps_is_line j rs l count h = fixed_words (2 * LAST_MINUTE + 4) (codes "steps") _ (omega arith) (omega (arith, runs_length rs))
    (fixed 20 (codes "steps") refl (omega arith), (few j l, runs_short rs h))

pub end_is_line : AreLine end_line
end_is_line = fixed_words 1 (codes "end") [] (omega arith) (omega arith) (fixed 20 (codes "end") refl (omega arith), tt)
