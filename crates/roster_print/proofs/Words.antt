-- the words of lines
use Rattle.std.proofs.Common.{◌≡◌, ◌≢◌, ◌≤◌, ◌<◌, ◌+◌, ◌==◌, ◌++◌, ◌∷◌, [], ℕ, List, Bool, true, false, not, Some, length, take, map, get_or, ap, sym, refl, ◌∙◌, append-nil}
use Rattle.std.specs.Prelude.{codes, slice_index_or, if◌then◌else◌}
use Rattle.std.specs.List.{filter}
use Rattle.std.specs.Option.{option_map_or}
use Rattle.std.proofs.lemmas.Bool.{eq-eqb, le-ltb, lt-ltb, ne_eqb}
use Rattle.std.proofs.lemmas.List.{take_more, map-append}
use Rattle.std.proofs.lemmas.List.Elements.{filter-append}
use Rattle.crew_terms.specs.Words.{Words}
use Rattle.crew_terms.specs.Instance.{Instance, team_of, task_of}
use Rattle.crew_terms.specs.Plan.{Plan, Job, job_of}
use Rattle.crew_terms.specs.declared.Team.{Team}
use Rattle.crew_terms.specs.declared.Task.{Task}
use Rattle.field_table.specs.Clocks.{clock_text}
use Rattle.line_out.specs.Parts.{part_word}
use Rattle.line_out.specs.declared.Part.{Part}
use Rattle.roster_print.specs.Roster.{shift_line, partner_words, turn_words, turn_line}

pub shift_words : (i : Instance) (k : ℕ) (t : Team) (name from until : List ℕ) → t ≡ team_of i k → name ≡ t.name → from ≡ clock_text t.from → until ≡ clock_text t.until
    → codes "team" ∷ name ∷ from ∷ until ∷ [] ≡ shift_line i k
unfolding shift_line
shift_words i k t name from until is named begins ends = rw (named, begins, ends, is) refl

pub turn_of_job : (i : Instance) (p : Plan) (k j : ℕ) (job : Job) → job_of p j ≡ Some job → turn_line i p k j ≡ turn_words i k j job
unfolding turn_line
turn_of_job i p k j job is = ap (λ o. option_map_or (turn_words i k j) o []) is

-- the names of the other teams
abbrev pub others : Instance → ℕ → List ℕ → Words
others i k teams = map (λ g. (team_of i g).name) (filter (λ g. not (g == k)) teams)

pub alone : (i : Instance) (k : ℕ) (teams : List ℕ) → length teams ≤ 1 → partner_words i k teams ≡ []
unfolding partner_words
alone i k teams few = ap (λ b. if b then codes "with" ∷ others i k teams else []) (le-ltb 1 (length teams) few)

pub joined : (i : Instance) (k : ℕ) (teams : List ℕ) → 1 < length teams → partner_words i k teams ≡ codes "with" ∷ others i k teams
unfolding partner_words
joined i k teams some = ap (λ b. if b then codes "with" ∷ others i k teams else []) (lt-ltb 1 (length teams) some)

one_more : (i : Instance) (k g : ℕ) (teams : List ℕ) (b : Bool) → (g == k) ≡ b → others i k (teams ++ g ∷ []) ≡ others i k teams ++ (if b then [] else (team_of i g).name ∷ [])
one_more i k g teams true is =
    ap (map (λ h. (team_of i h).name)) (filter-append (λ h. not (h == k)) teams (g ∷ []))
    ∙ map-append (λ h. (team_of i h).name) (filter (λ h. not (h == k)) teams) (filter (λ h. not (h == k)) (g ∷ []))
    ∙ ap (λ b. others i k teams ++ map (λ h. (team_of i h).name) (if not b then g ∷ [] else [])) is
one_more i k g teams false is =
    ap (map (λ h. (team_of i h).name)) (filter-append (λ h. not (h == k)) teams (g ∷ []))
    ∙ map-append (λ h. (team_of i h).name) (filter (λ h. not (h == k)) teams) (filter (λ h. not (h == k)) (g ∷ []))
    ∙ ap (λ b. others i k teams ++ map (λ h. (team_of i h).name) (if not b then g ∷ [] else [])) is

module _ (i : Instance) (k : ℕ) (teams : List ℕ) (n d : ℕ) (within : n < length teams) where
  pub itself_more : get_or teams n d ≡ k → others i k (take (n + 1) teams) ≡ others i k (take n teams)
  itself_more is =
      ap (others i k) (take_more teams n d within) ∙ one_more i k (get_or teams n d) (take n teams) true (eq-eqb (get_or teams n d) k is) ∙ append-nil (others i k (take n teams))

  pub other_more : get_or teams n d ≢ k → others i k (take (n + 1) teams) ≡ others i k (take n teams) ++ (team_of i (get_or teams n d)).name ∷ []
  other_more differs =
      ap (others i k) (take_more teams n d within) ∙ one_more i k (get_or teams n d) (take n teams) false (ne_eqb (get_or teams n d) k differs)

-- the line of a task that has a job
pub job_words : (i : Instance) (p : Plan) (k j : ℕ) (job : Job) (t : Task) (begins ends name place : List ℕ) (partners : Words) → job_of p j ≡ Some job → t ≡ task_of i j
    → begins ≡ clock_text job.start → ends ≡ clock_text (job.start + t.minutes) → name ≡ t.name → place ≡ slice_index_or i.places t.place [] → partners ≡ partner_words i k job.teams
    → [] ∷ [] ∷ begins ∷ ends ∷ name ∷ place ∷ partners ≡ turn_line i p k j
job_words i p k j job t begins ends name place partners has is begins_is ends_is name_is place_is partners_are =
    rw (begins_is, ends_is, name_is, place_is, partners_are, is) (sym (turn_of_job i p k j job has))

-- parts that are pushed one after another
pub six_parts : (none a b c d e f : List Part) (u v w x y z : Part) → none ≡ [] → a ≡ none ++ u ∷ [] → b ≡ a ++ v ∷ [] → c ≡ b ++ w ∷ [] → d ≡ c ++ x ∷ [] → e ≡ d ++ y ∷ [] → f ≡ e ++ z ∷ []
    → map part_word f ≡ part_word u ∷ part_word v ∷ part_word w ∷ part_word x ∷ part_word y ∷ part_word z ∷ []
six_parts none a b c d e f u v w x y z h0 h1 h2 h3 h4 h5 h6 = rw (h6, h5, h4, h3, h2, h1, h0) refl
