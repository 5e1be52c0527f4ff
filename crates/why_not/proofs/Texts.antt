-- texts of words
use Rattle.std.proofs.Common.{◌≡◌, ◌<◌, ◌++◌, ◌∷◌, [], ℕ, Bool, true, false, List, length, map, ap, sym, refl, subst, ◌∙◌, append-nil, append_assoc}
use Rattle.std.specs.Prelude.{codes}
use Rattle.std.specs.List.{filter, flat_map, range_with_len}
use Rattle.std.specs.Fmt.{decimal}
use Rattle.std.proofs.lemmas.List.Concat.{flat_map-append}
use Rattle.std.proofs.lemmas.List.FromFn.{length-range_with_len}
use Rattle.crew_terms.specs.Words.{Words, line_text}
use Rattle.crew_terms.specs.Instance.{Instance, team_of}
use Rattle.crew_terms.specs.Plan.{Plan}
use Rattle.field_table.specs.Clocks.{clock_text}
use Rattle.line_out.specs.Lines.{line_parts}
use Rattle.line_out.specs.Parts.{next_word}
use Rattle.crew_io.specs.Fronts.{IsFront}
use Rattle.roster_print.specs.Roster.{unassigned_tasks}
use Rattle.team_days.specs.Obstacles.{obstacle_of}
use Rattle.team_days.specs.declared.obstacles.Obstacle.{Obstacle}
use Rattle.why_not.specs.Fits.{first_fit, free_count}
use Rattle.why_not.specs.Why.{fit_line, head_line, obstacle_text, run_lines, run_words, task_line, task_text, team_word, why_text}

-- the words of items
pub words_of_each : {A : Type 0} (word : A → List ℕ) (xs : List A) → flat_map (λ x. next_word (word x)) xs ≡ flat_map next_word (map word xs)
words_of_each word [] = refl
words_of_each word (x ∷ xs) = ap (λ r. next_word (word x) ++ r) (words_of_each word xs)

-- the word of a team
pub team_is : (i same : Instance) (p : Plan) (j t k : ℕ) (name : List ℕ) (told : Obstacle) → same ≡ i → name ≡ (team_of same k).name → told ≡ obstacle_of i p k j t
    → next_word name ++ obstacle_text same told ≡ next_word (team_word i p j t k)
unfolding team_word
team_is i same p j t k name told e f g = rw (f, g, e) refl

-- the line of a run
pub run_is : (i : Instance) (p : Plan) (j first last : ℕ) (ws : Words)
    → ws ≡ [] ∷ clock_text first ∷ clock_text last ∷ codes "free" ∷ decimal (free_count i p j first) ∷ []
    → (flat_map next_word ws ++ flat_map next_word (map (team_word i p j first) (range_with_len 0 (length i.teams)))) ++ 10 ∷ [] ≡ line_text (run_words i p j first last)
unfolding run_words
run_is i p j first last ws e =
    let teams = map (team_word i p j first) (range_with_len 0 (length i.teams)) in
    let head : Words = [] ∷ clock_text first ∷ clock_text last ∷ codes "free" ∷ decimal (free_count i p j first) ∷ [] in
    ap (λ x. (flat_map next_word x ++ flat_map next_word teams) ++ 10 ∷ []) e
    ∙ ap (λ x. x ++ 10 ∷ []) (sym (flat_map-append next_word head teams))
    ∙ sym (line_parts [] (head ++ teams))

-- its first words
pub head_is : (i : Instance) (p : Plan) (j first last : ℕ) (begins ends : List ℕ) (free : ℕ) → begins ≡ clock_text first → ends ≡ clock_text last → free ≡ free_count i p j first
    → ◌≡◌ {A = Words} ([] ∷ begins ∷ ends ∷ codes "free" ∷ decimal free ∷ []) ([] ∷ clock_text first ∷ clock_text last ∷ codes "free" ∷ decimal (free_count i p j first) ∷ [])
head_is i p j first last begins ends free a b c = rw (a, b, c) refl

-- the parts of what is written of a task
pub task_parts : (i : Instance) (p : Plan) (j : ℕ) → task_text i p j ≡ (line_text (task_line i j) ++ flat_map line_text (run_lines i p j)) ++ line_text (fit_line (first_fit i p j))
unfolding task_text
task_parts i p j = refl

pub name_front : (i : Instance) (p : Plan) (j : ℕ) → IsFront (line_text (task_line i j)) (task_text i p j)
name_front i p j = record {
  rest = flat_map line_text (run_lines i p j) ++ line_text (fit_line (first_fit i p j));
  is = task_parts i p j ∙ append_assoc (line_text (task_line i j)) (flat_map line_text (run_lines i p j)) (line_text (fit_line (first_fit i p j)));
}

pub runs_front : (i : Instance) (p : Plan) (j : ℕ) → IsFront (line_text (task_line i j) ++ flat_map line_text (run_lines i p j)) (task_text i p j)
runs_front i p j = record { rest = line_text (fit_line (first_fit i p j)); is = task_parts i p j }

-- and of a plan
pub why_parts : (i : Instance) (p : Plan) → why_text i p ≡ line_text (head_line i p) ++ flat_map (task_text i p) (unassigned_tasks p)
unfolding why_text
why_parts i p = refl

pub below : (j n : ℕ) → j < n → j < length (range_with_len 0 n)
below j n h = subst (λ l. j < l) (sym (length-range_with_len 0 n)) h

-- one task at a time
pub each_open : (p : ℕ → Bool) (text : ℕ → List ℕ) (xs : List ℕ) → flat_map (λ x. flat_map text (filter p (x ∷ []))) xs ≡ flat_map text (filter p xs)
each_open p text [] = refl
each_open p text (x ∷ xs) = ap (λ r. flat_map text (filter p (x ∷ [])) ++ r) (each_open p text xs) ∙ by (p x) refl
  where
    by : (b : Bool) → p x ≡ b → flat_map text (filter p (x ∷ [])) ++ flat_map text (filter p xs) ≡ flat_map text (filter p (x ∷ xs))
    by true e = rw e (ap (λ h. h ++ flat_map text (filter p xs)) (append-nil (text x)))
    by false e = rw e refl
