-- texts of lists of lines
use Rattle.std.proofs.Common.{◌≡◌, ◌++◌, ◌∷◌, [], ℕ, List, length, map, ap, sym, refl, ◌∙◌, append_assoc}
use Rattle.std.specs.List.{flat_map, range_with_len}
use Rattle.std.proofs.lemmas.List.Concat.{flat_map-append}
use Rattle.crew_terms.specs.Words.{Words, line_text}
use Rattle.crew_terms.specs.Instance.{Instance}
use Rattle.crew_terms.specs.Plan.{Plan}
use Rattle.crew_io.specs.Fronts.{IsFront}
use Rattle.roster_print.specs.Roster.{open_line, roster_text, shift_line, summary_line, team_lines, tasks_in_turn, turn_line, unassigned_tasks}

-- the text of lines
abbrev pub text : List Words → List ℕ
text lines = flat_map line_text lines

pub of_lists : {A : Type 0} (lines : A → List Words) (xs : List A) → flat_map (λ x. text (lines x)) xs ≡ text (flat_map lines xs)
of_lists lines [] = refl
of_lists lines (x ∷ xs) = ap (λ r. text (lines x) ++ r) (of_lists lines xs) ∙ sym (flat_map-append line_text (lines x) (flat_map lines xs))

-- ---- the parts of the roster

pub team_parts : (i : Instance) (p : Plan) (k : ℕ) → text (team_lines i p k) ≡ line_text (shift_line i k) ++ text (map (turn_line i p k) (tasks_in_turn p k))
unfolding team_lines
team_parts i p k = refl

pub roster_parts : (i : Instance) (p : Plan) → roster_text i p
    ≡ (line_text (summary_line i p) ++ text (flat_map (team_lines i p) (range_with_len 0 (length i.teams)))) ++ text (map (open_line i) (unassigned_tasks p))
unfolding roster_text
roster_parts i p =
    let teams = flat_map (team_lines i p) (range_with_len 0 (length i.teams)) in
    let open_ones = map (open_line i) (unassigned_tasks p) in
    ap (λ r. line_text (summary_line i p) ++ r) (flat_map-append line_text teams open_ones)
    ∙ sym (append_assoc (line_text (summary_line i p)) (text teams) (text open_ones))

-- the first part, and the first two, stand at the front
pub summary_front : (i : Instance) (p : Plan) → IsFront (line_text (summary_line i p)) (roster_text i p)
summary_front i p =
    let teams = text (flat_map (team_lines i p) (range_with_len 0 (length i.teams))) in
    let open_ones = text (map (open_line i) (unassigned_tasks p)) in
    record { rest = teams ++ open_ones; is = roster_parts i p ∙ append_assoc (line_text (summary_line i p)) teams open_ones }

pub teams_front : (i : Instance) (p : Plan) → IsFront (line_text (summary_line i p) ++ text (flat_map (team_lines i p) (range_with_len 0 (length i.teams)))) (roster_text i p)
teams_front i p = record { rest = text (map (open_line i) (unassigned_tasks p)); is = roster_parts i p }

pub of_mapped : {A : Type 0} (line : ℕ → Words) (f : A → ℕ) (xs : List A) → flat_map (λ x. line_text (line (f x))) xs ≡ text (map line (map f xs))
of_mapped line f [] = refl
of_mapped line f (x ∷ xs) = ap (λ r. line_text (line (f x)) ++ r) (of_mapped line f xs)
