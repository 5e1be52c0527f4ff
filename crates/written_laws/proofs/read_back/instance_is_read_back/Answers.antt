use Rattle.std.proofs.Common.{◌≢◌, length, get_or, refl, arith}
use Rattle.std.specs.List.{All}
use Rattle.std.proofs.lemmas.List.Elements.{All-weaker}
use Rattle.crew_terms.specs.Words.{Words}
use Rattle.dossier_terms.specs.Dossier.{skills_of}
use Rattle.dossier_terms.specs.Lines.{size_of, size_line, place_line, travel_line, team_line, task_line}
use Rattle.text_laws.specs.Texts.{IsWord, AreLine}
use Rattle.cert_format.specs.declared.kinds.Expect.TheVariants as expected
use Rattle.written_laws.specs.ReadBack.{size_kind, place_kind, travel_kind, team_kind, task_kind}
use Rattle.written_laws.proofs.ReadBack.{read_as, team_spelled, task_spelled}
use Rattle.written_laws.proofs.read_back.instance_is_read_back.Goals as goal

-- words of a line hold no space
spaceless : (words : Words) → AreLine words → All (All (λ b. b ≢ 32)) words
spaceless words h = All-weaker IsWord (All (λ b. b ≢ 32)) (λ w is. is.no_space) words h.each

pub returns-clause-size : goal.returns-clause-size
returns-clause-size c = λ i budget h spend.
    let line = c.instance_lines.ensures.size i budget h spend in
    let words = size_line (size_of i budget) in
    read_as c.line_has_one_answer.ensures expected.Size words (size_kind (size_of i budget)) tt line.line (c.words_of_line.ensures.words words line.some (spaceless words line))
    (record { teams = h.parts.few_teams; tasks = h.parts.few_tasks; places = h.parts.few_places; nodes = spend }, refl)

pub returns-clause-places : goal.returns-clause-places
returns-clause-places c = λ i h k d l.
    let line = c.instance_lines.ensures.places i h k d l in
    let words = place_line (get_or i.places k d) in
    read_as c.line_has_one_answer.ensures expected.Place words (place_kind (get_or i.places k d)) tt line.line (c.words_of_line.ensures.words words line.some (spaceless words line)) (h.parts.places k d l, refl)

pub returns-clause-travel : goal.returns-clause-travel
returns-clause-travel c = λ i h k d l.
    let line = c.instance_lines.ensures.travel i h k d l in
    let row = get_or i.travel k d in
    let few = h.parts.few_places in
    read_as c.line_has_one_answer.ensures (expected.Travel (length i.places)) (travel_line row) (travel_kind row) (omega arith) line.line (c.words_of_line.ensures.words (travel_line row) line.some (spaceless (travel_line row) line))
    (row, refl, record { count = h.times.columns k d l; minutes = h.times.minutes k d l }, refl)

pub returns-clause-teams : goal.returns-clause-teams
returns-clause-teams c = λ i h k d l.
    let line = c.instance_lines.ensures.teams i h k d l in
    let t = get_or i.teams k d in
    let is = h.parts.teams k d l in
    let few = h.parts.few_places in
    read_as c.line_has_one_answer.ensures (expected.Team (length i.places)) (team_line t) (team_kind t) (omega arith) line.line (c.words_of_line.ensures.words (team_line t) line.some (spaceless (team_line t) line))
    (skills_of t.skills, refl, team_spelled (length i.places) t is (c.set_is_spelled.ensures t.skills is.skills).0, refl)

pub returns-clause-tasks : goal.returns-clause-tasks
returns-clause-tasks c = λ i h k d l.
    let line = c.instance_lines.ensures.tasks i h k d l in
    let t = get_or i.tasks k d in
    let is = h.parts.tasks k d l in
    let few = h.parts.few_places in
    read_as c.line_has_one_answer.ensures (expected.Task (length i.places)) (task_line t) (task_kind t) (omega arith) line.line (c.words_of_line.ensures.words (task_line t) line.some (spaceless (task_line t) line))
    (skills_of t.skills, refl, task_spelled (length i.places) t is (c.set_is_spelled.ensures t.skills is.skills).0, refl)

pub returns-clause-team_skills : goal.returns-clause-team_skills
returns-clause-team_skills c = λ i h k d l. (c.set_is_spelled.ensures (get_or i.teams k d).skills (h.parts.teams k d l).skills).1

pub returns-clause-task_skills : goal.returns-clause-task_skills
returns-clause-task_skills c = λ i h k d l. (c.set_is_spelled.ensures (get_or i.tasks k d).skills (h.parts.tasks k d l).skills).1
