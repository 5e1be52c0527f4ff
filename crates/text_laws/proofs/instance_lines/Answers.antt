use Rattle.std.proofs.Common.{length, get_or}
use Rattle.text_laws.proofs.Spellings.{place_is_line}
use Rattle.text_laws.proofs.Heads.{size_good, travel_good, team_good, task_good}
use Rattle.text_laws.proofs.instance_lines.Goals as goal

pub returns-clause-size : goal.returns-clause-size
returns-clause-size c = size_good

pub returns-clause-places : goal.returns-clause-places
returns-clause-places c = λ i h k d l. place_is_line (get_or i.places k d) (h.parts.places k d l)

pub returns-clause-travel : goal.returns-clause-travel
returns-clause-travel c = λ i h k d l. travel_good (length i.places) h.parts.few_places (get_or i.travel k d) (record { count = h.times.columns k d l; minutes = h.times.minutes k d l })

pub returns-clause-teams : goal.returns-clause-teams
returns-clause-teams c = λ i h k d l. team_good (length i.places) h.parts.few_places (get_or i.teams k d) (h.parts.teams k d l)

pub returns-clause-tasks : goal.returns-clause-tasks
returns-clause-tasks c = λ i h k d l. task_good (length i.places) h.parts.few_places (get_or i.tasks k d) (h.parts.tasks k d l)
