use Rattle.day_terms.proofs.Named.{left, stays, one_gone, none_gone}
use Rattle.std.proofs.Common.{refl, ap, ◌∙◌}
use Rattle.crew_terms.specs.declared.Team.{Team}
use Rattle.day_terms.proofs.laws.sick_team_goes.Goals as goal

pub returns-clause-stays : goal.returns-clause-stays
returns-clause-stays c = λ s name. stays (λ (t : Team). t.name) s.teams name

pub returns-clause-known : goal.returns-clause-known
returns-clause-known c = λ s front back t parts before behind. ap (λ ts. left (λ (t : Team). t.name) ts t.name) parts ∙ one_gone (λ (t : Team). t.name) front back t t.name refl before behind

pub returns-clause-unknown : goal.returns-clause-unknown
returns-clause-unknown c = λ s name. none_gone (λ (t : Team). t.name) s.teams name
