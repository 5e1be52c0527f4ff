-- jobs of several teams
use Rattle.std.specs.Prelude.{Bool, Option, length, nat_lt}
use Rattle.crew_terms.specs.Plan.{Job}
use Rattle.crew_instance.specs.Teams.{job_teams}

-- a job of several teams
abbrev pub has_several : Option Job → Bool
has_several job = nat_lt 1 (length (job_teams job))
