use Rattle.crew_laws.proofs.Minutes.{permitted_minute, minute_permitted}
use Rattle.crew_laws.proofs.minutes_are_permitted.Goals as goal

pub returns : goal.returns
returns c n k j t = (permitted_minute n k j t, minute_permitted n k j t)
