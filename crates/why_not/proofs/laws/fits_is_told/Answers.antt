use Rattle.why_not.proofs.Free.{fits_nowhere}
use Rattle.why_not.proofs.laws.fits_is_told.Goals as goal

pub returns : goal.returns
returns c = λ i p j legal known none. fits_nowhere i p j c.obstacles_are_told.ensures.free legal known none
