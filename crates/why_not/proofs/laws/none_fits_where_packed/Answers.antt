use Rattle.why_not.proofs.Free.{packed}
use Rattle.why_not.proofs.laws.none_fits_where_packed.Goals as goal

pub returns : goal.returns
returns c = λ i p legal. packed i p (c.free_teams_may_begin.ensures.packed i p legal) (λ j known none. c.fits_is_told.ensures i p j legal known none)
