use Rattle.crew_terms.specs.Leaf.{earned, worth_of}
use Rattle.search_laws.proofs.Worths.{attained_prove}
use Rattle.search_laws.proofs.attained_worths_decide.Goals as goal

pub returns : goal.returns
returns c = λ n prices worths phi l valid reach. (
  (λ h. attained_prove n prices worths l reach (λ vs f k holds r legal. c.worth_bounds_routes.ensures n k (earned prices k) f (worth_of vs k) r holds legal) h),
  (λ proves. record { worths = worths; phi = phi; proved = (valid, proves) }),
)
