use Rattle.search_terms.specs.Closing.{required_plan}
use Rattle.search_laws.proofs.Cases.{stuck_proves, crowded_proves, short_proves, open_proves}
use Rattle.search_laws.proofs.Whole.{known_required}
use Rattle.search_laws.proofs.Required.{required_whole}
use Rattle.search_laws.proofs.closing_prices_prove.Goals as goal

pub returns : goal.returns
returns c = record {
  stuck = λ n p k l is limits decided range below stuck priced le. stuck_proves n is (known_required n limits) decided p range k below priced stuck l le;
  crowded = λ n p j l is limits decided range crowded priced le. crowded_proves n is (known_required n limits) decided p range j crowded.known priced crowded.some crowded.many l le;
  short = λ n p j l is limits decided range few priced le. short_proves n is (known_required n limits) decided p range j few.known priced few.some few.few l le;
  «open» = λ n p is limits decided range priced. open_proves n is (known_required n limits) decided p range priced (required_plan n) (required_whole n);
}
