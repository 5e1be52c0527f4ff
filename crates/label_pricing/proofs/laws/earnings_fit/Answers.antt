use Rattle.label_pricing.proofs.Fitting.{worth_least, worth_fits, best_fits}
use Rattle.label_pricing.proofs.laws.earnings_fit.Goals as goal

pub returns : goal.returns
returns c = record {
  least = λ n k w v is. worth_least n k w v is;
  worths = λ n k w v instance range known is. worth_fits n k w instance range known v is;
  bests = λ n k w j t v instance range known here is. best_fits n k w instance range known j t v here is;
}
