use Rattle.label_pricing.proofs.Deciding.{worth_is_one}
use Rattle.label_pricing.proofs.laws.one_worth.Goals as goal

pub returns : goal.returns
returns c n k w v z a b = worth_is_one n k w v z a b
