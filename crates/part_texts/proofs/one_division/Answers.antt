use Rattle.part_texts.proofs.Division.{one_division}
use Rattle.part_texts.proofs.one_division.Goals as goal

pub returns : goal.returns
returns c = λ i xs ys is. one_division i is xs ys
