use Rattle.sheet_checker.proofs.laws.one_answer.Goals as goal

pub returns : goal.returns
returns c = λ due words a b reached x y. c.sheet_says_one_thing.ensures reached.0 due words b a reached.1 y x
