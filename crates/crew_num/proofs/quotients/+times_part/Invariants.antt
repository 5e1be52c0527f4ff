use Rattle.crew_num.proofs.quotients.+times_part.Given as goal

abbrev pub decreases-times_part : goal.decreases-times_part
decreases-times_part l = l.by
