use Rattle.head_check.specs.Numbers.{naturals}
use Rattle.head_check.proofs.Listed.{SkillsSoFar}
use Rattle.head_check.proofs.numbers.skill_set.Given as goal

abbrev pub invariant-loop-n : goal.invariant-loop-n
invariant-loop-n l = SkillsSoFar (naturals l.skills) l.n l.set l.least
