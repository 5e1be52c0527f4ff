use Rattle.std.proofs.Common.{length}
use Rattle.crew_terms.specs.Words.{words_of}
use Rattle.day_records.proofs.SkillSets.{Tally}
use Rattle.day_records.proofs.skills.skill_set.Given as goal

abbrev pub invariant-loop-word : goal.invariant-loop-word
invariant-loop-word l = Tally (words_of l.field) (length l.yielded) l.known l.set
