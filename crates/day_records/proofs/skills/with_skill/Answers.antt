use Rattle.day_records.proofs.SkillSets.{with_skill_bit}
use Rattle.day_records.proofs.skills.with_skill.Goals as goal

pub returns : goal.returns
returns c = with_skill_bit c.args.set c.args.skill c.ranges.skill c.requires.low c.requires.high
