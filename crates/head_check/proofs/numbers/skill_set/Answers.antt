use Rattle.std.proofs.Common.{◌+◌, ◌<◌, length, arith, rules}
use Rattle.std.proofs.lemmas.Nat.{one_shl}
use Rattle.std.proofs.lemmas.List.{length-map}
use Rattle.crew_terms.specs.declared.TheConstants.{SKILLS, LAST_MINUTE}
use Rattle.head_check.specs.Numbers.{natural, naturals}
use Rattle.head_check.proofs.Listed.{told_at, told_below, below_more, power_fits, skills_fall, skills_step}
use Rattle.head_check.proofs.numbers.skill_set.Goals as goal

pub number_at-skill-requires-clause-range : goal.number_at-skill-requires-clause-range
number_at-skill-requires-clause-range c = below_more SKILLS (LAST_MINUTE + 1) c.args.skills.now (omega arith) c.requires

pub returns-then-skill-least : goal.returns-then-skill-least
returns-then-skill-least c =
    let zs = c.args.skills.now in
    let n = c.loop-n.n in
    let below : n < length zs = (let t = c.loop-n-test.true in let e = c.len-n-end.ensures in omega arith) in
    let is = told_at zs n c.number_at-skill.result below c.number_at-skill.ensures in
    let size = length-map zs natural in
    skills_fall (naturals zs) n c.loop-n.set c.loop-n.least c.loop-n.invariant (omega arith) (let t = c.if-skill-least.true in omega arith)

pub overflow_shl-set : goal.overflow_shl-set
overflow_shl-set c =
    let below : c.loop-n.n < length c.args.skills.now = (let t = c.loop-n-test.true in let e = c.len-n-end.ensures in omega arith) in
    told_below SKILLS c.args.skills.now c.loop-n.n c.number_at-skill.result c.requires below c.number_at-skill.ensures

pub overflow_add-set : goal.overflow_add-set
overflow_add-set c =
    let below : c.loop-n.n < length c.args.skills.now = (let t = c.loop-n-test.true in let e = c.len-n-end.ensures in omega arith) in
    let small = told_below SKILLS c.args.skills.now c.loop-n.n c.number_at-skill.result c.requires below c.number_at-skill.ensures in
    let fits = power_fits c.loop-n.set c.loop-n.least c.number_at-skill.result c.loop-n.invariant.small c.if-skill-least.false small in
    rw (one_shl c.number_at-skill.result 64 small) (search rules)

pub overflow_add-least : goal.overflow_add-least
overflow_add-least c =
    let below : c.loop-n.n < length c.args.skills.now = (let t = c.loop-n-test.true in let e = c.len-n-end.ensures in omega arith) in
    let small = told_below SKILLS c.args.skills.now c.loop-n.n c.number_at-skill.result c.requires below c.number_at-skill.ensures in
    search rules

pub loop-n-preserved : goal.loop-n-preserved
loop-n-preserved c =
    let zs = c.args.skills.now in
    let n = c.loop-n.n in
    let below : n < length zs = (let t = c.loop-n-test.true in let e = c.len-n-end.ensures in omega arith) in
    let small = told_below SKILLS zs n c.number_at-skill.result c.requires below c.number_at-skill.ensures in
    let is = told_at zs n c.number_at-skill.result below c.number_at-skill.ensures in
    let size = length-map zs natural in
    rw (one_shl c.number_at-skill.result 64 small)
    (skills_step (naturals zs) n c.loop-n.set c.loop-n.least c.number_at-skill.result c.loop-n.invariant is (omega arith) c.if-skill-least.false small)
