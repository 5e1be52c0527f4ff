use Rattle.std.proofs.Common.{◌≡◌, ◌≤ℤ◌, ◌<ℤ◌, ◌⊎◌, ◌↔◌, arith, rules, tests, length, pos, subst, sym, ◌∙◌, ℕ, eqb, false, FitsSigned}
use Rattle.std.specs.Int.{bit_at, w64}
use Rattle.std.proofs.lemmas.Iterator.Splits.{YieldsList-from_slice_split}
use Rattle.std.proofs.lemmas.Iterator.Consumers.{YieldsList-turn, YieldsList-end}
use Rattle.std.proofs.lemmas.List.{length_push}
use Rattle.std.proofs.lemmas.Int.{ints, to_z-of_z}
use Rattle.crew_terms.specs.declared.TheConstants.{SKILLS}
use Rattle.crew_terms.specs.Words.{words_of}
use Rattle.day_terms.specs.Fields.{SpellAll, IsSkill}
use Rattle.day_records.proofs.SkillSets.{Tally, tally_skill, tally_other, below_skills, above_skills, words_are, all_spelled, spelled_at}
use Rattle.day_records.proofs.skills.skill_set.Goals as goal
use Rattle.day_records.proofs.skills.skill_set.Goals.{then-skill-lt0-via-then-skill-lt0, then-skill-lt0-via-else-skill-lt0+then-skill}

pub returns-in_default : goal.returns-in_default
returns-in_default c numbers all =
    let t = YieldsList-turn (YieldsList-from_slice_split _ (λ b. eqb b 32) c.args.field.now (cc) (cc) (cc) (λ x r q k. search (rules, tests))) c.loop-word.yielded _ c.loop-word.yielded_by _ _ c.in-Some.word c.in-Some.is c.next.ensures.steps in
    let (z, (fit, e)) = spelled_at (words_of c.args.field.now) numbers (length c.loop-word.yielded) c.in-Some.word.now t.0 (subst (λ ws. SpellAll ws numbers) (words_are c.args.field.now c.is_empty.result c.is_empty.ensures c.if-is_empty.false) all) in
    c.in_default.ensures.exact z fit (t.1 ∙ e)

pub loop-word-preserved-then-skill-lt0 : goal.loop-word-preserved-then-skill-lt0
loop-word-preserved-then-skill-lt0 c =
    let z = c.in-Some-read_number.skill in
    let fit : FitsSigned w64 z = search rules in
    let none : IsSkill z → ⊥ = elim c.then-skill-lt0.branch [
      | then-skill-lt0-via-then-skill-lt0 w ↦ below_skills z (λ h. omega (arith, ints))
      | then-skill-lt0-via-else-skill-lt0+then-skill w ↦ above_skills z (λ h. omega (arith, ints))
    ] in
    let t = YieldsList-turn (YieldsList-from_slice_split _ (λ b. eqb b 32) c.args.field.now (cc) (cc) (cc) (λ x r q k. search (rules, tests))) c.loop-word.yielded _ c.loop-word.yielded_by _ _ c.in-Some.word c.in-Some.is c.next.ensures.steps in
    subst (λ n. Tally (words_of c.args.field.now) n false c.loop-word.set) (sym (length_push c.loop-word.yielded c.in-Some.word))
    (tally_other (words_of c.args.field.now) (length c.loop-word.yielded) c.loop-word.known c.loop-word.set c.in-Some.word.now z t.0 t.1 (fit, c.in-Some-read_number.ensures.exact) none c.loop-word.invariant)

pub loop-word-preserved : goal.loop-word-preserved
loop-word-preserved c =
    let z = c.in-Some-read_number.skill in
    let fit : FitsSigned w64 z = search rules in
    let low : pos 0 ≤ℤ z = omega (arith, ints) in
    let high : z <ℤ pos SKILLS = omega (arith, ints) in
    let more = c.with_skill-set.result in
    let members = subst (λ y. (n : ℕ) → (bit_at more n ≡ 1) ↔ ((pos n ≡ y) ⊎ (bit_at c.loop-word.set n ≡ 1))) (to_z-of_z w64 z fit) c.with_skill-set.ensures in
    let t = YieldsList-turn (YieldsList-from_slice_split _ (λ b. eqb b 32) c.args.field.now (cc) (cc) (cc) (λ x r q k. search (rules, tests))) c.loop-word.yielded _ c.loop-word.yielded_by _ _ c.in-Some.word c.in-Some.is c.next.ensures.steps in
    subst (λ n. Tally (words_of c.args.field.now) n c.loop-word.known more) (sym (length_push c.loop-word.yielded c.in-Some.word))
    (tally_skill (words_of c.args.field.now) (length c.loop-word.yielded) c.loop-word.known c.loop-word.set more c.in-Some.word.now z t.0 t.1 (fit, c.in-Some-read_number.ensures.exact) low high c.with_skill-set.type_inv members c.loop-word.invariant)

pub returns-then-known : goal.returns-then-known
returns-then-known c =
    let t = YieldsList-end (YieldsList-from_slice_split _ (λ b. eqb b 32) c.args.field.now (cc) (cc) (cc) (λ x r q k. search (rules, tests))) c.loop-word.yielded _ c.loop-word.yielded_by _ _ c.in-None.is c.next.ensures.steps in
    let i = c.loop-word.invariant in
    let g = i.good c.if-known.true in
    record { numbers = i.numbers; spelled = all_spelled c.args.field.now (length c.loop-word.yielded) i.numbers (words_are c.args.field.now c.is_empty.result c.is_empty.ensures c.if-is_empty.false) t.1 i.spelled; known = g.0; is = g.1 }

pub returns-else-known : goal.returns-else-known
returns-else-known c =
    let t = YieldsList-end (YieldsList-from_slice_split _ (λ b. eqb b 32) c.args.field.now (cc) (cc) (cc) (λ x r q k. search (rules, tests))) c.loop-word.yielded _ c.loop-word.yielded_by _ _ c.in-None.is c.next.ensures.steps in
    let i = c.loop-word.invariant in
    (i.numbers, all_spelled c.args.field.now (length c.loop-word.yielded) i.numbers (words_are c.args.field.now c.is_empty.result c.is_empty.ensures c.if-is_empty.false) t.1 i.spelled, i.bad c.if-known.false)
