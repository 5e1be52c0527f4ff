use Rattle.std.proofs.Common.{◌≡◌, ◌++◌, map, ap, sym, subst, ◌∙◌, arith}
use Rattle.std.specs.Fmt.{decimal}
use Rattle.std.proofs.lemmas.Nat.Bits.{shr_and_one}
use Rattle.crew_terms.specs.declared.TheConstants.{SKILLS}
use Rattle.arrayvec.specs.ArrayVec.{array_vec_len}
use Rattle.line_out.specs.Parts.{part_word}
use Rattle.cert_write.proofs.Instances.{skills_below, skill_not, skill_pushed}
use Rattle.cert_write.proofs.instance.push_skills.Goals as goal
use Rattle.cert_write.proofs.instance.push_skills.Goals.{then-skills-s-eq1, else-skills-s-eq1}

pub loop-s-preserved : goal.loop-s-preserved
loop-s-preserved c =
    let i = c.loop-s.invariant in
    elim c.if-skills-s-eq1.branch [
      | then-skills-s-eq1 w ↦ record {
        room = (let n = w.push.ensures.len in let e = ap (λ l. array_vec_len l) w.line-is in let r = i.room in omega (arith, n, e, r));
        so_far = ap (λ l. map part_word l.items) w.line-is
            ∙ skill_pushed c.args.skills c.loop-s.s c.loop-s.line.items w.push.new.self.items w.number.result (map part_word c.args.line.now.items) w.number.ensures w.push.ensures.items
            (sym (shr_and_one c.args.skills c.loop-s.s) ∙ w.if-skills-s-eq1.true) i.so_far;
      }
      | else-skills-s-eq1 w ↦ record {
        room = (let e = ap (λ l. array_vec_len l) w.line-is in let r = i.room in omega (arith, e, r));
        so_far = ap (λ l. map part_word l.items) w.line-is ∙ i.so_far
            ∙ ap (λ ns. map part_word c.args.line.now.items ++ map decimal ns)
            (sym (skill_not c.args.skills c.loop-s.s (λ h. w.if-skills-s-eq1.false (shr_and_one c.args.skills c.loop-s.s ∙ h))));
      }
    ]

pub returns : goal.returns
returns c =
    let s : c.loop-s.s ≡ SKILLS = (let f = c.loop-s-test.false in let e = c.loop-s.auto.s-end in omega (arith, f, e)) in
    subst (λ n. map part_word c.loop-s.line.items ≡ map part_word c.args.line.now.items ++ map decimal (skills_below c.args.skills n)) s c.loop-s.invariant.so_far
