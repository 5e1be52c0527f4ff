use Rattle.std.proofs.Common.{◌+◌, ℕ, pos, arith, rules, refl, ap, get_or, to_z, of_z, w64}
use Rattle.std.proofs.lemmas.Result.{err_from_is_err_and}
use Rattle.day_terms.specs.Forms.{team_form}
use Rattle.day_records.proofs.FirstBads.{first_bad, skills_bad}
use Rattle.day_records.proofs.rows.read_team.Goals as goal

pub returns : goal.returns
returns c = first_bad team_form.slots c.args.words.now c.in-Err-fields.fault c.requires c.in-Err-fields.ensures.exact

pub returns-in_err-skills : goal.returns-in_err-skills
returns-in_err-skills c =
    let p = err_from_is_err_and c.from_residual.result c.from_residual.ensures.1 in
    rw (p.1, p.2) (skills_bad team_form.slots c.args.words.now 1 _ c.in_err-skills.field-0.0 tt (omega arith) c.in-Ok-fields.ensures.exact.accepted (ap (λ n. n + 1) c.in_err-skills.ensures.0) (rw c.in_err-skills.ensures.0 c.in_err-skills.ensures.1))

pub returns-2 : goal.returns-2
returns-2 c =
    let v2 : ℕ = lib.IntN.nat_abs (to_z w64 (of_z w64 (get_or c.in-Ok-fields.field-0 2 (pos 0)))) in
    let v3 : ℕ = lib.IntN.nat_abs (to_z w64 (of_z w64 (get_or c.in-Ok-fields.field-0 3 (pos 0)))) in
    (c.name_at.result, search rules, (c.name_at-2.result, search rules, (v2, search rules, (v3, search rules, (c.in_ok-skills.skills, c.in_ok-skills.ensures, refl)))))
