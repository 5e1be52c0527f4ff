use Rattle.std.proofs.Common.{[], get_or, refl, rules, w64, Ok, Err}
use Rattle.std.specs.Prelude.{FitsSigned}
use Rattle.std.proofs.lemmas.Int.{to_z-of_z}
use Rattle.field_table.proofs.Once.{word_back}
use Rattle.field_table.proofs.fields.read_at.Goals as goal

pub returns-in-Ok-clause-back : goal.returns-in-Ok-clause-back
returns-in-Ok-clause-back g c =
    let field = c.args.field.now in
    let value = c.in-Ok.value in
    let word = get_or (g.W.Words.words c.args.words.now) c.args.place [] in
    let fit : FitsSigned w64 value = search rules in
    let same = to_z-of_z w64 value fit in
    rw same (word_back field word c.args.place (Ok value) c.in-Ok.ensures)

pub returns-in-Err : goal.returns-in-Err
returns-in-Err g c =
    let field = c.args.field.now in
    let word = get_or (g.W.Words.words c.args.words.now) c.args.place [] in
    record { exact = (refl, c.in-Err.ensures); back = word_back field word c.args.place (Err (record { place = c.args.place; cause = c.in-Err.cause })) (refl, c.in-Err.ensures) }
