use Rattle.std.proofs.Common.{◌≡◌, [], refl, sym, ◌∙◌}
use Rattle.std.proofs.lemmas.Option.{get_or_from_slice_get}
use Rattle.day_terms.specs.Records.{field_of}
use Rattle.day_terms.specs.Days.{IsOfKind}
use Rattle.day_terms.specs.Days.ReadsRecord.{OfNoKind, Miscounted, BadField, Good}
use Rattle.day_records.proofs.day.read_record.Goals as goal

pub returns-in_default : goal.returns-in_default
returns-in_default c =
    let first : field_of c.args.words.now 0 ≡ c.word.result.now = get_or_from_slice_get c.args.words.now 0 c.word.result.now [] c.word.ensures in
    OfNoKind (λ kind of. c.in_default.ensures kind (sym first ∙ of)) refl

pub returns-then-count-field_count : goal.returns-then-count-field_count
returns-then-count-field_count c =
    let of : IsOfKind c.args.words.now c.in-Some.kind = get_or_from_slice_get c.args.words.now 0 c.word.result.now [] c.word.ensures ∙ c.in-Some.ensures in
    Miscounted c.in-Some.kind of (λ e. c.if-count-field_count.true (c.count-count.ensures ∙ e ∙ sym c.field_count.ensures)) (rw (← c.count-count.ensures) refl)

pub returns-in-Ok : goal.returns-in-Ok
returns-in-Ok c =
    let of : IsOfKind c.args.words.now c.in-Some.kind = get_or_from_slice_get c.args.words.now 0 c.word.result.now [] c.word.ensures ∙ c.in-Some.ensures in
    Good c.in-Some.kind of (sym c.count-count.ensures ∙ c.if-count-field_count.false ∙ c.field_count.ensures) c.in-Ok.entry c.in-Ok.ensures refl

pub returns-in-Err : goal.returns-in-Err
returns-in-Err c =
    let of : IsOfKind c.args.words.now c.in-Some.kind = get_or_from_slice_get c.args.words.now 0 c.word.result.now [] c.word.ensures ∙ c.in-Some.ensures in
    BadField c.in-Some.kind of (sym c.count-count.ensures ∙ c.if-count-field_count.false ∙ c.field_count.ensures) c.in-Err.fault c.in-Err.ensures refl
