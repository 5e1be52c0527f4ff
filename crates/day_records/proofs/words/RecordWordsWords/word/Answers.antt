use Rattle.std.proofs.Common.{Bor, List, ℕ, [], ap, sym, ◌∙◌, length, arith}
use Rattle.std.specs.Prelude.{slice_get}
use Rattle.std.specs.Option.{option_map}
use Rattle.std.proofs.lemmas.Option.{slice_get-get_or}
use Rattle.csv.specs.Records.{fields_of}
use Rattle.day_records.proofs.Numbered.{field_at-get, some_mapped}
use Rattle.day_records.proofs.words.RecordWordsWords.word.Goals as goal

pub unwrap-requires : goal.unwrap-requires
unwrap-requires c =
    let fields = fields_of c.self.inside.row.now in
    some_mapped (λ (s : Bor (List ℕ)). s.now) c.get.result _
    (c.get.ensures.value ∙ field_at-get fields c.args.n ∙ slice_get-get_or fields c.args.n [] (let r = c.requires in let v = ap length c.self.view_is in omega arith))

pub returns : goal.returns
returns c =
    ap (λ fs. slice_get fs c.args.n) (sym c.self.view_is) ∙ sym (field_at-get (fields_of c.self.inside.row.now) c.args.n)
    ∙ sym c.get.ensures.value ∙ ap (option_map (λ (s : Bor (List ℕ)). s.now)) c.unwrap.ensures
