use Rattle.std.proofs.Common.{arith, ap, sym, ◌∙◌, length, None}
use Rattle.std.specs.Prelude.{slice_get}
use Rattle.std.specs.Option.{option_map}
use Rattle.std.proofs.lemmas.List.{length-map}
use Rattle.std.proofs.lemmas.Option.{slice_get-map, slice_get-get_or}
use Rattle.field_table.specs.Pieces.{piece_of}
use Rattle.field_table.proofs.cuts.LineWordsWords.word.Goals as goal

pub returns : goal.returns
returns c =
    let line = c.self.inside.line.now in
    let cuts = c.self.inside.cuts.now in
    ap (λ ws. slice_get ws c.args.n) (sym c.self.view_is) ∙ slice_get-map (piece_of line) cuts c.args.n
    ∙ ap (option_map (piece_of line)) (slice_get-get_or cuts c.args.n (record { from = 0; until = 0; number = None }) (let r = c.requires in let v = ap length c.self.view_is in let l = length-map cuts (piece_of line) in omega arith))
