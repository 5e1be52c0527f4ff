use Rattle.std.proofs.Common.{[], refl}
use Rattle.sheet_terms.specs.Reading.{First}
use Rattle.sheet_reads.proofs.Follows.{reached}
use Rattle.sheet_reads.proofs.Laws.{Apart, Read}
use Rattle.sheet_reads.proofs.Single.{says_one}
use Rattle.sheet_reads.proofs.sheet_says_one_thing.Goals as goal

pub returns : goal.returns
returns c = λ lines s ws a b h.
    let law : Read = record {
      goes_on = c.reading_goes_on.ensures;
      head = c.read_head_is_good.ensures;
      runs = c.rows_are_told_by_runs.ensures.read;
      rows = c.lines_grow_row_by_row.ensures.rows;
      tables = c.lines_grow_row_by_row.ensures.tables;
    } in
    let apart : Apart = record { prices = c.numbers_are_told_apart.ensures.prices; worths = c.numbers_are_told_apart.ensures.worths; runs = c.numbers_are_told_apart.ensures.runs } in
    says_one c.says_one_thing.ensures apart lines s ws (reached law [] lines First s refl h) a b
