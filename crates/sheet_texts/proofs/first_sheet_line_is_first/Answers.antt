use Rattle.std.proofs.Common.{[], refl}
use Rattle.sheet_terms.specs.Reading.{First}
use Rattle.sheet_reads.proofs.Follows.{reached}
use Rattle.sheet_reads.proofs.Laws.{Read}
use Rattle.sheet_texts.proofs.first_sheet_line_is_first.Goals as goal

pub returns : goal.returns
returns c = λ lines back.
    let law : Read = record {
      goes_on = c.reading_goes_on.ensures;
      head = c.read_head_is_good.ensures;
      runs = c.rows_are_told_by_runs.ensures.read;
      rows = c.lines_grow_row_by_row.ensures.rows;
      tables = c.lines_grow_row_by_row.ensures.tables;
    } in
    reached law [] lines First First refl back
