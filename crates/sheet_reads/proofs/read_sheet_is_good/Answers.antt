use Rattle.std.proofs.Common.{[], refl}
use Rattle.sheet_terms.specs.Reading.{First}
use Rattle.sheet_reads.proofs.Follows.{ended}
use Rattle.sheet_reads.proofs.Laws.{Read}
use Rattle.sheet_reads.proofs.read_sheet_is_good.Goals as goal

pub returns : goal.returns
returns c = λ lines s h.
    let law : Read = record {
      goes_on = c.reading_goes_on.ensures;
      head = c.read_head_is_good.ensures;
      runs = c.rows_are_told_by_runs.ensures.read;
      rows = c.lines_grow_row_by_row.ensures.rows;
      tables = c.lines_grow_row_by_row.ensures.tables;
    } in
    let a = ended law [] lines First s refl h in
    let held = c.read_sheets_hold.ensures lines s h in
    record {
      spelled = a.0;
      good = record { instance = a.1.begun.instance; budget = a.1.begun.budget; bound = a.1.begun.bound; tables = a.1.tables; valid = held.valid; proved = held.proved };
    }
