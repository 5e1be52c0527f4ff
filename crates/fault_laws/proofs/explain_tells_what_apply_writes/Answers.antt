use Rattle.fault_laws.proofs.Written.{fine_is_not_refused, wrong_alike, wrong_is_not_taken}
use Rattle.fault_laws.proofs.explain_tells_what_apply_writes.Goals as goal

pub returns : goal.returns
returns c =
    let same = c.apply_stops_at_what_is_told.ensures in
    let line = c.one_line_is_told.ensures in
    record { wrong = wrong_alike same line; fine = fine_is_not_refused same line; taken = wrong_is_not_taken same line }
