use Rattle.late_lines.proofs.Stops.{whole_line}
use Rattle.late_lines.proofs.laws.whole_line_is_no_stop.Goals as goal

pub returns : goal.returns
returns c = λ room rest line after reason. whole_line room rest reason line after
