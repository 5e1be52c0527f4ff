use Rattle.part_texts.proofs.Between.{count_is_line, first_is_line}
use Rattle.part_texts.proofs.lines_between.Goals as goal

pub returns-clause-first : goal.returns-clause-first
returns-clause-first c = first_is_line

pub returns-clause-count : goal.returns-clause-count
returns-clause-count c = count_is_line
