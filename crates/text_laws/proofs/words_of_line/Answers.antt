use Rattle.text_laws.proofs.Words.{words_of_line_of, line_of_words_of}
use Rattle.text_laws.proofs.words_of_line.Goals as goal

pub returns-clause-words : goal.returns-clause-words
returns-clause-words c = words_of_line_of

pub returns-clause-line : goal.returns-clause-line
returns-clause-line c = line_of_words_of
