use Rattle.std.proofs.Common.{map, ap, sym}
use Rattle.std.specs.Fmt.{decimal}
use Rattle.crew_io.specs.Chains.{puts_then, puts_same, puts_front}
use Rattle.line_out.specs.Parts.{next_word, part_word}
use Rattle.dossier_out.specs.Texts.{line_of_three, three_front_1, three_front_2, three_front_3, three_front_4}
use Rattle.dossier_out.proofs.words.put_counts.Goals as goal

pub returns-in_err-put_all : goal.returns-in_err-put_all
returns-in_err-put_all g c =
    puts_front g.K.Sink _ _ _ _ _ c.from_residual.result c.from_residual.ensures.0 c.in_err-put_all.ensures.puts
    (three_front_1 c.args.word.now (decimal c.args.first) (decimal c.args.second) (map decimal c.args.others.now))

pub returns-in_err-put_next : goal.returns-in_err-put_next
returns-in_err-put_next g c =
    puts_front g.K.Sink _ _ _ _ _ c.from_residual-in_err-put_next.result c.from_residual-in_err-put_next.ensures.0
    (puts_then g.K.Sink _ _ _ _ _ _ _ c.in_ok-put_all.ensures.puts (puts_same g.K.Sink _ _ _ _ _ (ap (λ p. next_word (part_word p)) c.number.ensures) c.in_err-put_next.ensures))
    (three_front_2 c.args.word.now (decimal c.args.first) (decimal c.args.second) (map decimal c.args.others.now))

pub returns-in_err-put_next-2 : goal.returns-in_err-put_next-2
returns-in_err-put_next-2 g c =
    puts_front g.K.Sink _ _ _ _ _ c.from_residual-in_err-put_next-2.result c.from_residual-in_err-put_next-2.ensures.0
    (puts_then g.K.Sink _ _ _ _ _ _ _
    (puts_then g.K.Sink _ _ _ _ _ _ _ c.in_ok-put_all.ensures.puts (puts_same g.K.Sink _ _ _ _ _ (ap (λ p. next_word (part_word p)) c.number.ensures) c.in_ok-put_next.ensures))
    (puts_same g.K.Sink _ _ _ _ _ (ap (λ p. next_word (part_word p)) c.number-2.ensures) c.in_err-put_next-2.ensures))
    (three_front_3 c.args.word.now (decimal c.args.first) (decimal c.args.second) (map decimal c.args.others.now))

pub returns-in_err-put_numbers : goal.returns-in_err-put_numbers
returns-in_err-put_numbers g c =
    puts_front g.K.Sink _ _ _ _ _ c.from_residual-in_err-put_numbers.result c.from_residual-in_err-put_numbers.ensures.0
    (puts_then g.K.Sink _ _ _ _ _ _ _
    (puts_then g.K.Sink _ _ _ _ _ _ _
    (puts_then g.K.Sink _ _ _ _ _ _ _ c.in_ok-put_all.ensures.puts (puts_same g.K.Sink _ _ _ _ _ (ap (λ p. next_word (part_word p)) c.number.ensures) c.in_ok-put_next.ensures))
    (puts_same g.K.Sink _ _ _ _ _ (ap (λ p. next_word (part_word p)) c.number-2.ensures) c.in_ok-put_next-2.ensures))
    c.in_err-put_numbers.ensures)
    (three_front_4 c.args.word.now (decimal c.args.first) (decimal c.args.second) (map decimal c.args.others.now))

pub returns : goal.returns
returns g c =
    puts_same g.K.Sink _ _ _ _ _ (sym (line_of_three c.args.word.now (decimal c.args.first) (decimal c.args.second) (map decimal c.args.others.now)))
    (puts_then g.K.Sink _ _ _ _ _ _ _
    (puts_then g.K.Sink _ _ _ _ _ _ _
    (puts_then g.K.Sink _ _ _ _ _ _ _
    (puts_then g.K.Sink _ _ _ _ _ _ _ c.in_ok-put_all.ensures.puts (puts_same g.K.Sink _ _ _ _ _ (ap (λ p. next_word (part_word p)) c.number.ensures) c.in_ok-put_next.ensures))
    (puts_same g.K.Sink _ _ _ _ _ (ap (λ p. next_word (part_word p)) c.number-2.ensures) c.in_ok-put_next-2.ensures))
    c.in_ok-put_numbers.ensures)
    c.put_all-2.ensures.puts)
