use Rattle.std.proofs.Common.{◌≡◌, map, ap, sym, ◌∙◌}
use Rattle.std.specs.Fmt.{decimal, signed_decimal}
use Rattle.crew_io.specs.Chains.{puts_then, puts_same, puts_front}
use Rattle.dossier_out.specs.Texts.{line_of_two, two_front_1, two_front_2, two_front_3}
use Rattle.line_out.specs.Parts.{next_word, part_word}
use Rattle.sheet_terms.specs.Lines.{price_word}
use Rattle.squeeze_terms.specs.MinutePrices.{is_joint}
use Rattle.std.specs.Prelude.{codes, if◌then◌else◌}
use Rattle.sheet_write.proofs.prices.put_minutes.Goals as goal

pub returns-in_err-put_all : goal.returns-in_err-put_all
returns-in_err-put_all g c =
    let word = price_word c.args.instance.now c.args.j in
    let is = c.price_word.ensures ∙ ap (λ task. if is_joint task then codes "clock" else codes "price") c.task.ensures.task in
    puts_front g.K.Sink _ _ _ _ _ c.from_residual.result c.from_residual.ensures.0
    (puts_same g.K.Sink _ _ _ _ _ is c.in_err-put_all.ensures.puts)
    (two_front_1 word (decimal c.args.j) (map signed_decimal c.args.row.now))

pub returns-in_err-put_next : goal.returns-in_err-put_next
returns-in_err-put_next g c =
    let word = price_word c.args.instance.now c.args.j in
    let is = c.price_word.ensures ∙ ap (λ task. if is_joint task then codes "clock" else codes "price") c.task.ensures.task in
    puts_front g.K.Sink _ _ _ _ _ c.from_residual-in_err-put_next.result c.from_residual-in_err-put_next.ensures.0
    (puts_then g.K.Sink _ _ _ _ _ _ _
    (puts_same g.K.Sink _ _ _ _ _ is c.in_ok-put_all.ensures.puts)
    (puts_same g.K.Sink _ _ _ _ _ (ap (λ p. next_word (part_word p)) c.number.ensures) c.in_err-put_next.ensures))
    (two_front_2 word (decimal c.args.j) (map signed_decimal c.args.row.now))

pub returns-in_err-put_numbers : goal.returns-in_err-put_numbers
returns-in_err-put_numbers g c =
    let word = price_word c.args.instance.now c.args.j in
    let is = c.price_word.ensures ∙ ap (λ task. if is_joint task then codes "clock" else codes "price") c.task.ensures.task in
    puts_front g.K.Sink _ _ _ _ _ c.from_residual-in_err-put_numbers.result c.from_residual-in_err-put_numbers.ensures.0
    (puts_then g.K.Sink _ _ _ _ _ _ _
    (puts_then g.K.Sink _ _ _ _ _ _ _
    (puts_same g.K.Sink _ _ _ _ _ is c.in_ok-put_all.ensures.puts)
    (puts_same g.K.Sink _ _ _ _ _ (ap (λ p. next_word (part_word p)) c.number.ensures) c.in_ok-put_next.ensures))
    c.in_err-put_numbers.ensures)
    (two_front_3 word (decimal c.args.j) (map signed_decimal c.args.row.now))

pub returns : goal.returns
returns g c =
    let word = price_word c.args.instance.now c.args.j in
    let is = c.price_word.ensures ∙ ap (λ task. if is_joint task then codes "clock" else codes "price") c.task.ensures.task in
    puts_same g.K.Sink _ _ _ _ _ (sym (line_of_two word (decimal c.args.j) (map signed_decimal c.args.row.now)))
    (puts_then g.K.Sink _ _ _ _ _ _ _
    (puts_then g.K.Sink _ _ _ _ _ _ _
    (puts_then g.K.Sink _ _ _ _ _ _ _
    (puts_same g.K.Sink _ _ _ _ _ is c.in_ok-put_all.ensures.puts)
    (puts_same g.K.Sink _ _ _ _ _ (ap (λ p. next_word (part_word p)) c.number.ensures) c.in_ok-put_next.ensures))
    c.in_ok-put_numbers.ensures)
    c.put_all-2.ensures.puts)
