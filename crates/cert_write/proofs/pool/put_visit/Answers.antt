use Rattle.std.proofs.Common.{◌++◌, ◌∷◌, [], ap, sym, append-nil}
use Rattle.std.specs.Fmt.{decimal}
use Rattle.std.specs.List.{flat_map}
use Rattle.crew_io.specs.Chains.{first_front, puts_front, puts_then, puts_same}
use Rattle.line_out.specs.Parts.{next_word, part_word}
use Rattle.cert_write.proofs.pool.put_visit.Goals as goal

pub returns : goal.returns
returns g c =
    puts_same g.K.Sink _ _ _ _ _ (ap (λ x. next_word (decimal c.args.visit.task) ++ x) (sym (append-nil (next_word (decimal c.args.visit.start)))))
    (puts_then g.K.Sink _ _ _ _ _ _ _ (puts_same g.K.Sink _ _ _ _ _ (ap (λ p. next_word (part_word p)) c.number.ensures) c.in_ok-put_next.ensures)
    (puts_same g.K.Sink _ _ _ _ _ (ap (λ p. next_word (part_word p)) c.number-2.ensures) c.put_next-2.ensures))

pub returns-in_err-put_next : goal.returns-in_err-put_next
returns-in_err-put_next g c =
    puts_front g.K.Sink _ _ _ _ _ c.from_residual.result c.from_residual.ensures.0
    (puts_same g.K.Sink _ _ _ _ _ (ap (λ p. next_word (part_word p)) c.number.ensures) c.in_err-put_next.ensures)
    (first_front (next_word (decimal c.args.visit.task)) (flat_map next_word (decimal c.args.visit.start ∷ [])))
