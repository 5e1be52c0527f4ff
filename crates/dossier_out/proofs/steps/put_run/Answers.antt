use Rattle.std.proofs.Common.{◌++◌, ap, sym, append-nil, w64}
use Rattle.std.specs.Fmt.{decimal, signed_decimal}
use Rattle.std.proofs.lemmas.Int.{to_z-of_z}
use Rattle.crew_io.specs.Chains.{puts_then, puts_same}
use Rattle.line_out.specs.Parts.{next_word, part_word}
use Rattle.dossier_out.proofs.steps.put_run.Goals as goal

pub returns : goal.returns
returns g c =
    puts_same g.K.Sink _ _ _ _ _ (ap (λ x. next_word (decimal c.args.t) ++ x) (sym (append-nil (next_word (signed_decimal c.args.value)))))
    (puts_then g.K.Sink (next_word (decimal c.args.t)) (next_word (signed_decimal c.args.value)) _ _ _ _ _
    (puts_same g.K.Sink _ _ _ _ _ (ap (λ p. next_word (part_word p)) c.number.ensures) c.in_ok-put_next.ensures)
    (puts_same g.K.Sink _ _ _ _ _ (ap (λ v. next_word (signed_decimal v)) (to_z-of_z w64 c.args.value c.ranges.value)) c.put_next-2.ensures))
