use Rattle.std.proofs.Common.{ap, sym}
use Rattle.std.specs.Prelude.{codes}
use Rattle.std.specs.Fmt.{decimal}
use Rattle.std.specs.List.{flat_map}
use Rattle.crew_io.specs.Chains.{puts_then, puts_same, puts_front}
use Rattle.dossier_terms.specs.Lines.{visit_words}
use Rattle.line_out.specs.Parts.{next_word, part_word}
use Rattle.dossier_out.specs.Texts.{line_of_two, two_front_1, two_front_2, two_front_3}
use Rattle.cert_write.proofs.pool.put_route.Goals as goal

pub returns-in_err-put_all : goal.returns-in_err-put_all
returns-in_err-put_all g c =
    let runs = flat_map visit_words c.args.visits.now in
    puts_front g.K.Sink _ _ _ _ _ c.from_residual.result c.from_residual.ensures.0 c.in_err-put_all.ensures.puts (two_front_1 (codes "route") (decimal c.args.team) runs)

pub returns-in_err-put_next : goal.returns-in_err-put_next
returns-in_err-put_next g c =
    let runs = flat_map visit_words c.args.visits.now in
    puts_front g.K.Sink _ _ _ _ _ c.from_residual-in_err-put_next.result c.from_residual-in_err-put_next.ensures.0
    (puts_then g.K.Sink _ _ _ _ _ _ _ c.in_ok-put_all.ensures.puts (puts_same g.K.Sink _ _ _ _ _ (ap (λ p. next_word (part_word p)) c.number.ensures) c.in_err-put_next.ensures))
    (two_front_2 (codes "route") (decimal c.args.team) runs)

pub returns-in_err-put_visits : goal.returns-in_err-put_visits
returns-in_err-put_visits g c =
    let runs = flat_map visit_words c.args.visits.now in
    puts_front g.K.Sink _ _ _ _ _ c.from_residual-in_err-put_visits.result c.from_residual-in_err-put_visits.ensures.0
    (puts_then g.K.Sink _ _ _ _ _ _ _
    (puts_then g.K.Sink _ _ _ _ _ _ _ c.in_ok-put_all.ensures.puts (puts_same g.K.Sink _ _ _ _ _ (ap (λ p. next_word (part_word p)) c.number.ensures) c.in_ok-put_next.ensures))
    c.in_err-put_visits.ensures)
    (two_front_3 (codes "route") (decimal c.args.team) runs)

pub returns : goal.returns
returns g c =
    let runs = flat_map visit_words c.args.visits.now in
    puts_same g.K.Sink _ _ _ _ _ (sym (line_of_two (codes "route") (decimal c.args.team) runs))
    (puts_then g.K.Sink _ _ _ _ _ _ _
    (puts_then g.K.Sink _ _ _ _ _ _ _
    (puts_then g.K.Sink _ _ _ _ _ _ _ c.in_ok-put_all.ensures.puts (puts_same g.K.Sink _ _ _ _ _ (ap (λ p. next_word (part_word p)) c.number.ensures) c.in_ok-put_next.ensures))
    c.in_ok-put_visits.ensures)
    c.put_all-2.ensures.puts)
