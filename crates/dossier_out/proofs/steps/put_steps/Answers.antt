use Rattle.std.proofs.Common.{◌-◌, ap, sym}
use Rattle.std.specs.Prelude.{codes}
use Rattle.std.specs.Fmt.{decimal}
use Rattle.std.specs.List.{flat_map}
use Rattle.crew_io.specs.Chains.{puts_then, puts_same, puts_front}
use Rattle.dossier_terms.specs.Lines.{run_words}
use Rattle.dossier_terms.specs.Runs.{runs_of}
use Rattle.line_out.specs.Parts.{next_word, part_word}
use Rattle.dossier_out.specs.Steps.{row_of}
use Rattle.dossier_out.specs.Texts.{line_of_two, two_front_1, two_front_2, two_front_3}
use Rattle.dossier_out.proofs.steps.put_steps.Goals as goal

pub returns-in_err-put_all : goal.returns-in_err-put_all
returns-in_err-put_all g c =
    let runs = flat_map run_words (runs_of c.args.first (row_of c.args.table.now c.args.j c.args.first (c.args.end - c.args.first))) in
    puts_front g.K.Sink _ _ _ _ _ c.from_residual.result c.from_residual.ensures.0 c.in_err-put_all.ensures.puts (two_front_1 (codes "steps") (decimal c.args.j) runs)

pub returns-in_err-put_next : goal.returns-in_err-put_next
returns-in_err-put_next g c =
    let runs = flat_map run_words (runs_of c.args.first (row_of c.args.table.now c.args.j c.args.first (c.args.end - c.args.first))) in
    puts_front g.K.Sink _ _ _ _ _ c.from_residual-in_err-put_next.result c.from_residual-in_err-put_next.ensures.0
    (puts_then g.K.Sink _ _ _ _ _ _ _ c.in_ok-put_all.ensures.puts (puts_same g.K.Sink _ _ _ _ _ (ap (λ p. next_word (part_word p)) c.number.ensures) c.in_err-put_next.ensures))
    (two_front_2 (codes "steps") (decimal c.args.j) runs)

pub returns-in_err-put_runs : goal.returns-in_err-put_runs
returns-in_err-put_runs g c =
    let runs = flat_map run_words (runs_of c.args.first (row_of c.args.table.now c.args.j c.args.first (c.args.end - c.args.first))) in
    puts_front g.K.Sink _ _ _ _ _ c.from_residual-in_err-put_runs.result c.from_residual-in_err-put_runs.ensures.0
    (puts_then g.K.Sink _ _ _ _ _ _ _
    (puts_then g.K.Sink _ _ _ _ _ _ _ c.in_ok-put_all.ensures.puts (puts_same g.K.Sink _ _ _ _ _ (ap (λ p. next_word (part_word p)) c.number.ensures) c.in_ok-put_next.ensures))
    c.in_err-put_runs.ensures)
    (two_front_3 (codes "steps") (decimal c.args.j) runs)

pub returns : goal.returns
returns g c =
    let runs = flat_map run_words (runs_of c.args.first (row_of c.args.table.now c.args.j c.args.first (c.args.end - c.args.first))) in
    puts_same g.K.Sink _ _ _ _ _ (sym (line_of_two (codes "steps") (decimal c.args.j) runs))
    (puts_then g.K.Sink _ _ _ _ _ _ _
    (puts_then g.K.Sink _ _ _ _ _ _ _
    (puts_then g.K.Sink _ _ _ _ _ _ _ c.in_ok-put_all.ensures.puts (puts_same g.K.Sink _ _ _ _ _ (ap (λ p. next_word (part_word p)) c.number.ensures) c.in_ok-put_next.ensures))
    c.in_ok-put_runs.ensures)
    c.put_all-2.ensures.puts)
