use Rattle.std.proofs.Common.{◌≡◌, ℕ, List, Some, subst, sym}
use Rattle.crew_io.specs.Draws.{reads_none}
use Rattle.late_lines.specs.declared.first_line.LateLine.{LateLine}
use Rattle.late_lines.specs.First.{IsAfter}
use Rattle.late_lines.specs.Lines.{first_lines}
use Rattle.delay_command.proofs.Tells.{delays_tell, halts_first, halts_tell, nothing_tells, tells_read}
use Rattle.delay_command.proofs.command.write_delays.Goals as goal

pub returns-in_err-reader : goal.returns-in_err-reader
returns-in_err-reader g c =
    let src = c.args.src.now in
    let out = c.args.out.now in
    let none = reads_none g.S.Source src in
    delays_tell g.S.Source g.K.Sink (λ input. g.S.Source.left src ≡ Some input) src src src out out c.from_residual.result
    (nothing_tells g.S.Source g.K.Sink (λ input. g.S.Source.left src ≡ Some input) src src out c.from_residual.result c.from_residual.ensures.0 none) (λ input e. e) none

pub returns-in-Ok : goal.returns-in-Ok
returns-in-Ok g c =
    let src = c.args.src.now in
    let mid = c.read_lates.new.src in
    delays_tell g.S.Source g.K.Sink (λ input. IsAfter (first_lines c.deref.result.now) input c.read_lates.new.reader (g.S.Source.left mid)) src mid c.write_behind.new.src c.args.out.now c.write_behind.new.out
    c.write_behind.result c.write_behind.ensures
    (λ input e. subst (λ (ls : List LateLine). IsAfter (first_lines ls) input c.read_lates.new.reader (g.S.Source.left mid)) (sym c.deref.ensures.value) (c.in-Ok.ensures.says input e))
    (tells_read g.S.Source g.K.Sink src mid c.in-Ok.ensures.tells (λ e. absurd e) (λ e. absurd (cc)))

pub returns : goal.returns
returns g c =
    let src = c.args.src.now in
    let later = c.read_lates.new.src in
    delays_tell g.S.Source g.K.Sink (λ input. g.S.Source.left src ≡ Some input) src src later c.args.out.now c.put_halt.new.out c.put_halt.result
    (halts_tell g.S.Source g.K.Sink (λ input. g.S.Source.left src ≡ Some input) src later c.args.out.now c.refused_has_no_form.ensures c.put_halt.new.out c.in-Err.halt c.put_halt.result c.put_halt.ensures
    (λ input e. halts_first input (g.S.Source.left later) c.in-Err.halt (c.in-Err.ensures.says input e))
    (tells_read g.S.Source g.K.Sink src later c.in-Err.ensures.tells (λ e. cc) (λ e. cc)))
    (λ input e. e) (reads_none g.S.Source src)
