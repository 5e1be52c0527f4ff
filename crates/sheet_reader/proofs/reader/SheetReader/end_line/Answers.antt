use Rattle.std.proofs.Common.{refl, subst, sym}
use Rattle.line_in.specs.Faults.{reason_for}
use Rattle.sheet_terms.specs.Reading.{Whole as Done, No as Refuses}
use Rattle.sheet_terms.specs.Rules.{Holds}
use Rattle.sheet_terms.specs.Table.{SaysOfSheet}
use Rattle.sheet_reader.specs.Reader.{IsAt, sheet_of}
use Rattle.sheet_reader.proofs.Told.{end_fault, tells_fault}
use Rattle.sheet_reader.proofs.reader.SheetReader.end_line.Goals as goal

pub returns-in_err-read_end : goal.returns-in_err-read_end
returns-in_err-read_end c = λ i budget s at.
    let r = c.args.self.now in
    let words = c.args.words in
    let fault = c.in_err-read_end.field-0.0 in
    let here = subst (λ d. IsAt i budget r d s) c.requires.due at in
    tells_fault i budget (SaysOfSheet s words) fault c.from_residual.result r c.from_residual.ensures.1
    (subst (λ q. SaysOfSheet q words (Refuses (reason_for fault))) (sym here.1) (end_fault (sheet_of i budget r here.0) words fault c.in_err-read_end.ensures))

pub returns : goal.returns
returns c = λ i budget s at.
    let r = c.args.self.now in
    let here = subst (λ d. IsAt i budget r d s) c.requires.due at in
    let sheet = sheet_of i budget r here.0 in
    (sheet, subst (λ q. SaysOfSheet q c.args.words (Done sheet)) (sym here.1) (Holds c.in_ok-read_end.ensures refl), refl)
