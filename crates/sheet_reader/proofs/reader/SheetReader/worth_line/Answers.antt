use Rattle.std.proofs.Common.{◌≡◌, suc, [], sym, subst, FitsSigned, rules, to_z, of_z, w64}
use Rattle.std.proofs.lemmas.Int.{to_z-of_z}
use Rattle.line_in.specs.Faults.{reason_for}
use Rattle.crew_terms.specs.Limits.{root_limits}
use Rattle.sheet_lines.specs.Rows.{HasRowsBefore}
use Rattle.sheet_terms.specs.Reading.{No as Refuses}
use Rattle.sheet_terms.specs.Table.{SaysOfSheet}
use Rattle.sheet_reader.specs.Reader.{IsAt, SheetTells, sheet_of}
use Rattle.sheet_reader.proofs.Rows.{no_row}
use Rattle.sheet_reader.proofs.TeamLines.{known_team, table_count, worth_read}
use Rattle.sheet_reader.proofs.Told.{tells_fault, worth_fault}
use Rattle.sheet_reader.proofs.reader.SheetReader.worth_line.Goals as goal

pub returns-in_err-worth : goal.returns-in_err-worth
returns-in_err-worth c = λ budget s at.
    let i = c.args.limits.now.limits.instance in
    let r = c.args.self.now in
    let words = c.args.words in
    let fault = c.in_err-worth.field-0.0 in
    let here = subst (λ d. IsAt i budget r d s) c.requires.due at in
    tells_fault i budget (SaysOfSheet s words) fault c.from_residual.result r c.from_residual.ensures.1
    (subst (λ q. SaysOfSheet q words (Refuses (reason_for fault))) (sym here.is) (worth_fault (sheet_of i budget r here.tables) here.left words fault c.in_err-worth.ensures))

pub after_row-requires-clause-worths : goal.after_row-requires-clause-worths
after_row-requires-clause-worths c =
    let i = c.args.limits.now.limits.instance in
    let a = c.requires.awaited in
    let has = (subst (λ d. IsAt i a.0 c.args.self.now d a.1) c.requires.due a.2).has in
    record { roomy = record { room = has.roomy.room; possible = has.roomy.possible }; prices = has.prices; count = has.count; few = has.few }

pub after_row-requires-clause-known : goal.after_row-requires-clause-known
after_row-requires-clause-known c =
    let i = c.args.limits.now.limits.instance in
    let a = c.requires.awaited in
    let here = subst (λ d. IsAt i a.0 c.args.self.now d a.1) c.requires.due a.2 in
    known_team i c.args.self.now here.tables here.left c.args.team here.read here.has

pub after_row-requires-clause-begun : goal.after_row-requires-clause-begun
after_row-requires-clause-begun c =
    let i = c.args.limits.now.limits.instance in
    let none = subst (λ rows. HasRowsBefore (root_limits i) c.args.team rows []) (sym c.new.ensures) (no_row (root_limits i) c.args.team) in
    let fits : FitsSigned w64 c.in_ok-worth.worth = search rules in
    let is : to_z w64 (of_z w64 c.in_ok-worth.worth) ≡ c.in_ok-worth.worth = to_z-of_z w64 c.in_ok-worth.worth fits in
    (record { worth = c.in_ok-worth.worth; phi = [] }, record { worth = cc; rows = none })

pub returns : goal.returns
returns c = λ budget s at.
    let i = c.args.limits.now.limits.instance in
    let r = c.args.self.now in
    let words = c.args.words in
    let here = subst (λ d. IsAt i budget r d s) c.requires.due at in
    let read = here.read in
    let h = c.in_ok-worth.ensures in
    let none = subst (λ rows. HasRowsBefore (root_limits i) c.args.team rows []) (sym c.new.ensures) (no_row (root_limits i) c.args.team) in
    let fits : FitsSigned w64 c.in_ok-worth.worth = search rules in
    let is : to_z w64 (of_z w64 c.in_ok-worth.worth) ≡ c.in_ok-worth.worth = to_z-of_z w64 c.in_ok-worth.worth fits in
    subst (λ q. SheetTells i budget (SaysOfSheet q words) c.after_row.result c.after_row.new.self) (sym here.is)
    (worth_read i budget r here.tables here.left c.args.team words (table_count i r here.tables (suc here.left) c.args.team read here.has) c.in_ok-worth.worth c.new.result c.after_row.result c.after_row.new.self h.0 h.1 c.new.ensures
    (c.after_row.ensures budget here.left here.tables (record { worth = c.in_ok-worth.worth; phi = [] }) (record { worths = read.worths; count = read.count }) (record { worth = cc; rows = none })))
