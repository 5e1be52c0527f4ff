use Rattle.std.proofs.Common.{◌≡◌, ◌+◌, suc, true, [], ◌∷◌, ◌++◌, length, ap, sym, subst, refl, ◌∙◌}
use Rattle.line_in.specs.Faults.{reason_for}
use Rattle.crew_terms.specs.Limits.{root_limits}
use Rattle.dossier_terms.specs.declared.Reason.TheVariants as reasons
use Rattle.dossier_terms.specs.Dossier.{Potentials}
use Rattle.leaf_check.specs.Keys.{has_minutes}
use Rattle.sheet_lines.specs.Rows.{open_from}
use Rattle.sheet_terms.specs.Reading.{No as Refuses}
use Rattle.sheet_terms.specs.Table.{SaysOfSheet, after_steps}
use Rattle.sheet_reader.specs.Reader.{HasTable, IsAt, IsAtSteps, SheetTells, sheet_of}
use Rattle.sheet_reader.specs.declared.reader.SheetReader.{SheetReader}
use Rattle.sheet_reader.proofs.TeamLines.{keys_after, known_team, minutes_at, some_minute, steps_broken, steps_read, table_count, table_more}
use Rattle.sheet_reader.proofs.Told.{steps_fault, tells_fault}
use Rattle.sheet_reader.proofs.reader.SheetReader.steps_line.Goals as goal

pub counted_minutes-first-requires : goal.counted_minutes-first-requires
counted_minutes-first-requires c =
    let i = c.args.limits.now.limits.instance in
    let a = c.requires.awaited in
    let here : IsAtSteps i a.0 c.args.self.now c.args.team c.args.task a.1 = subst (λ d. IsAt i a.0 c.args.self.now d a.1) c.requires.due a.2 in
    record {
      team = known_team i c.args.self.now here.tables here.left c.args.team here.read here.has;
      task = here.row.known;
      some = some_minute c.args.limits.now.limits c.args.team c.args.task (subst (λ m. has_minutes m c.args.team c.args.task ≡ true) (sym c.requires.root) here.row.opens);
    }

pub returns-in_err-pairs : goal.returns-in_err-pairs
returns-in_err-pairs c = λ budget s at.
    let i = c.args.limits.now.limits.instance in
    let r = c.args.self.now in
    let words = c.args.words in
    let fault = c.in_err-pairs.field-0.0 in
    let here : IsAtSteps i budget r c.args.team c.args.task s = subst (λ d. IsAt i budget r d s) c.requires.due at in
    tells_fault i budget (SaysOfSheet s words) fault c.from_residual.result r c.from_residual.ensures.1
    (subst (λ q. SaysOfSheet q words (Refuses (reason_for fault))) (sym here.is)
    (steps_fault (sheet_of i budget r here.tables) here.left here.table c.args.task here.js words fault c.in_err-pairs.ensures))

pub are_runs-requires : goal.are_runs-requires
are_runs-requires c =
    let h = c.in_ok-pairs.ensures in
    record { runs = h.0; some = h.3.some; numbers = h.1; minutes = h.3.minutes }

pub returns-then-not-are_runs : goal.returns-then-not-are_runs
returns-then-not-are_runs c = λ budget s at.
    let i = c.args.limits.now.limits.instance in
    let r = c.args.self.now in
    let words = c.args.words in
    let here : IsAtSteps i budget r c.args.team c.args.task s = subst (λ d. IsAt i budget r d s) c.requires.due at in
    let h = c.in_ok-pairs.ensures in
    let told = rw c.if-not-are_runs.true at (c.are_runs.ensures h.0 h.1) in
    let first = c.counted_minutes-first.result.0 in
    let past = first + c.counted_minutes-first.result.1 in
    let minutes = c.counted_minutes-first.ensures.minutes in
    let m = minutes_at i c.args.limits.now.limits (length here.tables) c.args.team c.args.task first c.counted_minutes-first.result.1 c.requires.root
    (table_count i r here.tables (suc here.left) c.args.team here.read here.has) minutes.opens minutes.counted in
    subst (λ q. SaysOfSheet q words (Refuses reasons.Steps)) (sym here.is)
    (steps_broken i budget r here.tables here.left here.table c.args.task here.js words h.0 h.3 h.4 first past m.0 m.1 told)

pub run_values-requires : goal.run_values-requires
run_values-requires c =
    let h = c.in_ok-pairs.ensures in
    record { runs = h.0; some = h.3.some; numbers = h.1; minutes = h.3.minutes }

pub after_row-requires-clause-worths : goal.after_row-requires-clause-worths
after_row-requires-clause-worths c =
    let i = c.args.limits.now.limits.instance in
    let a = c.requires.awaited in
    let has = (subst (λ d. IsAt i a.0 c.args.self.now d a.1) c.requires.due a.2).has in
    record { roomy = record { room = has.roomy.room; possible = has.roomy.possible }; prices = has.prices; count = has.count; few = has.few }

pub after_row-requires-clause-known : goal.after_row-requires-clause-known
after_row-requires-clause-known c =
    let i = c.args.limits.now.limits.instance in
    let a = c.requires.awaited in
    let here = subst (λ d. IsAt i a.0 c.args.self.now d a.1) c.requires.due a.2 in
    known_team i c.args.self.now here.tables here.left c.args.team here.read here.has

pub after_row-requires-clause-begun : goal.after_row-requires-clause-begun
after_row-requires-clause-begun c =
    let i = c.args.limits.now.limits.instance in
    let r = c.args.self.now in
    let a = c.requires.awaited in
    let here : IsAtSteps i a.0 r c.args.team c.args.task a.1 = subst (λ d. IsAt i a.0 r d a.1) c.requires.due a.2 in
    let h = c.in_ok-pairs.ensures in
    let row = c.in_ok-row.row.items in
    let first = c.counted_minutes-first.result.0 in
    let past = first + c.counted_minutes-first.result.1 in
    let minutes = c.counted_minutes-first.ensures.minutes in
    let m = minutes_at i c.args.limits.now.limits c.args.team c.args.team c.args.task first c.counted_minutes-first.result.1 c.requires.root refl minutes.opens minutes.counted in
    let are = rw c.if-not-are_runs.false at (c.are_runs.ensures h.0 h.1) in
    let new : SheetReader = record r { rows = c.push.new.self } in
    let is : new ≡ record r { rows = r.rows ++ row ∷ [] } = ap (λ rows. record r { rows = rows }) c.in_ok-push.ensures.ok in
    (record { worth = here.table.worth; phi = here.table.phi ++ row ∷ [] }, table_more i r new c.args.team c.args.task here.js here.table row first past h.0 here.begun here.row m.0 m.1 are (c.in_ok-row.ensures h.0 h.1) is)

pub returns : goal.returns
returns c = λ budget s at.
    let i = c.args.limits.now.limits.instance in
    let r = c.args.self.now in
    let words = c.args.words in
    let here : IsAtSteps i budget r c.args.team c.args.task s = subst (λ d. IsAt i budget r d s) c.requires.due at in
    let read = here.read in
    let h = c.in_ok-pairs.ensures in
    let row = c.in_ok-row.row.items in
    let first = c.counted_minutes-first.result.0 in
    let past = first + c.counted_minutes-first.result.1 in
    let minutes = c.counted_minutes-first.ensures.minutes in
    let m = minutes_at i c.args.limits.now.limits c.args.team c.args.team c.args.task first c.counted_minutes-first.result.1 c.requires.root refl minutes.opens minutes.counted in
    let q = minutes_at i c.args.limits.now.limits (length here.tables) c.args.team c.args.task first c.counted_minutes-first.result.1 c.requires.root
    (table_count i r here.tables (suc here.left) c.args.team read here.has) minutes.opens minutes.counted in
    let are = rw c.if-not-are_runs.false at (c.are_runs.ensures h.0 h.1) in
    let new : SheetReader = record r { rows = c.push.new.self } in
    let is : new ≡ record r { rows = r.rows ++ row ∷ [] } = ap (λ rows. record r { rows = rows }) c.in_ok-push.ensures.ok in
    let table : Potentials = record { worth = here.table.worth; phi = here.table.phi ++ row ∷ [] } in
    let begun : HasTable i new c.args.team table = table_more i r new c.args.team c.args.task here.js here.table row first past h.0 here.begun here.row m.0 m.1 are (c.in_ok-row.ensures h.0 h.1) is in
    let keys : open_from (root_limits i) c.args.team (length new.rows) ≡ here.js =
    ap (λ (x : SheetReader). open_from (root_limits i) c.args.team (length x.rows)) is ∙ keys_after i r c.args.team c.args.task here.js row here.row in
    subst (λ x. SheetTells i budget (SaysOfSheet x words) c.after_row.result c.after_row.new.self) (sym here.is)
    (steps_read i budget r here.tables here.left here.table c.args.task here.js words h.0 h.3 h.4 first past q.0 q.1 row c.after_row.result c.after_row.new.self are (c.in_ok-row.ensures h.0 h.1)
    (subst (λ ks. SheetTells i budget (after_steps (sheet_of i budget r here.tables) here.left table ks) c.after_row.result c.after_row.new.self) keys
    (c.after_row.ensures budget here.left here.tables table (record { worths = read.worths; count = read.count }) begun)))
