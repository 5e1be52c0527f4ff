use Rattle.std.proofs.Common.{◌-◌, [], not, length, ap, sym, ◌∙◌, append-nil}
use Rattle.crew_io.specs.Chains.{puts_done, puts_front, puts_nothing, puts_same}
use Rattle.why_not.specs.Why.{are_same}
use Rattle.why_not.proofs.Rows.{change_is, row_length, rows_are, run_ends, run_goes_on, start_stays, starts_anew}
use Rattle.why_not.proofs.runs.put_if_over.Goals as goal

pub are_same-requires : goal.are_same-requires
are_same-requires g c =
    let s = c.args.days.now in
    ap length (c.deref.ensures.0 ∙ c.requires.row) ∙ row_length s.instance s.plan c.args.j (c.args.t - 1) ∙ sym (ap length c.deref-2.ensures.0 ∙ c.row-row.ensures.teams)

pub returns-then-are_same-clause-text : goal.returns-then-are_same-clause-text
returns-then-are_same-clause-text g c =
    let s = c.args.days.now in
    let same = ap (λ x. are_same x c.deref-2.result.now) (sym c.deref.ensures.0) ∙ sym c.are_same.ensures in
    let e = change_is s.instance s.plan c.args.j c.args.t c.args.run.now.row.items c.deref-2.result.now c.requires.row (c.deref-2.ensures.0 ∙ c.row-row.ensures.row) ∙ ap not (same ∙ c.if-are_same.true) in
    puts_same g.K.Sink _ _ _ _ _ (run_goes_on s.instance s.plan c.args.j c.args.run.now.first c.args.t e)
    (puts_done g.K.Sink [] _ _ _ _ (puts_nothing g.K.Sink c.args.out.now))

pub returns-then-are_same-clause-first : goal.returns-then-are_same-clause-first
returns-then-are_same-clause-first g c =
    let s = c.args.days.now in
    let same = ap (λ x. are_same x c.deref-2.result.now) (sym c.deref.ensures.0) ∙ sym c.are_same.ensures in
    let e = change_is s.instance s.plan c.args.j c.args.t c.args.run.now.row.items c.deref-2.result.now c.requires.row (c.deref-2.ensures.0 ∙ c.row-row.ensures.row) ∙ ap not (same ∙ c.if-are_same.true) in
    start_stays s.instance s.plan c.args.j c.args.run.now.first c.args.t e

pub returns-then-are_same-clause-row : goal.returns-then-are_same-clause-row
returns-then-are_same-clause-row g c =
    let same = ap (λ x. are_same x c.deref-2.result.now) (sym c.deref.ensures.0) ∙ sym c.are_same.ensures in
    rows_are c.args.run.now.row.items c.deref-2.result.now (same ∙ c.if-are_same.true) ∙ c.deref-2.ensures.0 ∙ c.row-row.ensures.row

pub returns-in_err-put_run-clause-text : goal.returns-in_err-put_run-clause-text
returns-in_err-put_run-clause-text g c =
    let s = c.args.days.now in
    let same = ap (λ x. are_same x c.deref-2.result.now) (sym c.deref.ensures.0) ∙ sym c.are_same.ensures in
    let e = change_is s.instance s.plan c.args.j c.args.t c.args.run.now.row.items c.deref-2.result.now c.requires.row (c.deref-2.ensures.0 ∙ c.row-row.ensures.row) ∙ ap not (same ∙ c.if-are_same.false) in
    puts_front g.K.Sink _ _ _ _ _ c.from_residual.result c.from_residual.ensures.0 c.in_err-put_run.ensures
    (record { rest = []; is = sym (run_ends s.instance s.plan c.args.j c.args.run.now.first c.args.t e) ∙ sym (append-nil _) })

pub returns-clause-text : goal.returns-clause-text
returns-clause-text g c =
    let s = c.args.days.now in
    let same = ap (λ x. are_same x c.deref-2.result.now) (sym c.deref.ensures.0) ∙ sym c.are_same.ensures in
    let e = change_is s.instance s.plan c.args.j c.args.t c.args.run.now.row.items c.deref-2.result.now c.requires.row (c.deref-2.ensures.0 ∙ c.row-row.ensures.row) ∙ ap not (same ∙ c.if-are_same.false) in
    puts_same g.K.Sink _ _ _ _ _ (run_ends s.instance s.plan c.args.j c.args.run.now.first c.args.t e)
    (puts_done g.K.Sink _ _ _ _ _ c.in_ok-put_run.ensures)

pub returns-clause-first : goal.returns-clause-first
returns-clause-first g c =
    let s = c.args.days.now in
    let same = ap (λ x. are_same x c.deref-2.result.now) (sym c.deref.ensures.0) ∙ sym c.are_same.ensures in
    let e = change_is s.instance s.plan c.args.j c.args.t c.args.run.now.row.items c.deref-2.result.now c.requires.row (c.deref-2.ensures.0 ∙ c.row-row.ensures.row) ∙ ap not (same ∙ c.if-are_same.false) in
    starts_anew s.instance s.plan c.args.j c.args.run.now.first c.args.t e
