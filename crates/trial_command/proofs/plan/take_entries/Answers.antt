use Rattle.std.proofs.Common.{◌≡◌, ◌<◌, ◌++◌, ◌∷◌, [], None, Some, Ok, length, take, get_or, ap, subst, sym, ◌∙◌, refl, arith}
use Rattle.std.proofs.lemmas.List.{take_more}
use Rattle.day_terms.specs.declared.Entry.{Entry}
use Rattle.day_terms.specs.Refusal.{refusal_of}
use Rattle.day_terms.specs.State.{DayState}
use Rattle.replan.specs.Entries.{no_round}
use Rattle.replan.specs.Planning.{IsEntered, Planning}
use Rattle.trial_command.specs.LastRound.{BeginsNoRound}
use Rattle.trial_command.specs.Taken.{HasTaken}
use Rattle.trial_command.proofs.OneRound.{same_check, taken_at, taken_more, taken_none}
use Rattle.trial_command.proofs.plan.take_entries.Goals as goal

pub loop-entry-init : goal.loop-entry-init
loop-entry-init c = (taken_none c.args.session.now, refl)

pub take_entry-requires-clause-taken : goal.take_entry-requires-clause-taken
take_entry-requires-clause-taken c =
    let first = c.args.session.now in
    let entries = c.args.entries.now in
    let entry = c.entry-item.result in
    let i = c.loop-entry.entry-index in
    let below : i < length entries = omega arith in
    let day = ap (λ (x : Planning). x.day) c.loop-entry.invariant.0.state in
    subst (λ (e : Entry). refusal_of c.loop-entry.session.day e ≡ None) (sym c.entry-item.is)
    (subst (λ (x : DayState). refusal_of x (get_or entries i entry) ≡ None) (sym day) (taken_at first.day entries i entry c.requires.taken below))

pub unreachable-requires : goal.unreachable-requires
unreachable-requires c =
    let s = c.loop-entry.session in
    let entries = c.args.entries.now in
    let entry = c.entry-item.result in
    let i = c.loop-entry.entry-index in
    let below : i < length entries = omega arith in
    let none = no_round s.day entry (subst BeginsNoRound (sym c.entry-item.is) (c.requires.no_round i entry below)) in
    let e = subst (λ done. IsEntered s entry (Ok done) c.take_entry.new.session (Some c.loop-entry.sink.got) (Some c.take_entry.new.sink.got)) c.in_default.is c.in_ok-take_entry.ensures.entered in
    absurd (let n = ap length (sym none ∙ e.1.1.begins) in omega arith)

pub loop-entry-preserved : goal.loop-entry-preserved
loop-entry-preserved c =
    let first = c.args.session.now in
    let s = c.loop-entry.session in
    let new = c.take_entry.new.session in
    let so = c.loop-entry.invariant.0 in
    let entries = c.args.entries.now in
    let entry = c.entry-item.result in
    let i = c.loop-entry.entry-index in
    let below : i < length entries = omega arith in
    let e = subst (λ done. IsEntered s entry (Ok done) new (Some c.loop-entry.sink.got) (Some c.take_entry.new.sink.got)) c.in-Changed.is c.in_ok-take_entry.ensures.entered in (
      subst (λ es. HasTaken first es new) (sym (take_more entries i entry below))
          (subst (λ (x : Entry). HasTaken first (take i entries ++ x ∷ []) new) c.entry-item.is (taken_more first s new (take i entries) entry so e.1 e.2)),
      same_check c.take_entry.new.sink c.loop-entry.sink e.3 c.in_ok-take_entry.ensures.faults ∙ c.loop-entry.invariant.1,
    )
