use Rattle.std.proofs.Common.{◌≡◌, ◌∷◌, [], None, Some, Ok, ap, subst, sym, ◌∙◌, arith}
use Rattle.std.specs.Prelude.{All}
use Rattle.cert_checker.specs.Checked.{verdict_of}
use Rattle.day_terms.specs.Ranges.{IsInRange}
use Rattle.day_terms.specs.Refusal.{AreTaken, refusal_of}
use Rattle.day_terms.specs.State.{DayState, start}
use Rattle.dossier_terms.specs.Lines.{text_of}
use Rattle.replan.specs.Planning.{IsEntered, Planning}
use Rattle.trial_command.specs.Taken.{HasTaken}
use Rattle.trial_command.proofs.DossierBytes.{all_behind}
use Rattle.trial_command.proofs.OneRound.{is_text, one_dossier, same_verdict, taken_last}
use Rattle.trial_command.proofs.plan.plan_entries.Goals as goal

pub take_entries-requires-clause-taken : goal.take_entries-requires-clause-taken
take_entries-requires-clause-taken c =
    let front = c.in-Some.front.now in
    let t = taken_last start front c.in-Some.last.now (subst (AreTaken start) c.in-Some.ensures.cases.0 c.requires.taken) in
    subst (λ (s : Planning). AreTaken s.day front) (sym c.requires.none_yet) t.0

pub take_entry-requires-clause-range : goal.take_entry-requires-clause-range
take_entry-requires-clause-range c =
    let last = c.in-Some.last.now in
    all_behind IsInRange c.in-Some.front.now (last ∷ []) (subst (All IsInRange) c.in-Some.ensures.cases.0 c.requires.range) 0 last (omega arith)

pub take_entry-requires-clause-taken : goal.take_entry-requires-clause-taken
take_entry-requires-clause-taken c =
    let front = c.in-Some.front.now in
    let last = c.in-Some.last.now in
    let t = taken_last start front last (subst (AreTaken start) c.in-Some.ensures.cases.0 c.requires.taken) in
    let taken = subst (λ (x : Planning). HasTaken x front c.take_entries.new.session) c.requires.none_yet c.in_ok-take_entries.ensures.taken in
    subst (λ (x : DayState). refusal_of x last ≡ None) (sym (ap (λ (x : Planning). x.day) taken.state)) t.1

pub unreachable-requires-in_default-verdict : goal.unreachable-requires-in_default-verdict
unreachable-requires-in_default-verdict c =
    let s = c.take_entries.new.session in
    let old = c.take_entries.new.sink in
    let new = c.take_entry.new.sink in
    let e = subst (λ done. IsEntered s c.in-Some.last.now (Ok done) c.take_entry.new.session (Some old.got) (Some new.got)) c.in-Round.is c.in_ok-take_entry.ensures.entered in
    let d = e.1.0 in
    let got = is_text old new (text_of d) (c.in_ok-take_entries.ensures.sink ∙ c.requires.unwritten) e.1.4 in
    c.in_default-verdict.not-Some (verdict_of d) (c.verdict.ensures.good d e.1.1.dossier.good got)

pub returns : goal.returns
returns c =
    let s = c.take_entries.new.session in
    let front = c.in-Some.front.now in
    let last = c.in-Some.last.now in
    let old = c.take_entries.new.sink in
    let new = c.take_entry.new.sink in
    let taken = subst (λ (x : Planning). HasTaken x front s) c.requires.none_yet c.in_ok-take_entries.ensures.taken in
    let e = subst (λ done. IsEntered s last (Ok done) c.take_entry.new.session (Some old.got) (Some new.got)) c.in-Round.is c.in_ok-take_entry.ensures.entered in
    let d = e.1.0 in
    let got = is_text old new (text_of d) (c.in_ok-take_entries.ensures.sink ∙ c.requires.unwritten) e.1.4 in
    let says = sym c.in-Some-verdict.is ∙ c.verdict.ensures.good d e.1.1.dossier.good got in
    (d, one_dossier s front c.args.entries.now last d taken c.in-Some.ensures.cases.0 e.1.1, same_verdict c.in-Some-verdict.verdict (verdict_of d) says)
