-- a day whose last entry begins its one round
use Rattle.std.proofs.Common.{◌≡◌, ◌<◌, ◌++◌, ◌∷◌, [], ℕ, zero, suc, List, None, Some, length, take, get_or, ap, subst, sym, refl, ◌∙◌, arith, append-nil, append_assoc}
use Rattle.std.specs.Prelude.{fold}
use Rattle.std.proofs.lemmas.List.Sums.{fold-append}
use Rattle.crew_io.specs.Io.{Appended}
use Rattle.cert_checker.specs.declared.checker.Verdict.{Verdict}
use Rattle.dossier_terms.specs.Dossier.{Dossier}
use Rattle.day_terms.specs.declared.Entry.{Entry}
use Rattle.day_terms.specs.State.{DayState}
use Rattle.day_terms.specs.Entries.{after_entry}
use Rattle.day_terms.specs.Refusal.{AreTaken, refusal_of}
use Rattle.day_terms.specs.Rounds.{rounds_from, rounds_of, round_at}
use Rattle.replan.specs.Planning.{Planning, IsDossierAt, no_entry_yet}
use Rattle.replan.specs.Rounds.{AreRoundDossiers, IsRoundDossier}
use Rattle.trial_command.specs.Checking.{Checking, fresh_check}
use Rattle.trial_command.specs.Taken.{HasTaken}

-- the rounds of entries, and of one more
rounds_more : (s : DayState) (front : List Entry) (last : Entry) → rounds_from s (front ++ last ∷ []) ≡ rounds_from s front ++ round_at (fold after_entry s front) last
rounds_more s [] last = append-nil (round_at s last)
rounds_more s (entry ∷ front) last =
    ap (λ rounds. round_at s entry ++ rounds) (rounds_more (after_entry s entry) front last)
    ∙ sym (append_assoc (round_at s entry) (rounds_from (after_entry s entry) front) (round_at (fold after_entry (after_entry s entry) front) last))

pub taken_none : (first : Planning) → HasTaken first [] first
taken_none first = record { state = refl; rounds = refl }

pub taken_more : (first s new : Planning) (front : List Entry) (entry : Entry) → HasTaken first front s → round_at s.day entry ≡ [] → new ≡ record s { day = after_entry s.day entry }
    → HasTaken first (front ++ entry ∷ []) new
taken_more first s new front entry so none is =
    let day = ap (λ (x : Planning). x.day) so.state in record {
      state =
          is
          ∙ ap (λ (x : Planning). record x { day = after_entry x.day entry }) so.state
          ∙ ap (λ (x : DayState). record first { day = x }) (sym (fold-append after_entry first.day front (entry ∷ [])));
      rounds =
          rounds_more first.day front entry
          ∙ ap (λ rounds. rounds ++ round_at (fold after_entry first.day front) entry) so.rounds
          ∙ subst (λ (x : DayState). round_at x entry ≡ []) day none;
    }

-- each entry is taken in the state behind those before it
pub taken_at : (s : DayState) (entries : List Entry) (i : ℕ) (d : Entry) → AreTaken s entries → i < length entries → refusal_of (fold after_entry s (take i entries)) (get_or entries i d) ≡ None
taken_at s [] i d taken below = absurd (omega arith)
taken_at s (entry ∷ entries) zero d taken below = taken.0
taken_at s (entry ∷ entries) (suc i) d taken below = taken_at (after_entry s entry) entries i d taken.1 (omega arith)

-- those before the last one are taken, and so is that one behind them
pub taken_last : (s : DayState) (front : List Entry) (last : Entry) → AreTaken s (front ++ last ∷ []) → AreTaken s front × (refusal_of (fold after_entry s front) last ≡ None)
taken_last s [] last taken = (tt, taken.0)
taken_last s (entry ∷ front) last taken =
    let later = taken_last (after_entry s entry) front last taken.1 in
    ((taken.0, later.0), later.1)

-- the dossier of the round that one more entry begins is that of the day
pub one_dossier : (s : Planning) (front entries : List Entry) (last : Entry) (d : Dossier) → HasTaken no_entry_yet front s → entries ≡ front ++ last ∷ [] → IsDossierAt s last d
    → AreRoundDossiers [] (rounds_of [] entries) (d ∷ [])
one_dossier s front entries last d so is at =
    let day = ap (λ (x : Planning). x.day) so.state in
    let begins : round_at (fold after_entry no_entry_yet.day front) last ≡ at.round ∷ [] = subst (λ (x : DayState). round_at x last ≡ at.round ∷ []) day at.begins in
    let rounds : rounds_of [] entries ≡ at.round ∷ [] =
    ap (rounds_of []) is ∙ rounds_more no_entry_yet.day front last ∙ ap (λ rounds. rounds ++ round_at (fold after_entry no_entry_yet.day front) last) so.rounds ∙ begins in
    subst (λ rounds. AreRoundDossiers [] rounds (d ∷ [])) (sym rounds) (subst (λ handed. IsRoundDossier handed at.round d) (ap (λ (x : Planning). x.handed) so.state) at.dossier, tt)

-- a sink that got the same, with as many faults
pub same_check : (a b : Checking) → Some a.got ≡ Some b.got → a.faults ≡ b.faults → a ≡ b
same_check a b got faults =
    let same : a.got ≡ b.got = cc in
    ap (λ x. record a { got = x }) same ∙ ap (λ x. record a { got = b.got; faults = x }) faults

-- what a sink got to which nothing else was written
pub is_text : (old new : Checking) (text : List ℕ) → old ≡ fresh_check → Appended (Some old.got) (Some new.got) text → new.got ≡ text
is_text old new text fresh put =
    let got : new.got ≡ old.got ++ text = cc in
    got ∙ ap (λ (s : Checking). s.got ++ text) fresh

pub same_verdict : (a b : Verdict) → Some a ≡ Some b → a ≡ b
same_verdict a b e = cc
