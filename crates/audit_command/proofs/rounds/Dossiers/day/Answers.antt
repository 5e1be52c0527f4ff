use Rattle.std.proofs.Common.{◌≡◌, ◌<◌, ◌+◌, Option, None, Some, Result, Ok, length, take, drop, ap, sym, subst, ◌∙◌, arith}
use Rattle.std.proofs.Math.Seq.{take-length}
use Rattle.std.specs.Prelude.{All, IfSome}
use Rattle.crew_io.specs.Draws.{reads_none, reads_then}
use Rattle.crew_io.specs.Results.{err_is_not_ok}
use Rattle.day_terms.specs.Days.{IsDayOf}
use Rattle.day_terms.specs.Ranges.{IsInRange}
use Rattle.audit_command.specs.Reads.{IsAmid, IsFound, ReadsEntry}
use Rattle.audit_command.specs.declared.rounds.Found.{Found}
use Rattle.audit_command.specs.declared.rounds.Found.TheVariants as finds
use Rattle.audit_command.proofs.DayLaws.{DayLaws}
use Rattle.audit_command.proofs.Going.{IsSoFar, at_end, bad_record, entries_at, entries_more, found_at, front_count, goes_on, starts}
use Rattle.audit_command.proofs.rounds.Dossiers.day.Goals as goal

same_found : {E : Type 0} {a b : Found} → ◌≡◌ {A = Result Found E} (Ok a) (Ok b) → a ≡ b
same_found e = cc

none_no_fault : {E : Type 0} (o : Option Found) → o ≡ None → ◌≡◌ {A = Result (Option Found) E} (Ok o) (Ok (Some finds.ReadFault)) → ⊥
none_no_fault o is e = cc

some_amid : (o : Option Found) (found : Found) → o ≡ Some found → IfSome o IsAmid → IsAmid found
some_amid o found is h = let P : Option Found → Type 0 = λ x. IfSome x IsAmid in subst P is h

some_same : {E : Type 0} (o : Option Found) (found other : Found) → o ≡ Some found → ◌≡◌ {A = Result (Option Found) E} (Ok o) (Ok (Some other)) → found ≡ other
some_same o found other is e = let f : Some found ≡ Some other = (let g : o ≡ Some other = cc in sym is ∙ g) in cc

pub loop-n-init : goal.loop-n-init
loop-n-init g c = record {
  so_far = starts c.args.self.now (g.S.Source.left c.args.src.now) c.requires.audit c.requires.rounds c.requires.going;
  tells = reads_none g.S.Source c.args.src.now;
}

pub entry-requires-clause-range : goal.entry-requires-clause-range
entry-requires-clause-range g c =
    let below : c.loop-n.n < length c.as_slice-entries.result.now = (let t = c.loop-n-test.true in omega (arith, t)) in
    subst IsInRange (sym c.index-entries-n.is) ((subst (All IsInRange) (sym c.as_slice-entries.ensures) c.requires.range) c.loop-n.n c.index-entries-n.result below)

pub entry-requires-clause-going : goal.entry-requires-clause-going
entry-requires-clause-going g c = c.loop-n.invariant.so_far.going

pub entry-requires-clause-few : goal.entry-requires-clause-few
entry-requires-clause-few g c =
    let t = c.loop-n-test.true in
    let f = c.loop-n.invariant.so_far.few in
    let n = front_count c.as_slice-entries.result.now c.loop-n.n (omega (arith, t)) in
    omega (arith, f, n)

pub loop-n-preserved : goal.loop-n-preserved
loop-n-preserved g c =
    let laws : DayLaws = record {
      takes = c.state_takes_entries.ensures;
      refusal = c.plans_to_come_decide_nothing.ensures.refusal;
      round = c.plans_to_come_decide_nothing.ensures.round;
      count = c.rounds_are_of_plans.ensures.count;
      appended = c.rounds_go_on.ensures.appended;
      one_more = c.rounds_go_on.ensures.one_more;
      next_state = c.state_goes_on.ensures.one_more;
      state = c.state_goes_on.ensures.later;
      rounds = c.state_goes_on.ensures.rounds;
      taken = c.state_goes_on.ensures.taken;
    } in
    let entries = c.as_slice-entries.result.now in
    let entry = c.index-entries-n.result in
    let below : c.loop-n.n < length entries = (let t = c.loop-n-test.true in omega (arith, t)) in
    let i = c.loop-n.invariant in
    let left = g.S.Source.left c.loop-n.src in
    let later = g.S.Source.left c.entry.new.src in
    record {
      so_far = subst (λ es. IsSoFar c.args.self.now (g.S.Source.left c.args.src.now) es c.entry.new.self later) (entries_more entries c.loop-n.n entry below c.index-entries-n.is)
          (goes_on laws c.args.self.now c.loop-n.self c.entry.new.self (g.S.Source.left c.args.src.now) left later (take c.loop-n.n entries) (c.loop-n.n + 1) entry i.so_far
          (subst (λ f. ReadsEntry c.loop-n.self left (c.loop-n.n + 1) entry f c.entry.new.self later) c.in_default.is c.in_ok-found.ensures.reads));
      tells = reads_then g.S.Source _ _ _ (λ fault. fault) i.tells c.in_ok-found.ensures.tells (λ fault. absurd fault) (λ e. none_no_fault c.in_ok-found.field-0 c.in_default.is e);
    }

pub returns-in-Some-clause-found : goal.returns-in-Some-clause-found
returns-in-Some-clause-found g c = λ input text day l.
    let laws : DayLaws = record {
      takes = c.state_takes_entries.ensures;
      refusal = c.plans_to_come_decide_nothing.ensures.refusal;
      round = c.plans_to_come_decide_nothing.ensures.round;
      count = c.rounds_are_of_plans.ensures.count;
      appended = c.rounds_go_on.ensures.appended;
      one_more = c.rounds_go_on.ensures.one_more;
      next_state = c.state_goes_on.ensures.one_more;
      state = c.state_goes_on.ensures.later;
      rounds = c.state_goes_on.ensures.rounds;
      taken = c.state_goes_on.ensures.taken;
    } in
    let entries = c.as_slice-entries.result.now in
    let entry = c.index-entries-n.result in
    let below : c.loop-n.n < length entries = (let t = c.loop-n-test.true in omega (arith, t)) in
    let at : length (take c.loop-n.n entries) ≡ c.loop-n.n = front_count entries c.loop-n.n (omega (arith, below)) in
    let left = g.S.Source.left c.loop-n.src in
    let later = g.S.Source.left c.entry.new.src in
    let read = subst (λ f. ReadsEntry c.loop-n.self left (c.loop-n.n + 1) entry f c.entry.new.self later) c.in-Some.is c.in_ok-found.ensures.reads in
    found_at laws c.args.self.now c.loop-n.self c.entry.new.self (g.S.Source.left c.args.src.now) left later (take c.loop-n.n entries) (drop (c.loop-n.n + 1) entries) c.args.day.now.stop entry c.in-Some.found
    c.loop-n.invariant.so_far (subst (λ n. ReadsEntry c.loop-n.self left (n + 1) entry (Some c.in-Some.found) c.entry.new.self later) (sym at) read) input text
    (subst (λ es. IsDayOf text es c.args.day.now.stop) (sym c.as_slice-entries.ensures ∙ entries_at entries c.loop-n.n entry below c.index-entries-n.is) day) l

pub returns-in-Some-clause-line : goal.returns-in-Some-clause-line
returns-in-Some-clause-line g c = (some_amid c.in_ok-found.field-0 c.in-Some.found c.in-Some.is c.in_ok-found.ensures.amid).line

pub returns-in-Some-clause-ended : goal.returns-in-Some-clause-ended
returns-in-Some-clause-ended g c = λ rounds e. absurd ((some_amid c.in_ok-found.field-0 c.in-Some.found c.in-Some.is c.in_ok-found.ensures.amid).amid rounds (same_found e))

pub returns-in-Some-clause-tells : goal.returns-in-Some-clause-tells
returns-in-Some-clause-tells g c =
    reads_then g.S.Source _ _ _ (λ fault. fault) c.loop-n.invariant.tells c.in_ok-found.ensures.tells
    (λ e. ap Ok (c.in-Some.is ∙ ap Some (same_found e))) (λ e. ap Ok (some_same c.in_ok-found.field-0 c.in-Some.found finds.ReadFault c.in-Some.is e))

pub returns-in_err-found-clause-tells : goal.returns-in_err-found-clause-tells
returns-in_err-found-clause-tells g c =
    reads_then g.S.Source _ _ _ (λ fault. fault) c.loop-n.invariant.tells c.in_err-found.ensures.tells
    (λ e. absurd (err_is_not_ok c.from_residual.result _ c.from_residual.ensures.0 e)) (λ e. absurd (cc))

pub returns-in-Some-stop-clause-found : goal.returns-in-Some-stop-clause-found
returns-in-Some-stop-clause-found g c = λ input text day l.
    let laws : DayLaws = record {
      takes = c.state_takes_entries.ensures;
      refusal = c.plans_to_come_decide_nothing.ensures.refusal;
      round = c.plans_to_come_decide_nothing.ensures.round;
      count = c.rounds_are_of_plans.ensures.count;
      appended = c.rounds_go_on.ensures.appended;
      one_more = c.rounds_go_on.ensures.one_more;
      next_state = c.state_goes_on.ensures.one_more;
      state = c.state_goes_on.ensures.later;
      rounds = c.state_goes_on.ensures.rounds;
      taken = c.state_goes_on.ensures.taken;
    } in
    let entries = c.as_slice-entries.result.now in
    let all : c.loop-n.n ≡ length entries = (let t = c.loop-n-test.false in let b = c.loop-n.auto.n-end in omega (arith, t, b)) in
    let left = g.S.Source.left c.loop-n.src in
    let s = subst (λ es. IsSoFar c.args.self.now (g.S.Source.left c.args.src.now) es c.loop-n.self left) (ap (λ m. take m entries) all ∙ take-length entries) c.loop-n.invariant.so_far in
    subst (IsFound input left) (sym c.refused.ensures) (bad_record laws c.args.self.now c.loop-n.self (g.S.Source.left c.args.src.now) left left entries c.in-Some-stop.stop s input text
    (subst (IsDayOf text entries) c.in-Some-stop.is (subst (λ es. IsDayOf text es c.args.day.now.stop) (sym c.as_slice-entries.ensures) day)) l)

pub returns-in-None-clause-found : goal.returns-in-None-clause-found
returns-in-None-clause-found g c = λ input text day l.
    let laws : DayLaws = record {
      takes = c.state_takes_entries.ensures;
      refusal = c.plans_to_come_decide_nothing.ensures.refusal;
      round = c.plans_to_come_decide_nothing.ensures.round;
      count = c.rounds_are_of_plans.ensures.count;
      appended = c.rounds_go_on.ensures.appended;
      one_more = c.rounds_go_on.ensures.one_more;
      next_state = c.state_goes_on.ensures.one_more;
      state = c.state_goes_on.ensures.later;
      rounds = c.state_goes_on.ensures.rounds;
      taken = c.state_goes_on.ensures.taken;
    } in
    let entries = c.as_slice-entries.result.now in
    let all : c.loop-n.n ≡ length entries = (let t = c.loop-n-test.false in let b = c.loop-n.auto.n-end in omega (arith, t, b)) in
    let left = g.S.Source.left c.loop-n.src in
    let s = subst (λ es. IsSoFar c.args.self.now (g.S.Source.left c.args.src.now) es c.loop-n.self left) (ap (λ m. take m entries) all ∙ take-length entries) c.loop-n.invariant.so_far in
    at_end laws c.args.self.now c.loop-n.self (g.S.Source.left c.args.src.now) left (g.S.Source.left c.end.new.src) entries c.end.result s c.end.ensures.ends input text
    (subst (IsDayOf text entries) c.in-None.is (subst (λ es. IsDayOf text es c.args.day.now.stop) (sym c.as_slice-entries.ensures) day)) l
