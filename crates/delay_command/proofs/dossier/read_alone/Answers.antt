use Rattle.std.proofs.Common.{◌≡◌, ◌+◌, [], Result, Ok, ap, refl, subst}
use Rattle.crew_io.specs.Draws.{reads_then}
use Rattle.dossier_commands.specs.Input.{IsOutcome, OpensNext}
use Rattle.dossier_commands.specs.declared.input.Outcome.{Outcome}
use Rattle.dossier_commands.specs.declared.input.Outcome.TheVariants as outcome
use Rattle.delay_command.specs.Alone.{InDossier, IsWholeAndTrue}
use Rattle.delay_command.proofs.Alone.{cut_amid, ends_where_ok, told, where_ok}
use Rattle.delay_command.proofs.dossier.read_alone.Goals as goal

not_fault : {E : Type 0} (x y : Outcome) → x ≡ y → (y ≡ outcome.ReadFault → ⊥) → ◌≡◌ {A = Result Outcome E} (Ok x) (Ok outcome.ReadFault) → ⊥
not_fault x y is apart e = apart (let f : x ≡ outcome.ReadFault = cc in cc)

pub returns-in-Yes-clause-whole : goal.returns-in-Yes-clause-whole
returns-in-Yes-clause-whole g c =
    let next = subst (OpensNext c.args.reader.now c.next_dossier.new.reader c.next_dossier.new.checker) c.in-Yes.is c.in_ok-outcome.ensures.next in
    let yes = next.2 in
    where_ok c.read_end.result (IsWholeAndTrue c.next_dossier.new.checker) (record { dossier = yes.dossier; whole = yes.whole; true_yes = yes.true_yes })

pub returns-in-Yes-clause-says : goal.returns-in-Yes-clause-says
returns-in-Yes-clause-says g c = λ front input b.
    let mid = g.S.Source.left c.next_dossier.new.src in
    let later = g.S.Source.left c.read_end.new.src in
    let next = subst (OpensNext c.args.reader.now c.next_dossier.new.reader c.next_dossier.new.checker) c.in-Yes.is c.in_ok-outcome.ensures.next in
    let n = subst (IsOutcome front input [] c.next_dossier.new.reader mid c.next_dossier.new.checker) c.in-Yes.is (c.in_ok-outcome.ensures.outcome front input [] b) in
    let t = c.read_end.ensures.answer in
    told front input n.dossier c.next_dossier.new.reader c.read_end.new.reader mid later c.next_dossier.new.checker next.0.going.limit n.between (c.lines.result + 1) (ap (λ k. k + 1) c.lines.ensures.count)
    c.read_end.result t.0 t.1 t.2 n.whole n.true_yes

pub returns-in-Yes-clause-ended : goal.returns-in-Yes-clause-ended
returns-in-Yes-clause-ended g c =
    let t = c.read_end.ensures.answer in
    ends_where_ok c.read_end.result (c.lines.result + 1) c.next_dossier.new.reader c.read_end.new.reader (g.S.Source.left c.next_dossier.new.src) (g.S.Source.left c.read_end.new.src) t.0 t.1 t.2

pub returns-in-Yes-clause-tells : goal.returns-in-Yes-clause-tells
returns-in-Yes-clause-tells g c =
    reads_then g.S.Source _ _ _ (λ e. not_fault _ _ c.in-Yes.is (λ f. cc) e) c.in_ok-outcome.ensures.tells c.read_end.ensures.tells (λ e. e) (λ e. e)

pub returns-in-No-clause-says : goal.returns-in-No-clause-says
returns-in-No-clause-says g c = λ front input b.
    InDossier (subst (IsOutcome front input [] c.next_dossier.new.reader (g.S.Source.left c.next_dossier.new.src) c.next_dossier.new.checker) c.in-No.is (c.in_ok-outcome.ensures.outcome front input [] b))

pub returns-in-End-clause-says : goal.returns-in-End-clause-says
returns-in-End-clause-says g c = λ front input b.
    let done = subst (IsOutcome front input [] c.next_dossier.new.reader (g.S.Source.left c.next_dossier.new.src) c.next_dossier.new.checker) c.in-End.is (c.in_ok-outcome.ensures.outcome front input [] b) in
    absurd (done.accepted.some refl)

pub returns-in-ReadFault-clause-says : goal.returns-in-ReadFault-clause-says
returns-in-ReadFault-clause-says g c = λ front input b.
    cut_amid front input c.next_dossier.new.reader (g.S.Source.left c.next_dossier.new.src)
    (subst (IsOutcome front input [] c.next_dossier.new.reader (g.S.Source.left c.next_dossier.new.src) c.next_dossier.new.checker) c.in-ReadFault.is (c.in_ok-outcome.ensures.outcome front input [] b))
