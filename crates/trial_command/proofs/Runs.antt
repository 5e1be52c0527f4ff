-- what a trial comes to, by its dossier and by how its line was written
use Rattle.std.proofs.Common.{◌≡◌, ◌≢◌, ◌≤◌, ◌<◌, ◌∷◌, [], ℕ, Bool, true, false, nat_eq, List, Result, Ok, Err, take, ap, subst, sym, refl, ◌∙◌, arith}
use Rattle.std.proofs.lemmas.Bool.{eqb-true, eqb-false}
use Rattle.cert_checker.specs.Checked.{verdict_of}
use Rattle.cert_checker.specs.declared.checker.Verdict.{Verdict}
use Rattle.crew_terms.specs.Plan.{unassigned_count}
use Rattle.crew_io.specs.Appends.{appended_none}
use Rattle.crew_io.specs.Bytes.{piece_front}
use Rattle.crew_io.specs.Chains.{puts_tell, writes_none, writes_then}
use Rattle.crew_io.specs.Puts.{Puts}
use Rattle.crew_io.specs.declared.sink.Sink.{Ghosts as SinkTells}
use Rattle.dossier_terms.specs.Dossier.{Dossier}
use Rattle.route_terms.specs.Named.{NamedRoute}
use Rattle.day_terms.specs.Rounds.{Round, rounds_of}
use Rattle.day_gen.specs.Day.{generated_day}
use Rattle.day_commands.specs.Dossiers.{IsProved, IsUnproved}
use Rattle.replan.specs.Rounds.{AreRoundDossiers}
use Rattle.trial_command.specs.Says.{RunsTrial, SaysAt, OfLine, end_of}
use Rattle.trial_command.specs.Trials.{IsTrialDossier, trial_line}
use Rattle.trial_command.specs.declared.trial.TrialEnded.{TrialEnded}
use Rattle.trial_command.specs.declared.trial.TrialEnded.TheVariants.{Done, Unproved, WriteFault}
use Rattle.trial_command.specs.declared.words.Trial.{Trial}

-- the plan of a round's dossier leaves at least its bound unassigned
at_most : (handed : List NamedRoute) (rounds : List Round) (d : Dossier) → AreRoundDossiers handed rounds (d ∷ []) → d.bound ≤ unassigned_count d.plan
at_most handed [] d are = absurd are
at_most handed (round ∷ rounds) d are = are.0.least d.plan are.0.legal

dossier_at_most : (t : Trial) (d : Dossier) → IsTrialDossier t d → d.bound ≤ unassigned_count d.plan
dossier_at_most t d allowed = at_most [] (rounds_of [] (generated_day t.number t.teams t.tasks t.nodes)) d allowed

less : (a b : ℕ) → a ≤ b → a ≢ b → a < b
less a b most apart = omega arith

module _ {K : Type 0} (sink : SinkTells K) (t : Trial) (out : K) where
  -- memory was wanting, and nothing was written
  pub runs_memory : {E : Type 0} (e : E) → RunsTrial sink t out out (Err e)
  runs_memory e = record {
    says = tt;
    memory = refl;
    writes = writes_then sink out out out (λ fault. fault) (writes_none sink out) (writes_none sink out) (λ is. absurd (cc)) (λ fault. absurd fault);
  }

  module _ {E : Type 0} (new : K) (d : Dossier) (allowed : IsTrialDossier t d) where
    -- the line was written
    runs_line : {T F : Type 0} (ended : TrialEnded) (x : T) → ended ≢ WriteFault → Puts {E = F} sink (trial_line t d) out new (Ok x) → SaysAt t ended (trial_line t d) → RunsTrial {E = E} sink t out new (Ok ended)
    runs_line ended x none put says = record {
      says = (trial_line t d, put.all, says);
      memory = tt;
      writes = writes_then sink out out new (λ fault. fault) (writes_none sink out) (puts_tell sink (trial_line t d) out new (Ok x) put) (λ is. absurd (none (cc))) (λ is. absurd (cc));
    }

    -- a front of it was
    runs_fault : {T F : Type 0} (e : F) → Puts {T = T} sink (trial_line t d) out new (Err e) → RunsTrial {E = E} sink t out new (Ok WriteFault)
    runs_fault e put =
        let w = piece_front (sink.got out) (sink.got out) (sink.got new) [] (trial_line t d) (appended_none (sink.got out)) put.part in record {
          says = (take w.0 (trial_line t d), w.2, OfLine d allowed w.0 refl);
          memory = tt;
          writes = writes_then sink out out new (λ fault. fault) (writes_none sink out) (puts_tell sink (trial_line t d) out new (Err e) put) (λ _. refl) (λ _. refl);
        }

    runs_so : {T F : Type 0} (verdict : Verdict) → verdict ≡ verdict_of d → (put : Result T F) → Puts sink (trial_line t d) out new put → (q : Bool) → nat_eq verdict.bound verdict.unassigned ≡ q
        → RunsTrial {E = E} sink t out new (Ok (end_of put q))
    runs_so verdict is (Err e) puts q same = runs_fault e puts
    runs_so verdict is (Ok x) puts true same =
        let equal = eqb-true verdict.bound verdict.unassigned same in
        let fact : IsProved d = sym (ap (λ (n : Verdict). n.bound) is) ∙ equal ∙ ap (λ (n : Verdict). n.unassigned) is in
        runs_line Done x (λ e. absurd (cc)) puts (record { dossier = d; allowed = allowed; fact = fact; line = refl })
    runs_so verdict is (Ok x) puts false same =
        let apart = eqb-false verdict.bound verdict.unassigned same in
        let fact : IsUnproved d =
        less d.bound (unassigned_count d.plan) (dossier_at_most t d allowed) (λ e. apart (ap (λ (n : Verdict). n.bound) is ∙ e ∙ sym (ap (λ (n : Verdict). n.unassigned) is))) in
        runs_line Unproved x (λ e. absurd (cc)) puts (record { dossier = d; allowed = allowed; fact = fact; line = refl })

    pub runs_end : {T F : Type 0} (verdict : Verdict) → verdict ≡ verdict_of d → (put : Result T F) → Puts sink (trial_line t d) out new put → (ended : TrialEnded)
        → ended ≡ end_of put (nat_eq verdict.bound verdict.unassigned) → RunsTrial {E = E} sink t out new (Ok ended)
    runs_end verdict is put puts ended e = subst (λ (x : TrialEnded). RunsTrial {E = E} sink t out new (Ok x)) (sym e) (runs_so verdict is put puts (nat_eq verdict.bound verdict.unassigned) refl)
