-- what the waits of a dossier's plan are of the whole input
use Rattle.std.proofs.Common.{◌≡◌, ℕ, List, [], ◌∷◌, Option, Result, Ok, Err, subst, sym}
use Rattle.std.specs.Prelude.{All, IfOk, MatchResult}
use Rattle.crew_terms.specs.Instance.{Instance}
use Rattle.crew_terms.specs.Legal.{IsLegal}
use Rattle.crew_terms.specs.Plan.{Plan}
use Rattle.delay_wave.specs.Waits.{AreWaits}
use Rattle.delay_wave.specs.declared.waits.Wait.{Wait}
use Rattle.dossier_terms.specs.Dossier.{Dossier}
use Rattle.cert_checker.specs.Checked.{Checked, IsWholeAt}
use Rattle.late_lines.specs.declared.first_line.LateLine.{LateLine}
use Rattle.late_lines.specs.declared.halt.Halt.{Halt}
use Rattle.late_lines.specs.declared.halt.Halt.TheVariants as halts
use Rattle.late_lines.specs.Lines.{AreLateLines}
use Rattle.delay_command.specs.Alone.{IsAlone, IsWholeAndTrue}
use Rattle.delay_command.specs.Delays.{NotDone, late_front}
use Rattle.delay_command.specs.Halts.{Gives, HaltsAt, HasWaits}
use Rattle.delay_command.specs.Tasks.{HaltsAtTask, IsDone, IsFirstUndone, lates_in}

-- an instance and a plan are those of the dossier that the checker has
module _ (lines : List LateLine) (checker : Checked) (i : Instance) (p : Plan) (instance : (d : Dossier) → IsWholeAt checker.at d → i ≡ d.instance) (plan : (d : Dossier) → IsWholeAt checker.at d → p ≡ d.plan) where
  pub is_legal : IsWholeAndTrue checker → IsLegal i p
  is_legal w = subst (λ (q : Plan). IsLegal i q) (sym (plan w.dossier w.whole)) (subst (λ (j : Instance). IsLegal j w.dossier.plan) (sym (instance w.dossier w.whole)) w.true_yes.legal)

  waits_of : (d : Dossier) → IsWholeAt checker.at d → (waits : List (Option Wait)) → AreWaits i p (lates_in i lines) waits → AreWaits d.instance d.plan (lates_in d.instance lines) waits
  waits_of d whole waits are =
      subst (λ (q : Plan). AreWaits d.instance q (lates_in d.instance lines) waits) (plan d whole) (subst (λ (j : Instance). AreWaits j p (lates_in j lines) waits) (instance d whole) are)

  pub waits_back : (waits : List (Option Wait)) → HasWaits lines checker waits → AreWaits i p (lates_in i lines) waits
  waits_back waits h =
      let d = h.dossier in
      subst (λ (j : Instance). AreWaits j p (lates_in j lines) waits) (sym (instance d h.whole)) (subst (λ (q : Plan). AreWaits d.instance q (lates_in d.instance lines) waits) (sym (plan d h.whole)) (h.are d h.whole))

  pub has_waits : (result : Result (List (Option Wait)) Halt) → MatchResult result (λ waits. All (IsDone i p) lines × AreWaits i p (lates_in i lines) waits) (HaltsAtTask i p lines)
      → IsWholeAndTrue checker → IfOk result (HasWaits lines checker)
  has_waits (Ok waits) m w = record { dossier = w.dossier; whole = w.whole; true_yes = w.true_yes; are = λ d whole. waits_of d whole waits m.1 }
  has_waits (Err halt) m w = tt

  pub gives : (input : List ℕ) (left : Option (List ℕ)) (result : Result (List (Option Wait)) Halt)
      → MatchResult result (λ waits. All (IsDone i p) lines × AreWaits i p (lates_in i lines) waits) (HaltsAtTask i p lines)
      → AreLateLines lines → IsAlone (late_front lines) input checker → MatchResult result (λ _. Gives input lines checker) (HaltsAt input left)
  gives input left (Ok waits) m are a =
      let d = a.dossier in
      record {
        dossier = d;
        whole = a.whole;
        true_yes = a.true_yes;
        form = record {
          are = are;
          accepted = a.accepted;
          done = subst (λ (q : Plan). All (IsDone d.instance q) lines) (plan d a.whole) (subst (λ (j : Instance). All (IsDone j p) lines) (instance d a.whole) m.0);
        };
      }
  gives input left (Err (halts.No number reason)) m are a =
      let d = a.dossier in
      NotDone lines are d a.accepted
      (subst (λ (q : Plan). IsFirstUndone d.instance q lines number reason) (plan d a.whole) (subst (λ (j : Instance). IsFirstUndone j p lines number reason) (instance d a.whole) m))
  gives input left (Err halts.ReadFault) m are a = absurd m
  gives input left (Err halts.OutOfMemory) m are a = tt
