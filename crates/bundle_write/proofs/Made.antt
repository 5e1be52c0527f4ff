-- what is made of a day's dossier
use Rattle.std.proofs.Common.{◌≡◌, ◌≤◌, ◌<◌, ℕ, List, [], inl, inr, Bool, true, false, Option, Result, Ok, Err, length, map, get_or, subst, sym, refl, ◌∙◌, arith}
use Rattle.std.specs.Prelude.{◌↔◌, ◌⊎◌, IsErrAnd, IsTrue}
use Rattle.std.proofs.lemmas.Result.{err_from_is_err_and}
use Rattle.std.proofs.lemmas.Bool.{cases_lt}
use Rattle.crew_terms.specs.Instance.{Instance}
use Rattle.crew_terms.specs.Plan.{unassigned_count}
use Rattle.dossier_terms.specs.Dossier.{Dossier}
use Rattle.dossier_terms.specs.Lines.{text_of}
use Rattle.cert_write.specs.declared.faults.PutFault.{PutFault}
use Rattle.cert_write.specs.declared.faults.PutFault.TheVariants.{WriteFault, OutOfMemory}
use Rattle.part_texts.specs.Bundle.{Bundle as WholeBundle, bound_of}
use Rattle.part_texts.specs.Lines.{text_of_bundle}
use Rattle.bundle_join.specs.Joined.{IsJoined}
use Rattle.bundle_join.specs.Texts.{AreTexts}
use Rattle.bundle_join.specs.declared.join.Proves.{Proves}
use Rattle.bundle_write.specs.Bundles.{AreApart, IsBundleOf, IsBundlePut}
use Rattle.bundle_write.specs.Parts.{ArePartDossiers, IsPartDossier, IsPartPlanned}
use Rattle.bundle_write.specs.Pieces.{IsPartPiece, IsPiecePut, NoSuchPart, ThePart}
use Rattle.bundle_write.specs.declared.parts.PlannedPart.{PlannedPart}
use Rattle.bundle_write.specs.declared.piece.Job.TheVariants.{Bundle}
use Rattle.bundle_write.proofs.Planned.{all_good}

-- ---- bundles

-- the texts of the parts' dossiers
pub are_texts : (i : Instance) (nodes : ℕ) (lists texts now : List (List ℕ)) (ds : List Dossier) → ArePartDossiers i nodes lists ds → texts ≡ map text_of ds → now ≡ texts → AreTexts now ds
are_texts i nodes lists texts now ds are is e = record { good = all_good i nodes lists ds are; are = e ∙ is }

-- the bundle that they make
pub bundle_of : (d : Dossier) (nodes : ℕ) (i : Instance) (lists : List (List ℕ)) (ds : List Dossier) (b : WholeBundle) → i ≡ d.instance → ArePartDossiers i nodes lists ds → IsJoined d ds b → IsBundleOf d nodes b
bundle_of d nodes i lists ds b same are j =
    let e = sym j.have in
    record {
      lists = lists;
      planned = subst (ArePartDossiers d.instance nodes lists) e (subst (λ k. ArePartDossiers k nodes lists ds) same are);
      joined = subst (λ xs. IsJoined d xs b) e j;
    }

-- whether two numbers are one
decided : (a b : ℕ) → (t : Bool) × (IsTrue t ↔ (a ≡ b))
decided a b = by (cases_lt a b) (cases_lt b a)
  where
    by : (a < b) ⊎ (b ≤ a) → (b < a) ⊎ (a ≤ b) → (t : Bool) × (IsTrue t ↔ (a ≡ b))
    by (inl l) m = (false, ((λ h. absurd (cc)), (λ e. absurd (omega (arith, l, e)))))
    by (inr l) (inl m) = (false, ((λ h. absurd (cc)), (λ e. absurd (omega (arith, m, e)))))
    by (inr l) (inr m) = (true, ((λ _. omega (arith, l, m)), (λ _. refl)))

module _ (d : Dossier) (nodes : ℕ) (got later : Option (List ℕ)) where
  pub bundle_put : (proves : Proves) (proved : Bool) → (IsTrue proved ↔ (proves.bound ≡ proves.unassigned)) → IsBundlePut d nodes (Ok proves) got later → IsPiecePut (Bundle nodes) d (Ok proved) got later
  bundle_put proves proved so put =
      let b = put.0 in
      let says = put.2 in (
        text_of_bundle b,
        record {
          bundle = b;
          of = put.1;
          is = refl;
          proves = ((λ t. sym says.bound ∙ so.0 t ∙ says.unassigned), (λ e. so.1 (says.bound ∙ e ∙ sym says.unassigned)));
        },
        put.3,
      )

  bundle_fault : (fault : PutFault) → IsBundlePut d nodes (Err fault) got later → IsPiecePut (Bundle nodes) d (Err fault) got later
  bundle_fault WriteFault put =
      let t = decided (bound_of put.0) (unassigned_count put.0.day.plan) in
      (record { proved = t.0; text = text_of_bundle put.0 }, record { bundle = put.0; of = put.1; is = refl; proves = t.1 }, put.2)
  bundle_fault OutOfMemory put = put

  pub bundle_stops : (fault : PutFault) (result : Result Bool PutFault) → IsErrAnd result (λ f. f ≡ fault) → IsBundlePut d nodes (Err fault) got later → IsPiecePut (Bundle nodes) d result got later
  bundle_stops fault result is put =
      let p = err_from_is_err_and result is in
      subst (λ r. IsPiecePut (Bundle nodes) d r got later) (sym p.1) (subst (λ f. IsPiecePut (Bundle nodes) d (Err f) got later) (sym p.2) (bundle_fault fault put))

-- ---- single parts

module _ (d : Dossier) (nodes number : ℕ) (i : Instance) (lists : List (List ℕ)) (same : i ≡ d.instance) (apart : AreApart i lists) where
  apart_of : AreApart d.instance lists
  apart_of = subst (λ k. AreApart k lists) same apart

  pub no_part : length lists ≤ number → IsPartPiece d nodes number (record { proved = true; text = [] })
  no_part few = NoSuchPart lists apart_of few refl refl

  pub the_part : (tasks : List ℕ) (planned : PlannedPart) (text : List ℕ) → number < length lists → get_or lists number [] ≡ tasks → text ≡ planned.text.items → IsPartPlanned i nodes tasks planned
      → IsPartPiece d nodes number (record { proved = planned.proved; text = text })
  the_part tasks planned text within row is p =
      ThePart lists apart_of within p.0 (subst (λ ts. IsPartDossier d.instance nodes ts p.0) (sym row) (subst (λ k. IsPartDossier k nodes tasks p.0) same p.1)) (is ∙ p.2.text) p.2.proved
