-- the texts of dossiers of parts, one more at a time
use Rattle.std.proofs.Common.{◌≡◌, ◌≤◌, ◌<◌, ◌+◌, ◌*◌, ◌++◌, ℕ, List, [], ◌∷◌, length, map, take, get_or, ap, subst, sym, refl, ◌∙◌}
use Rattle.std.proofs.lemmas.List.{map-append, take_all}
use Rattle.crew_terms.specs.Instance.{Instance}
use Rattle.dossier_terms.specs.Dossier.{Dossier}
use Rattle.dossier_terms.specs.Lines.{text_of}
use Rattle.part_terms.specs.Parts.{Restricts}
use Rattle.replan.specs.Alone.{IsDossierAlone}
use Rattle.bundle_write.specs.Parts.{ArePartDossiers, IsPartDossier}
use Rattle.bundle_write.proofs.Planned.{one_more}

-- the texts of the dossiers of some first parts
pub record HasTexts (i : Instance) (nodes : ℕ) (lists : List (List ℕ)) (k : ℕ) (texts : List (List ℕ)) : Type 0 where
  pub dossiers : List Dossier
  pub planned : ArePartDossiers i nodes (take k lists) dossiers
  pub are : texts ≡ map text_of dossiers

pub no_texts : (i : Instance) (nodes : ℕ) (lists : List (List ℕ)) → HasTexts i nodes lists 0 []
no_texts i nodes lists = record { dossiers = []; planned = tt; are = refl }

pub texts_more : (i : Instance) (nodes : ℕ) (lists : List (List ℕ)) (k : ℕ) (texts : List (List ℕ)) (tasks text : List ℕ) (d : Dossier) → HasTexts i nodes lists k texts → k < length lists → get_or lists k [] ≡ tasks
    → IsPartDossier i nodes tasks d → text ≡ text_of d → HasTexts i nodes lists (k + 1) (texts ++ text ∷ [])
texts_more i nodes lists k texts tasks text d so l e is t = record {
  dossiers = so.dossiers ++ d ∷ [];
  planned = one_more i nodes lists k so.dossiers tasks d l e so.planned is;
  are = ap (λ x. texts ++ x ∷ []) t ∙ ap (λ xs. xs ++ text_of d ∷ []) so.are ∙ sym (map-append text_of so.dossiers (d ∷ []));
}

pub all_texts : (i : Instance) (nodes : ℕ) (lists : List (List ℕ)) (k : ℕ) (texts : List (List ℕ)) → length lists ≤ k → HasTexts i nodes lists k texts
    → (ds : List Dossier) × ArePartDossiers i nodes lists ds × (texts ≡ map text_of ds)
all_texts i nodes lists k texts past so = (so.dossiers, subst (λ ls. ArePartDossiers i nodes ls so.dossiers) (take_all k lists past) so.planned, so.are)

-- a dossier that is planned on its own is one of its part
pub of_part : (whole part : Instance) (nodes steps : ℕ) (tasks : List ℕ) (d : Dossier) → Restricts whole part tasks → steps ≤ 2 * nodes → IsDossierAlone part steps d → IsPartDossier whole nodes tasks d
of_part whole part nodes steps tasks d r few alone =
    let i = alone.instance in
    let b = alone.budget in
    record {
      part = subst (λ j. Restricts whole j tasks) (sym i) r;
      few = subst (λ n. n ≤ 2 * nodes) (sym b) few;
      alone = subst (λ n. IsDossierAlone d.instance n d) (sym b) (subst (λ j. IsDossierAlone j steps d) (sym i) alone);
    }
