-- the dossiers of parts, one after another
use Rattle.std.proofs.Common.{◌≡◌, ◌≢◌, ◌≤◌, ◌<◌, ◌+◌, ◌++◌, ℕ, List, [], ◌∷◌, length, take, get_or, Bool, true, false, ap, subst, sym, refl, ◌∙◌, arith}
use Rattle.std.specs.Prelude.{AllPairs, IsTrue, IsFalse, Option, None, Some}
use Rattle.std.proofs.lemmas.List.{get_or-map, length-map, take_more, take_all, length-take}
use Rattle.std.proofs.lemmas.List.Elements.{All-get_or, All-nil}
use Rattle.std.proofs.lemmas.List.Sums.{sum_by_push}
use Rattle.crew_terms.specs.Instance.{Instance}
use Rattle.crew_terms.specs.Rules.{IsInstance}
use Rattle.crew_terms.specs.declared.TheConstants.{MOST_TASKS}
use Rattle.dossier_terms.specs.Dossier.{Dossier, IsGood}
use Rattle.dossier_terms.specs.Lines.{text_of}
use Rattle.part_terms.specs.Parts.{Part, Restricts}
use Rattle.part_texts.specs.Bundle.{ArePartsOf, HaveTasks}
use Rattle.bundle_join.specs.Tallies.{IsNoPart, IsTallied, IsTally}
use Rattle.bundle_join.specs.Texts.{AreTexts}
use Rattle.bundle_join.specs.declared.tally.Tally.{Tally}

-- an option that is no value is none
pub none_of : {X : Type 0} (o : Option X) → ((x : X) → o ≡ Some x → ⊥) → o ≡ None
none_of None none = refl
none_of (Some x) none = absurd (none x refl)

not_true : {P : Type 0} → IsTrue false → P
not_true h = absurd (cc)

not_false : {P : Type 0} → IsFalse true → P
not_false h = absurd (cc)

-- ---- one part more

-- what is told of a part that is added, or not
abbrev pub AddsPart : Instance → List ℕ → Tally → Tally → Bool → Type 0
AddsPart whole text old new took = (day : Dossier) (parts : List Dossier) (d : Dossier) → IsGood day → day.instance ≡ whole → IsGood d → text ≡ text_of d → IsTally day parts old
    → (IsTrue took → IsTally day (parts ++ d ∷ []) new) × (IsFalse took → ArePartsOf day.instance (parts ++ d ∷ []) → ⊥)

module _ (whole part : Instance) (text : List ℕ) (old new : Tally) (known : (d : Dossier) → IsGood d → text ≡ text_of d → part ≡ d.instance) where
  these : (day d : Dossier) (tasks : List ℕ) → IsGood d → text ≡ text_of d → day.instance ≡ whole → Restricts whole part tasks → Restricts day.instance d.instance tasks
  these day d tasks good is a r = subst (λ i. Restricts i d.instance tasks) (sym a) (subst (λ j. Restricts whole j tasks) (known d good is) r)

  -- it is no part
  pub adds_none : ((i : Instance) (ds : List Dossier) (d : Dossier) → ArePartsOf i (ds ++ d ∷ []) → (tasks : List ℕ) × Restricts i d.instance tasks) → ((tasks : List ℕ) → Restricts whole part tasks → ⊥)
      → AddsPart whole text old new false
  adds_none some none = λ day parts d good a fine is t. (
    (λ h. not_true h),
    (λ _ are. let s = some day.instance parts d are in none s.0 (subst (λ j. Restricts whole j s.0) (sym (known d fine is)) (subst (λ i. Restricts i d.instance s.0) a s.1))),
  )

  module _ (tasks : List ℕ) (r : Restricts whole part tasks) where
    -- one of its tasks is taken
    pub adds_taken : ((i : Instance) (ds : List Dossier) (d : Dossier) (taken tasks : List ℕ) → IsInstance i → HaveTasks i ds taken → Restricts i d.instance tasks → ArePartsOf i (ds ++ d ∷ []) → AllPairs (λ t u. t ≢ u) (taken ++ tasks))
        → (AllPairs (λ t u. t ≢ u) (old.taken ++ tasks) → ⊥) → AddsPart whole text old new false
    adds_taken only clash = λ day parts d good a fine is t. (
      (λ h. not_true h),
      (λ _ are. clash (only day.instance parts d old.taken tasks good.instance t.taken (these day d tasks fine is a r) are)),
    )

    -- none of them is
    pub adds_one : ((i : Instance) (ds : List Dossier) (d : Dossier) (taken tasks : List ℕ) → HaveTasks i ds taken → Restricts i d.instance tasks → AllPairs (λ t u. t ≢ u) (taken ++ tasks) → HaveTasks i (ds ++ d ∷ []) (taken ++ tasks))
        → AllPairs (λ t u. t ≢ u) (old.taken ++ tasks) → new.taken ≡ old.taken ++ tasks → (bound : ℕ) → new.bounds ≡ old.bounds + bound → ((d : Dossier) → IsGood d → text ≡ text_of d → bound ≡ d.bound)
        → AddsPart whole text old new true
    adds_one more apart taken bound sum says = λ day parts d good a fine is t. (
      (λ _. record {
        taken = subst (HaveTasks day.instance (parts ++ d ∷ [])) (sym taken) (more day.instance parts d old.taken tasks t.taken (these day d tasks fine is a r) apart);
        bounds = (let s = sum_by_push (λ (d : Dossier). d.bound) parts d in let b = t.bounds in let v = says d fine is in omega arith);
      }),
      (λ h. not_false h),
    )

-- ---- all of them

none_have : (i : Instance) → HaveTasks i [] []
none_have i = record {
  parts = [];
  instances = refl;
  disjoint = record { each = All-nil (λ (part : Part). Restricts i part.instance part.tasks); once = λ k m d a b. absurd (omega (arith, b)) };
  are = refl;
}

-- no part yet
pub begins : (day : Dossier) (parts : List Dossier) (tally : Tally) → tally.taken ≡ [] → tally.bounds ≡ 0 → IsTally day (take 0 parts) tally
begins day parts tally taken bounds = record { taken = subst (HaveTasks day.instance []) (sym taken) (none_have day.instance); bounds = bounds }

module _ (day : Dossier) (parts : List Dossier) (texts : List (List ℕ)) (k : ℕ) (are : AreTexts texts parts) (within : k < length texts) where
  within_parts : k < length parts
  within_parts = let e = ap length are.are ∙ length-map parts text_of in omega (arith, e, within)

  -- the dossier with this number is good
  pub good_at : IsGood (get_or parts k day)
  good_at = All-get_or IsGood parts k day within_parts are.good

  pub text_at : get_or texts k [] ≡ text_of (get_or parts k day)
  text_at = ap (λ xs. get_or xs k []) are.are ∙ get_or-map text_of parts k day [] within_parts

  pub take_next : take (k + 1) parts ≡ take k parts ++ get_or parts k day ∷ []
  take_next = take_more parts k day within_parts

-- a dossier is of no part
pub is_none : (day : Dossier) (parts : List Dossier) (k : ℕ) → (ArePartsOf day.instance (take (k + 1) parts) → ⊥) → IsNoPart day parts k
is_none day parts k none = λ b same has good.
    none (subst (λ i. ArePartsOf i (take (k + 1) parts)) same (subst (λ ds. ArePartsOf b.day.instance ds) has good.divided))

-- there are too many
pub too_many : (day : Dossier) (parts : List Dossier) (texts : List (List ℕ)) (k : ℕ) → AreTexts texts parts → k < length texts → MOST_TASKS ≤ k → IsNoPart day parts k
too_many day parts texts k are within many = λ b same has good.
    let e = ap length are.are ∙ length-map parts text_of in
    let n = ap length has ∙ length-take (k + 1) parts in
    let f = good.few in omega (arith, e, n, f, within, many)

pub all_told : (day : Dossier) (parts : List Dossier) (texts : List (List ℕ)) (k : ℕ) (tally : Tally) → AreTexts texts parts → length texts ≤ k → k ≤ MOST_TASKS → IsTally day (take k parts) tally → IsTallied day parts tally
all_told day parts texts k tally are past few t =
    let e = ap length are.are ∙ length-map parts text_of in
    record { few = omega (arith, e, past, few); told = subst (λ ds. IsTally day ds tally) (take_all k parts (omega (arith, e, past))) t }
