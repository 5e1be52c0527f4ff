-- the dossiers of parts, one after another
use Rattle.std.proofs.Common.{◌≡◌, ◌≢◌, ◌<◌, ◌+◌, ◌++◌, ℕ, List, [], ◌∷◌, length, Option, Result, Ok, Err, Bool, true, false, ap, subst, sym, refl, ◌∙◌, arith, length-append, append_assoc, append-nil}
use Rattle.std.specs.Prelude.{◌↔◌, AllPairs, flat_map, max, IfOk, IsTrue, IsFalse}
use Rattle.std.specs.declared.alloc.AllocError.{AllocError}
use Rattle.std.proofs.lemmas.List.Concat.{flat_map-append}
use Rattle.std.proofs.lemmas.List.Elements.{All-push}
use Rattle.std.proofs.lemmas.List.Sums.{sum_by_push}
use Rattle.crew_terms.specs.Instance.{Instance}
use Rattle.crew_terms.specs.Plan.{unassigned_count}
use Rattle.crew_terms.specs.Rules.{IsInstance}
use Rattle.crew_terms.specs.Words.{line_text}
use Rattle.crew_io.specs.Lines.{Reader}
use Rattle.dossier_terms.specs.Dossier.{Dossier, IsGood}
use Rattle.dossier_terms.specs.Lines.{lines_of, text_of}
use Rattle.part_terms.specs.Parts.{Restricts}
use Rattle.part_texts.specs.Bundle.{ArePartsOf, Bundle, HaveTasks, IsGoodBundle, IsTrueBundle, sum_of_bounds}
use Rattle.part_texts.specs.Lines.{count_words, first_words, lines_in_bundle, text_of_bundle}
use Rattle.parts_reader.specs.Input.{BadPart, Fresh, InParts, IsNextBundle, IsPlace, IsRefusal, lines_begun, text_up_to}
use Rattle.parts_reader.specs.Stages.{IsDossierRead, IsTallied}
use Rattle.parts_reader.specs.declared.bundle.BundleVerdict.{BundleVerdict}
use Rattle.parts_reader.specs.declared.dossier.WholeDossier.{WholeDossier}
use Rattle.parts_reader.specs.declared.parts.Tally.{Tally}
use Rattle.parts_reader.specs.declared.reason.BundleReason.TheVariants.{Part}
use Rattle.parts_reader.proofs.Dossiers.{leads_on}
use Rattle.parts_reader.proofs.Places.{none_have, not_true}

not_false : {P : Type 0} → IsFalse true → P
not_false h = absurd (cc)

-- ---- whose tasks are taken

-- what is told of a part that is taken, or not
abbrev pub TakesPart : Instance → Instance → List ℕ → List ℕ → Bool → Type 0
TakesPart whole part old new took = (day : Dossier) (parts : List Dossier) (d : Dossier) → IsGood day → day.instance ≡ whole → d.instance ≡ part → HaveTasks day.instance parts old
    → (IsTrue took → HaveTasks day.instance (parts ++ d ∷ []) new) × (IsFalse took → ArePartsOf day.instance (parts ++ d ∷ []) → ⊥)

module _ (whole part : Instance) where
  these : (day d : Dossier) (tasks : List ℕ) → day.instance ≡ whole → d.instance ≡ part → Restricts whole part tasks → Restricts day.instance d.instance tasks
  these day d tasks a b r = subst (λ i. Restricts i d.instance tasks) (sym a) (subst (λ j. Restricts whole j tasks) (sym b) r)

  -- the part has these tasks
  pub takes : ((i : Instance) (ds : List Dossier) (d : Dossier) (taken tasks : List ℕ) → HaveTasks i ds taken → Restricts i d.instance tasks → AllPairs (λ t u. t ≢ u) (taken ++ tasks) → HaveTasks i (ds ++ d ∷ []) (taken ++ tasks))
      → ((i : Instance) (ds : List Dossier) (d : Dossier) (taken tasks : List ℕ) → IsInstance i → HaveTasks i ds taken → Restricts i d.instance tasks → ArePartsOf i (ds ++ d ∷ []) → AllPairs (λ t u. t ≢ u) (taken ++ tasks))
      → (tasks old new : List ℕ) → Restricts whole part tasks → (result : Result Bool AllocError) → IfOk result (λ took. IsTrue took ↔ AllPairs (λ t u. t ≢ u) (old ++ tasks)) → (result ≡ Ok true → new ≡ old ++ tasks)
      → IfOk result (TakesPart whole part old new)
  takes more only tasks old new r (Ok true) answer taken = λ day parts d good a b have. (
    (λ _. subst (HaveTasks day.instance (parts ++ d ∷ [])) (sym (taken refl)) (more day.instance parts d old tasks have (these day d tasks a b r) (answer.0 refl))),
    (λ h. not_false h),
  )
  takes more only tasks old new r (Ok false) answer taken = λ day parts d good a b have. (
    (λ h. not_true h),
    (λ _ are. not_true (answer.1 (only day.instance parts d old tasks good.instance have (these day d tasks a b r) are))),
  )
  takes more only tasks old new r (Err e) answer taken = tt

  -- it has none
  pub takes_none : ((i : Instance) (ds : List Dossier) (d : Dossier) → ArePartsOf i (ds ++ d ∷ []) → (tasks : List ℕ) × Restricts i d.instance tasks)
      → ((tasks : List ℕ) → Restricts whole part tasks → ⊥) → (taken : List ℕ) → TakesPart whole part taken taken false
  takes_none some none taken = λ day parts d good a b have. (
    (λ h. not_true h),
    (λ _ are. let t = some day.instance parts d are in none t.0 (subst (λ j. Restricts whole j t.0) b (subst (λ i. Restricts i d.instance t.0) a t.1))),
  )

-- ---- one part more

module _ (input : List ℕ) (done : List Bundle) (day : Dossier) (k : ℕ) (parts : List Dossier) (old new : Reader) (left later : Option (List ℕ)) (tally : Tally) (due : length parts < k)
    (t : IsTallied input done day k parts old left tally) (whole : WholeDossier) (r : IsDossierRead input done (InParts day k parts) new later whole) where
  text_more : text_up_to done (InParts day k parts) ++ text_of r.dossier ≡ text_up_to done (InParts day k (parts ++ r.dossier ∷ []))
  text_more =
      let behind = flat_map text_of_bundle done in
      let first = line_text first_words in
      let line = line_text (count_words k) in
      let texts = flat_map text_of parts in
      let x = text_of r.dossier in
      append_assoc behind (first ++ (text_of day ++ (line ++ texts))) x ∙ ap (λ y. behind ++ y) (append_assoc first (text_of day ++ (line ++ texts)) x
      ∙ ap (λ y. first ++ y) (append_assoc (text_of day) (line ++ texts) x ∙ ap (λ y. text_of day ++ y) (append_assoc line texts x
      ∙ ap (λ y. line ++ y) (ap (λ y. texts ++ y) (sym (append-nil x)) ∙ sym (flat_map-append text_of parts (r.dossier ∷ []))))))

  lines_more : lines_begun (InParts day k parts) + length (lines_of r.dossier) ≡ lines_begun (InParts day k (parts ++ r.dossier ∷ []))
  lines_more =
      let e = ap length (flat_map-append lines_of parts (r.dossier ∷ [])) in
      let s = length-append (flat_map lines_of parts) (flat_map lines_of (r.dossier ∷ [])) in
      let n = ap length (append-nil (lines_of r.dossier)) in
      omega (arith, e, s, n)

  -- it is of a part of the day
  pub one_more : (next : Tally) → HaveTasks day.instance (parts ++ r.dossier ∷ []) next.taken → next.bounds ≡ tally.bounds + whole.verdict.bound → next.lines ≡ whole.checker.lines
      → IsTallied input done day k (parts ++ r.dossier ∷ []) new later next
  one_more next have bounds lines =
      let h = t.place.read.begins in
      record {
        place = subst (IsPlace input done (InParts day k (parts ++ r.dossier ∷ [])) new later) (sym lines)
            (leads_on input done (InParts day k parts) old left tally.lines t.place (InParts day k (parts ++ r.dossier ∷ [])) new later whole r text_more lines_more (record {
              good_day = h.good_day;
              few = h.few;
              within = (let n = length-append parts (r.dossier ∷ []) in omega (arith, n, due));
              good = All-push IsGood parts r.dossier h.good r.good;
              divided = (next.taken, have);
            }));
        taken = have;
        bounds = (let s = sum_by_push (λ (d : Dossier). d.bound) parts r.dossier in let b = t.bounds in let v = ap (λ v. v.bound) r.says in omega arith);
      }

  -- it is of none
  pub no_more : (number : ℕ) → number ≡ whole.checker.lines → (ArePartsOf day.instance (parts ++ r.dossier ∷ []) → ⊥) → IsRefusal input done number Part
  no_more number is none =
      let p = t.place in
      BadPart day k parts r.dossier r.rest (record { text = r.text; within = p.read.within; good = p.read.good; begins = p.read.begins })
      due (let w = r.within in omega arith) r.good none (is ∙ r.number) refl

-- ---- all of them

-- no part yet
pub starts : (input : List ℕ) (done : List Bundle) (day : Dossier) (k : ℕ) (reader : Reader) (left : Option (List ℕ)) (tally : Tally) → IsPlace input done (InParts day k []) reader left tally.lines → tally.taken ≡ []
    → tally.bounds ≡ 0 → IsTallied input done day k [] reader left tally
starts input done day k reader left tally p taken bounds = record { place = p; taken = subst (HaveTasks day.instance []) (sym taken) (none_have day.instance); bounds = bounds }

-- as many as the line `parts` tells
pub whole_bundle : ((b : Bundle) → IsGoodBundle b → IsTrueBundle b) → (input : List ℕ) (done : List Bundle) (day : Dossier) (k : ℕ) (parts : List Dossier) (reader : Reader) (left : Option (List ℕ)) (tally : Tally)
    → length parts ≡ k → IsTallied input done day k parts reader left tally → (verdict : BundleVerdict) → verdict.unassigned ≡ unassigned_count day.plan → verdict.bound ≡ max day.bound tally.bounds → verdict.parts ≡ k
    → IsNextBundle input done verdict reader left tally.lines
whole_bundle law input done day k parts reader left tally count t verdict unassigned bound number =
    let b : Bundle = record { day = day; parts = parts } in
    let p = t.place in
    let h = p.read.begins in
    let behind = flat_map text_of_bundle done in
    let good : IsGoodBundle b = record { day = h.good_day; few = (let f = h.few in omega (arith, f, count)); good = h.good; divided = h.divided } in
    let text : text_up_to done (InParts day k parts) ≡ text_up_to (done ++ b ∷ []) Fresh =
    ap (λ n. text_up_to done (InParts day n parts)) (sym count) ∙ ap (λ x. behind ++ x) (sym (append-nil (text_of_bundle b)))
    ∙ sym (flat_map-append text_of_bundle done (b ∷ [])) ∙ sym (append-nil (flat_map text_of_bundle (done ++ b ∷ []))) in
    record {
      bundle = b;
      says = ap (λ n. let v : BundleVerdict = record { unassigned = n; bound = verdict.bound; parts = verdict.parts } in v) unassigned
          ∙ ap (λ n. let v : BundleVerdict = record { unassigned = unassigned_count day.plan; bound = n; parts = verdict.parts } in v) (bound ∙ ap (max day.bound) t.bounds)
          ∙ ap (λ n. let v : BundleVerdict = record { unassigned = unassigned_count day.plan; bound = max day.bound (sum_of_bounds parts); parts = n } in v) (number ∙ sym count);
      true_yes = law b good;
      between = record {
        rest = p.rest;
        is = p.is;
        read = record {
          text = p.read.text ∙ ap (λ x. x ++ p.rest) text;
          within = (let w = p.read.within in let e = ap length text in omega (arith, w, e));
          good = All-push IsGoodBundle done b p.read.good good;
          begins = tt;
        };
        handed = p.handed ∙ ap length text;
        number = (let n = p.number in let s = sum_by_push lines_in_bundle done b in omega arith);
      };
    }
