-- lines are those of one dossier at most
use Rattle.std.proofs.Common.{◌≡◌, List, [], ◌∷◌, ◌++◌, append-nil, sym, refl, ◌∙◌, subst, inl, inr}
use Rattle.dossier_terms.specs.declared.Reason.{Reason}
use Rattle.dossier_terms.specs.Dossier.{Dossier, IsGood}
use Rattle.crew_terms.specs.Words.{Words}
use Rattle.dossier_terms.specs.Lines.{lines_of}
use Rattle.dossier_terms.specs.Reading.{Reading, Answer, More, Whole, No, Form}
use Rattle.dossier_terms.specs.Table.{Says, Reaches, Ended}
use Rattle.dossier_laws.proofs.SoFar.{IsReading}
use Rattle.dossier_laws.proofs.Sound.{says_follows}
use Rattle.dossier_laws.proofs.Complete.{good_ended}
use Rattle.dossier_laws.proofs.Single.{HaveOneVerdict, says_one}

no_more : {A : Type 0} (xs ys : List A) → xs ≡ [] → xs ++ ys ≡ [] → ys ≡ []
no_more [] ys e h = h
no_more (x ∷ xs) ys e h = absurd cc

ended_one : HaveOneVerdict → (s : Reading) (lines more : List Words) (d e : Dossier) → IsReading s → Ended s lines d → Ended s (lines ++ more) e → (more ≡ []) × (d ≡ e)
ended_one verdicts s [] more d e r h k = absurd h
ended_one verdicts s (ws ∷ lines) more d e r (inl h) (inl k) =
    (no_more lines more h.1 k.1, (let a : Whole d ≡ Whole e = says_one verdicts s ws r (Whole d) (Whole e) h.0 k.0 in cc))
ended_one verdicts s (ws ∷ lines) more d e r (inl h) (inr k) = absurd (let a : Whole d ≡ More k.0 = says_one verdicts s ws r (Whole d) (More k.0) h.0 k.1 in cc)
ended_one verdicts s (ws ∷ lines) more d e r (inr h) (inl k) = absurd (let a : More h.0 ≡ Whole e = says_one verdicts s ws r (More h.0) (Whole e) h.1 k.0 in cc)
ended_one verdicts s (ws ∷ lines) more d e r (inr h) (inr k) =
    let a : More h.0 ≡ More k.0 = says_one verdicts s ws r (More h.0) (More k.0) h.1 k.1 in
    let b : k.0 ≡ h.0 = cc in
    let c = says_follows s ws (More h.0) r h.1 in
    ended_one verdicts h.0 lines more d e c.1 h.2 (subst (λ z. Ended z (lines ++ more) e) b k.2)

pub lines_one : HaveOneVerdict → (d e : Dossier) (more : List Words) → IsGood d → IsGood e → lines_of e ≡ lines_of d ++ more → (more ≡ []) × (d ≡ e)
lines_one verdicts d e more h k same = ended_one verdicts Form (lines_of d) more d e tt (good_ended d h) (subst (λ ls. Ended Form ls e) same (good_ended e k))

-- a state that lines lead to is one of reading
reading_reached : (s : Reading) (lines : List Words) (t : Reading) → IsReading s → Reaches s lines t → IsReading t
reading_reached s [] t r h = subst IsReading h r
reading_reached s (ws ∷ lines) t r h = let a = says_follows s ws (More h.0) r h.1 in reading_reached h.0 lines t a.1 h.2

pub reached_says_one : HaveOneVerdict → (lines : List Words) (s : Reading) (ws : Words) (a b : Answer) → Reaches Form lines s → Says s ws a → Says s ws b → a ≡ b
reached_says_one verdicts lines s ws a b h = says_one verdicts s ws (reading_reached Form lines s tt h) a b

-- ---- what is read so far, and what may follow

pub ended-after : HaveOneVerdict → (s : Reading) (lines more : List Words) (t : Reading) (d : Dossier) → IsReading s → Reaches s lines t → Ended s (lines ++ more) d → Ended t more d
ended-after verdicts s [] more t d r h k = subst (λ z. Ended z more d) h k
ended-after verdicts s (ws ∷ lines) more t d r h (inl k) = absurd (let a : More h.0 ≡ Whole d = says_one verdicts s ws r (More h.0) (Whole d) h.1 k.0 in cc)
ended-after verdicts s (ws ∷ lines) more t d r h (inr k) =
    let a : More h.0 ≡ More k.0 = says_one verdicts s ws r (More h.0) (More k.0) h.1 k.1 in
    let b : k.0 ≡ h.0 = cc in
    let c = says_follows s ws (More h.0) r h.1 in
    ended-after verdicts h.0 lines more t d c.1 h.2 (subst (λ z. Ended z (lines ++ more) d) b k.2)

pub rest_ended : HaveOneVerdict → (lines more : List Words) (s : Reading) (d : Dossier) → Reaches Form lines s → IsGood d → lines_of d ≡ lines ++ more → Ended s more d
rest_ended verdicts lines more s d h good e = ended-after verdicts Form lines more s d tt h (subst (λ ls. Ended Form ls d) e (good_ended d good))

pub refused_not_good : HaveOneVerdict → (lines more : List Words) (s : Reading) (ws : Words) (q : Reason) (d : Dossier)
    → Reaches Form lines s → Says s ws (No q) → IsGood d → lines_of d ≡ lines ++ ws ∷ more → ⊥
refused_not_good verdicts lines more s ws q d h told good e =
    at (rest_ended verdicts lines (ws ∷ more) s d h good e)
  where
    same : (said : Answer) → Says s ws said → No q ≡ said
    same said t = reached_says_one verdicts lines s ws (No q) said h told t

    at : Ended s (ws ∷ more) d → ⊥
    at (inl k) = let a : No q ≡ Whole d = same (Whole d) k.0 in absurd cc
    at (inr k) = let a : No q ≡ More k.0 = same (More k.0) k.1 in absurd cc

pub unended_not_good : HaveOneVerdict → (lines : List Words) (s : Reading) (d : Dossier) → Reaches Form lines s → IsGood d → lines_of d ≡ lines → ⊥
unended_not_good verdicts lines s d h good e = rest_ended verdicts lines [] s d h good (e ∙ sym (append-nil lines))

pub reaches_more : (s : Reading) (lines : List Words) (m : Reading) (ws : Words) (t : Reading) → Reaches s lines m → Says m ws (More t) → Reaches s (lines ++ ws ∷ []) t
reaches_more s [] m ws t h k = (t, subst (λ z. Says z ws (More t)) (sym h) k, refl)
reaches_more s (x ∷ lines) m ws t h k = (h.0, h.1, reaches_more h.0 lines m ws t h.2 k)

pub reaches_end : (s : Reading) (lines : List Words) (m : Reading) (ws : Words) (d : Dossier) → Reaches s lines m → Says m ws (Whole d) → Ended s (lines ++ ws ∷ []) d
reaches_end s [] m ws d h k = inl (subst (λ z. Says z ws (Whole d)) (sym h) k, refl)
reaches_end s (x ∷ lines) m ws d h k = inr (h.0, h.1, reaches_end h.0 lines m ws d h.2 k)
