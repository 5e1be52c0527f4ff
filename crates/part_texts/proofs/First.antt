-- a text begins with that of one dossier, and of one bundle
use Rattle.std.proofs.Common.{◌≡◌, ◌≢◌, ◌≤◌, ◌<◌, ◌+◌, ◌++◌, ◌⊎◌, inl, inr, ⊎_elim, ℕ, zero, suc, List, [], ◌∷◌, length, get_or, ap, sym, subst, refl, ◌∙◌, arith, append_assoc, append-nil}
use Rattle.std.specs.Prelude.{All}
use Rattle.std.specs.List.{flat_map}
use Rattle.std.specs.Fmt.{decimal}
use Rattle.std.proofs.lemmas.Fmt.{decimal_injective}
use Rattle.std.proofs.lemmas.List.{append_cancel_left}
use Rattle.std.proofs.lemmas.List.Elements.{All-weaker}
use Rattle.crew_terms.specs.Words.{Words, line_of, line_text, with_feed, words_of}
use Rattle.crew_terms.specs.declared.TheConstants.{MOST_TASKS}
use Rattle.dossier_terms.specs.Dossier.{Dossier, IsGood}
use Rattle.dossier_terms.specs.Lines.{text_of}
use Rattle.text_laws.specs.Texts.{AreLine, IsWord}
use Rattle.part_texts.specs.Accepted.{AreBundles}
use Rattle.part_texts.specs.Bundle.{Bundle, IsGoodBundle}
use Rattle.part_texts.specs.Lines.{count_words, first_words, text_of_bundle}
use Rattle.part_texts.proofs.Between.{count_is_line}

abbrev Begins : List ℕ → List ℕ → Type 0
Begins xs ys = (more : List ℕ) × (ys ≡ xs ++ more)

-- of two texts that begin one, one begins the other
fronts : (xs ys a b : List ℕ) → xs ++ a ≡ ys ++ b → Begins xs ys ⊎ Begins ys xs
fronts [] ys a b e = inl (ys, refl)
fronts (x ∷ xs) [] a b e = inr (x ∷ xs, refl)
fronts (x ∷ xs) (y ∷ ys) a b e =
    let f : x ≡ y = cc in
    let g : xs ++ a ≡ ys ++ b = cc in
    ⊎_elim (λ (p : Begins xs ys). inl (p.0, ap (λ z. z ∷ ys) (sym f) ∙ ap (λ zs. x ∷ zs) p.1)) (λ (p : Begins ys xs). inr (p.0, ap (λ z. z ∷ xs) f ∙ ap (λ zs. y ∷ zs) p.1)) (fronts xs ys a b g)

pub dossier_first : ((d e : Dossier) (more : List ℕ) → IsGood d → IsGood e → text_of e ≡ text_of d ++ more → (more ≡ []) × (d ≡ e))
    → (d e : Dossier) (x y : List ℕ) → IsGood d → IsGood e → text_of d ++ x ≡ text_of e ++ y → (d ≡ e) × (x ≡ y)
dossier_first one d e x y h k t = (same, append_cancel_left (text_of d) x y (t ∙ ap (λ z. text_of z ++ y) (sym same)))
  where
    same : d ≡ e
    same = ⊎_elim (λ (p : Begins (text_of d) (text_of e)). (one d e p.0 h k p.1).1) (λ (p : Begins (text_of e) (text_of d)). sym (one e d p.0 k h p.1).1) (fronts (text_of d) (text_of e) x y t)

-- the first line before an LF is one
same_line : (a b x y : List ℕ) → All (λ c. c ≢ 10) a → All (λ c. c ≢ 10) b → with_feed a ++ x ≡ with_feed b ++ y → (a ≡ b) × (x ≡ y)
same_line [] [] x y p q e = (refl, cc)
same_line [] (c ∷ b) x y p q e = absurd (q 0 0 (omega arith) (let f : c ≡ 10 = cc in f))
same_line (c ∷ a) [] x y p q e = absurd (p 0 0 (omega arith) (let f : c ≡ 10 = cc in f))
same_line (c ∷ a) (d ∷ b) x y p q e =
    let f : c ≡ d = cc in
    let g : with_feed a ++ x ≡ with_feed b ++ y = cc in
    let r = same_line a b x y (λ k z l. p (suc k) z (omega arith)) (λ k z l. q (suc k) z (omega arith)) g in
    (ap (λ z. z ∷ a) f ∙ ap (λ z. d ∷ z) r.0, r.1)

-- a law of texts of dossiers, and one of lines and their words
module _ (first : (d e : Dossier) (x y : List ℕ) → IsGood d → IsGood e → text_of d ++ x ≡ text_of e ++ y → (d ≡ e) × (x ≡ y))
    (cut : (words : Words) → words ≢ [] → All (All (λ b. b ≢ 32)) words → words_of (line_of words) ≡ words) where
  words_of_count : (k : ℕ) → k ≤ MOST_TASKS → words_of (line_of (count_words k)) ≡ count_words k
  words_of_count k few = let a = count_is_line k few in
      cut (count_words k) a.some (All-weaker IsWord (All (λ b. b ≢ 32)) (λ w h. h.no_space) (count_words k) a.each)

  -- a text begins with one line `parts`
  pub count_first : (j k : ℕ) (x y : List ℕ) → j ≤ MOST_TASKS → k ≤ MOST_TASKS → line_text (count_words j) ++ x ≡ line_text (count_words k) ++ y → (j ≡ k) × (x ≡ y)
  count_first j k x y l m e =
      let r = same_line (line_of (count_words j)) (line_of (count_words k)) x y (count_is_line j l).line.whole (count_is_line k m).line.whole e in
      let words : count_words j ≡ count_words k = sym (words_of_count j l) ∙ ap words_of r.0 ∙ words_of_count k m in
      let same : decimal j ≡ decimal k = ap (λ (ws : Words). get_or ws 1 []) words in
      (decimal_injective j k (omega arith) (omega arith) same, r.1)

  parts_first : (ds es : List Dossier) (x y : List ℕ) → length ds ≡ length es → All IsGood ds → All IsGood es → flat_map text_of ds ++ x ≡ flat_map text_of es ++ y → (ds ≡ es) × (x ≡ y)
  parts_first [] [] x y n h k e = (refl, e)
  parts_first [] (f ∷ es) x y n h k e = absurd (omega arith)
  parts_first (d ∷ ds) [] x y n h k e = absurd (omega arith)
  parts_first (d ∷ ds) (f ∷ es) x y n h k e =
      let ts = flat_map text_of ds in
      let us = flat_map text_of es in
      let r = first d f (ts ++ x) (us ++ y) (h 0 d (omega arith)) (k 0 f (omega arith)) (sym (append_assoc (text_of d) ts x) ∙ e ∙ append_assoc (text_of f) us y) in
      let s = parts_first ds es x y (omega arith) (λ m z l. h (suc m) z (omega arith)) (λ m z l. k (suc m) z (omega arith)) r.1 in
      (ap (λ z. z ∷ ds) r.0 ∙ ap (λ zs. f ∷ zs) s.0, s.1)

  pub bundle_first : (b c : Bundle) (x y : List ℕ) → IsGoodBundle b → IsGoodBundle c → text_of_bundle b ++ x ≡ text_of_bundle c ++ y → (b ≡ c) × (x ≡ y)
  bundle_first b c x y h k e =
      let head = line_text first_words in
      let ps = flat_map text_of b.parts in
      let qs = flat_map text_of c.parts in
      let m = line_text (count_words (length b.parts)) in
      let n = line_text (count_words (length c.parts)) in
      let behind_head : (text_of b.day ++ (m ++ ps)) ++ x ≡ (text_of c.day ++ (n ++ qs)) ++ y =
      append_cancel_left head _ _ (sym (append_assoc head (text_of b.day ++ (m ++ ps)) x) ∙ e ∙ append_assoc head (text_of c.day ++ (n ++ qs)) y) in
      let day = first b.day c.day ((m ++ ps) ++ x) ((n ++ qs) ++ y) h.day k.day (sym (append_assoc (text_of b.day) (m ++ ps) x) ∙ behind_head ∙ append_assoc (text_of c.day) (n ++ qs) y) in
      let count = count_first (length b.parts) (length c.parts) (ps ++ x) (qs ++ y) h.few k.few (sym (append_assoc m ps x) ∙ day.1 ∙ append_assoc n qs y) in
      let parts = parts_first b.parts c.parts x y count.0 h.good k.good count.1 in
      let bundle = λ (d : Dossier) (ds : List Dossier). let z : Bundle = record { day = d; parts = ds } in z in
      (ap (λ d. bundle d b.parts) day.0 ∙ ap (λ ds. bundle c.day ds) parts.0, parts.1)

-- a law of texts of bundles
module _ (first : (b c : Bundle) (x y : List ℕ) → IsGoodBundle b → IsGoodBundle c → text_of_bundle b ++ x ≡ text_of_bundle c ++ y → (b ≡ c) × (x ≡ y)) where
  bundles_first : (bs cs : List Bundle) → All IsGoodBundle bs → All IsGoodBundle cs → flat_map text_of_bundle bs ≡ flat_map text_of_bundle cs → bs ≡ cs
  bundles_first [] [] h k e = refl
  bundles_first [] (c ∷ cs) h k e = absurd (cc)
  bundles_first (b ∷ bs) [] h k e = absurd (cc)
  bundles_first (b ∷ bs) (c ∷ cs) h k e =
      let r = first b c (flat_map text_of_bundle bs) (flat_map text_of_bundle cs) (h 0 b (omega arith)) (k 0 c (omega arith)) e in
      let s = bundles_first bs cs (λ m z l. h (suc m) z (omega arith)) (λ m z l. k (suc m) z (omega arith)) r.1 in
      ap (λ z. z ∷ bs) r.0 ∙ ap (λ zs. c ∷ zs) s

  pub one_list : (bytes : List ℕ) (bs cs : List Bundle) → AreBundles bytes bs → AreBundles bytes cs → bs ≡ cs
  one_list bytes bs cs h k = bundles_first bs cs h.good k.good (sym h.text ∙ k.text)
