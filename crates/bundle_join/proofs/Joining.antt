-- a bundle of the dossiers of a day and of its parts
use Rattle.std.proofs.Common.{◌≡◌, ◌≤◌, ◌++◌, ℕ, List, [], ◌∷◌, length, map, ap, subst, sym, refl, ◌∙◌, arith, max}
use Rattle.std.specs.List.{flat_map}
use Rattle.std.proofs.lemmas.List.{length-map}
use Rattle.crew_terms.specs.Words.{line_text}
use Rattle.dossier_terms.specs.Dossier.{Dossier, IsGood}
use Rattle.dossier_terms.specs.Lines.{text_of}
use Rattle.part_texts.specs.Bundle.{Bundle, ArePartsOf}
use Rattle.part_texts.specs.Lines.{count_words, first_words, text_of_bundle}
use Rattle.bundle_join.specs.Firsts.{IsChosen, Own, Joined}
use Rattle.bundle_join.specs.Joined.{IsJoined}
use Rattle.bundle_join.specs.Tallies.{IsTallied}
use Rattle.bundle_join.specs.Texts.{AreTexts, text_with}
use Rattle.bundle_join.specs.declared.tally.Tally.{Tally}

module _ (d : Dossier) (parts : List Dossier) (sum : ℕ) (e : Dossier) where
  good_first : IsGood d → IsChosen d sum e → IsGood e
  good_first good (Own is) = subst IsGood (sym is) good
  good_first good (Joined better proves) = better.good

  of_day : IsChosen d sum e → e.instance ≡ d.instance
  of_day (Own is) = ap (λ (x : Dossier). x.instance) is
  of_day (Joined better proves) = better.instance

  no_less : IsChosen d sum e → d.bound ≤ max e.bound sum
  no_less (Own is) = let b = ap (λ (x : Dossier). x.bound) is in omega (arith, b)
  no_less (Joined better proves) = omega (arith, proves)

-- the bundle
abbrev pub made : Dossier → List Dossier → Bundle
made e parts = record { day = e; parts = parts }

pub is_joined : (d : Dossier) (parts : List Dossier) (e : Dossier) (tally : Tally) (texts : List (List ℕ)) → IsGood d → AreTexts texts parts → IsTallied d parts tally → IsChosen d tally.bounds e
    → IsJoined d parts (made e parts)
is_joined d parts e tally texts good are t chosen = record {
  good = record {
    day = good_first d parts tally.bounds e good chosen;
    few = t.few;
    good = are.good;
    divided = subst (λ i. ArePartsOf i parts) (sym (of_day d parts tally.bounds e chosen)) (tally.taken, t.told.taken);
  };
  have = refl;
  day = subst (λ n. IsChosen d n e) t.told.bounds chosen;
  proves = subst (λ n. d.bound ≤ max e.bound n) t.told.bounds (no_less d parts tally.bounds e chosen);
}

flat_texts : (parts : List Dossier) → flat_map (λ (text : List ℕ). text) (map text_of parts) ≡ flat_map text_of parts
flat_texts parts = flat_of parts
  where
    flat_of : (ds : List Dossier) → flat_map (λ (text : List ℕ). text) (map text_of ds) ≡ flat_map text_of ds
    flat_of [] = refl
    flat_of (d ∷ ds) = ap (λ x. text_of d ++ x) (flat_of ds)

-- and its text
pub its_text : (e : Dossier) (parts : List Dossier) (first : List ℕ) (texts : List (List ℕ)) → AreTexts texts parts → first ≡ text_of e → text_with first texts ≡ text_of_bundle (made e parts)
its_text e parts first texts are is =
    ap (λ x. text_with x texts) is ∙ ap (text_with (text_of e)) are.are
    ∙ ap (λ n. line_text first_words ++ (text_of e ++ (line_text (count_words n) ++ flat_map (λ (text : List ℕ). text) (map text_of parts)))) (length-map parts text_of)
    ∙ ap (λ x. line_text first_words ++ (text_of e ++ (line_text (count_words (length parts)) ++ x))) (flat_texts parts)
