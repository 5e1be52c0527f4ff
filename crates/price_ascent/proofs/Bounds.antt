use Rattle.std.proofs.Common.{◌≡◌, ◌≢◌, ◌<◌, ◌+◌, ◌++◌, ◌∷◌, [], ℕ, ℤ, pos, List, length, ◌⊎◌, inl, inr, ap, sym, subst, ◌∙◌, arith, length-append, to_z, of_z}
use Rattle.std.specs.Int.{w128}
use Rattle.std.specs.Prelude.{FitsSigned}
use Rattle.std.proofs.lemmas.Bool.{cases_eq}
use Rattle.std.proofs.lemmas.Int.{to_z-of_z}
use Rattle.std.proofs.lemmas.List.{get_or_append_left}
use Rattle.std.proofs.Math.Seq.{get_or-append_seam}
use Rattle.crew_terms.specs.Limits.{Limits}
use Rattle.crew_terms.specs.Leaf.{IsWorth, Prices, worth_of, earned}
use Rattle.price_ascent.specs.Bound.{AreFirstWorths, ArePricedAt}

pub first_worths_more : (n : Limits) (p : Prices) (ws : List ℤ) (w : ℤ) → AreFirstWorths n p ws → IsWorth n (length ws) (earned p (length ws)) w → AreFirstWorths n p (ws ++ w ∷ [])
first_worths_more n p ws w all here = λ h lt. by h (omega (arith, length-append ws (w ∷ []))) (cases_eq h (length ws))
  where
    by : (h : ℕ) → h < length ws + 1 → (h ≡ length ws) ⊎ (h ≡ length ws → ⊥) → IsWorth n h (earned p h) (worth_of (ws ++ w ∷ []) h)
    by h lt (inl e) =
        let at : worth_of (ws ++ w ∷ []) h ≡ w = ap (worth_of (ws ++ w ∷ [])) e ∙ get_or-append_seam ws w [] (pos 0) in
        subst (λ j. IsWorth n j (earned p j) (worth_of (ws ++ w ∷ []) h)) (sym e) (subst (IsWorth n (length ws) (earned p (length ws))) (sym at) here)
    by h lt (inr ne) =
        let d : h ≢ length ws = ne in
        let before : h < length ws = omega arith in
        subst (IsWorth n h (earned p h)) (sym (get_or_append_left ws (w ∷ []) (pos 0) h before)) (all h before)

-- a bound as code keeps it
pub in_bits : (n : Limits) (p : Prices) (b : ℤ) → FitsSigned w128 b → ArePricedAt n p b → ArePricedAt n p (to_z w128 (of_z w128 b))
in_bits n p b fits h = subst (ArePricedAt n p) (sym (to_z-of_z w128 b fits)) h
