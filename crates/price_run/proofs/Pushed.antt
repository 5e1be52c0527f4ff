-- a fact of each element of a list, with one more
use Rattle.std.proofs.Common.{◌≡◌, ◌<◌, ◌+◌, ℕ, List, [], ◌∷◌, ◌++◌, length, get_or, ap, sym, subst, ◌∙◌, arith, ◌⊎◌, inl, inr}
use Rattle.std.proofs.Math.ListN.{get_or-append}
use Rattle.std.proofs.Math.Seq.{get_or-append_seam}
use Rattle.std.proofs.lemmas.Bool.{cases_eq}

pub each_more : {A : Type 0} (P : ℕ → A → Type 0) (d : A) (xs : List A) (x : A) (k : ℕ) → length xs ≡ k → ((h : ℕ) → h < k → P h (get_or xs h d)) → P k x
    → (h : ℕ) → h < k + 1 → P h (get_or (xs ++ x ∷ []) h d)
each_more {A} P d xs x k count all one h l = by (cases_eq h k)
  where
    here : get_or (xs ++ x ∷ []) k d ≡ x
    here = ap (λ i. get_or (xs ++ x ∷ []) i d) (sym count) ∙ get_or-append_seam xs x [] d

    by : (h ≡ k) ⊎ (h ≡ k → ⊥) → P h (get_or (xs ++ x ∷ []) h d)
    by (inl e) = subst (λ g. P g (get_or (xs ++ x ∷ []) g d)) (sym e) (subst (P k) (sym here) one)
    by (inr ne) = let b : h < k = omega arith in subst (P h) (sym (get_or-append xs (x ∷ []) d h (omega arith))) (all h b)
