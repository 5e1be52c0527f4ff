-- laws of what a sink got
use Rattle.std.proofs.Common.{◌≡◌, ◌+◌, ℕ, suc, List, [], ◌∷◌, ◌++◌, length, take, refl, ap, sym, subst, ◌∙◌, arith, append-nil, append_assoc, Option, None, Some}
use Rattle.crew_io.specs.Io.{Appended}

-- nothing was written
pub appended_none : (got : Option (List ℕ)) → Appended got got []
appended_none None = refl
appended_none (Some bytes) = ap Some (sym (append-nil bytes))

-- one piece was written, and then another
pub appended_both : (old mid new : Option (List ℕ)) (xs ys : List ℕ) → Appended old mid xs → Appended mid new ys → Appended old new (xs ++ ys)
appended_both None mid new xs ys p q = subst (λ m. Appended m new ys) p q
appended_both (Some bytes) mid new xs ys p q = subst (λ m. Appended m new ys) p q ∙ ap Some (append_assoc bytes xs ys)

-- a front that holds the first piece is that piece and a front of the second
pub take_past : (xs zs : List ℕ) (n : ℕ) → take (length xs + n) (xs ++ zs) ≡ xs ++ take n zs
take_past [] zs n = ap (λ k. take k zs) (omega arith)
take_past (x ∷ xs) zs n = ap (λ k. take k (x ∷ (xs ++ zs))) (suc_plus (length xs) n) ∙ ap (λ l. x ∷ l) (take_past xs zs n)
  where
    suc_plus : (a b : ℕ) → suc a + b ≡ suc (a + b)
    suc_plus a b = omega arith
