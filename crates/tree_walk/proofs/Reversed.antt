-- a list from its end
use Rattle.std.proofs.Common.{◌≡◌, ◌+◌, ◌++◌, ℕ, suc, List, [], ◌∷◌, length, set, get_or, take, drop, reverse, arith, ap, sym, ◌∙◌}
use Rattle.std.proofs.lemmas.List.{reverse-append, set_split, drop_all, take_all, take_more}

-- another last element
pub reverse-set_last : {A : Type 0} (xs : List A) (n : ℕ) (x : A) → length xs ≡ n + 1 → reverse (set xs n x) ≡ x ∷ drop 1 (reverse xs)
reverse-set_last xs n x l =
    let front = take n xs in
    let y = get_or xs n x in
    let new : set xs n x ≡ front ++ x ∷ [] = set_split xs n x (omega arith) ∙ ap (λ rest. front ++ x ∷ rest) (drop_all (suc n) xs (omega arith)) in
    let old : xs ≡ front ++ y ∷ [] = sym (take_all (n + 1) xs (omega arith)) ∙ take_more xs n x (omega arith) in
    let turned : reverse xs ≡ y ∷ reverse front = ap reverse old ∙ reverse-append front (y ∷ []) in
    ap reverse new ∙ reverse-append front (x ∷ []) ∙ ap (λ r. x ∷ drop 1 r) (sym turned)
