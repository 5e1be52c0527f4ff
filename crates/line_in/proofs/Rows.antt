-- the lines that words make
use Rattle.std.proofs.Common.{◌≡◌, ◌++◌, [], ◌∷◌, ℕ, suc, List, map, take, drop, get_or, ap, sym, ◌∙◌, arith}
use Rattle.std.specs.Fmt.{decimal}
use Rattle.std.proofs.lemmas.List.{take_all, take-append-drop}
use Rattle.crew_terms.specs.Words.{Words}
use Rattle.dossier_terms.specs.Rules.{IsShape, IsShapeFrom}

-- a line of one word and n numbers
pub whole_line : (w : List ℕ) (n : ℕ) (ws : Words) (ns : List ℕ) → IsShape w n ws → take n (drop 1 ws) ≡ map decimal ns → ws ≡ w ∷ map decimal ns
whole_line w n ws ns shape spelled =
    shape.1 ∙ ap (λ xs. w ∷ xs) (sym (take_all n shape.0 (let l = shape.2 in omega arith)) ∙ ap (λ xs. take n (drop 1 xs)) (sym shape.1) ∙ spelled)

-- a line begins with one word
pub apart : (ws : Words) (v w : List ℕ) (xs ys : Words) → ws ≡ v ∷ xs → ws ≡ w ∷ ys → get_or v 0 0 ≡ get_or w 0 0
apart ws v w xs ys a b = ap (λ zs. get_or (get_or zs 0 []) 0 0) (sym a ∙ b)

-- a line of one word, n numbers and more of them
pub longer_line : (w : List ℕ) (n : ℕ) (ws : Words) (ns ss : List ℕ) → IsShapeFrom w n ws → take n (drop 1 ws) ≡ map decimal ns → drop (suc n) ws ≡ map decimal ss
    → ws ≡ w ∷ (map decimal ns ++ map decimal ss)
longer_line w n ws ns ss (xs, is, few) a b =
    let front : take n xs ≡ map decimal ns = ap (λ ys. take n (drop 1 ys)) (sym is) ∙ a in
    let back : drop n xs ≡ map decimal ss = ap (drop (suc n)) (sym is) ∙ b in
    is ∙ ap (λ ys. w ∷ ys) (sym (take-append-drop n xs) ∙ ap (λ ys. ys ++ drop n xs) front ∙ ap (λ ys. map decimal ns ++ ys) back)
