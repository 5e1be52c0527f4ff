-- bytes that are kept, and texts one after another
use Rattle.std.proofs.Common.{◌≡◌, ◌++◌, ℕ, List, [], ◌∷◌, Option, None, Some, Vec, Global, ap, sym, refl, ◌∙◌}
use Rattle.std.specs.List.{flat_map}
use Rattle.crew_io.specs.Io.{Appended}
use Rattle.crew_instance.specs.Draft.{rows_of}

-- what was written to a sink that had nothing is all that it has
pub all_written : (old new : Option (List ℕ)) (text items : List ℕ) → old ≡ Some [] → new ≡ Some items → Appended old new text → items ≡ text
all_written None new text items e f a = absurd (cc)
all_written (Some bytes) new text items e f a =
    let b : bytes ≡ [] = cc in
    let j : bytes ++ text ≡ text = ap (λ x. x ++ text) b in
    let h = sym f ∙ a in cc

-- the items of vectors, one after another
pub items_of_rows : (rows : List (Vec ℕ Global)) → flat_map (λ (row : Vec ℕ Global). row.items) rows ≡ flat_map (λ (text : List ℕ). text) (rows_of rows)
items_of_rows [] = refl
items_of_rows (row ∷ rows) = ap (λ x. row.items ++ x) (items_of_rows rows)
