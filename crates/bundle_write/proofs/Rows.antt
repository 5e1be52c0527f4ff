-- lists of numbers, as vectors
use Rattle.std.proofs.Common.{◌≡◌, ◌<◌, ℕ, List, [], Vec, Global, length, get_or, ap, subst, sym, ◌∙◌}
use Rattle.std.specs.Prelude.{All}
use Rattle.std.specs.List.Sorted.{IsStrictlyIncreasing}
use Rattle.std.proofs.lemmas.List.{get_or-map, length-map}
use Rattle.std.proofs.lemmas.List.Elements.{All-get_or}
use Rattle.crew_instance.specs.Draft.{rows_of}
use Rattle.crew_terms.specs.Instance.{Instance}
use Rattle.bundle_write.specs.Parts.{AreTaskLists}

-- the items of the list with this number
pub row_at : (lists : List (Vec ℕ Global)) (k : ℕ) (row : Vec ℕ Global) (items : List ℕ) → k < length lists → row ≡ get_or lists k row → items ≡ row.items → get_or (rows_of lists) k [] ≡ items
row_at lists k row items l is e = get_or-map (λ (r : Vec ℕ Global). r.items) lists k row [] l ∙ ap (λ (r : Vec ℕ Global). r.items) (sym is) ∙ sym e

pub within : (lists : List (Vec ℕ Global)) (k : ℕ) → k < length lists → k < length (rows_of lists)
within lists k l = subst (λ n. k < n) (sym (length-map lists (λ (r : Vec ℕ Global). r.items))) l

module _ (i : Instance) (lists : List (List ℕ)) (k : ℕ) (tasks : List ℕ) (l : k < length lists) (row : get_or lists k [] ≡ tasks) (are : AreTaskLists i lists) where
  pub known_at : All (λ t. t < length i.tasks) tasks
  known_at = subst (All (λ t. t < length i.tasks)) row (All-get_or (All (λ t. t < length i.tasks)) lists k [] l are.known)

  pub rising_at : IsStrictlyIncreasing tasks
  rising_at = subst IsStrictlyIncreasing row (All-get_or IsStrictlyIncreasing lists k [] l are.rising)
