-- fronts of what is written
use Rattle.std.proofs.Common.{◌≡◌, ◌+◌, ◌++◌, ℕ, List, Option, None, Some, length, take, ap, sym, ◌∙◌, arith, subst, append_assoc, length-append}
use Rattle.std.proofs.lemmas.List.{take-append-le}
use Rattle.std.proofs.Math.Seq.{take-length}
use Rattle.crew_io.specs.Io.{Appended, AppendedPart}
use Rattle.crew_io.specs.Appends.{take_past}

-- the whole begins with the bytes
pub record IsFront (xs whole : List ℕ) : Type 0 where
  pub rest : List ℕ
  pub is : whole ≡ xs ++ rest

pub front_within : (xs ys whole : List ℕ) → IsFront xs ys → IsFront ys whole → IsFront xs whole
front_within xs ys whole a b = record { rest = a.rest ++ b.rest; is = b.is ∙ ap (λ zs. zs ++ b.rest) a.is ∙ append_assoc xs a.rest b.rest }

-- what was written whole is a front of itself
pub all_is_part : (old new : Option (List ℕ)) (text : List ℕ) → Appended old new text → AppendedPart old new text
all_is_part None new text a = a
all_is_part (Some bytes) new text a = (length text, omega arith, a ∙ ap (λ x. Some (bytes ++ x)) (sym (take-length text)))

-- behind what was written whole a front was written: in all, a front of the whole
pub part_after : (old mid new : Option (List ℕ)) (xs ys whole : List ℕ) → Appended old mid xs → AppendedPart mid new ys → IsFront (xs ++ ys) whole → AppendedPart old new whole
part_after None mid new xs ys whole a b f = subst (λ m. AppendedPart m new ys) a b
part_after (Some bytes) mid new xs ys whole a b f =
    let p = subst (λ m. AppendedPart m new ys) a b in
    let is : whole ≡ xs ++ (ys ++ f.rest) = f.is ∙ append_assoc xs ys f.rest in
    let same : take (length xs + p.0) whole ≡ xs ++ take p.0 ys =
    ap (take (length xs + p.0)) is ∙ take_past xs (ys ++ f.rest) p.0 ∙ ap (λ l. xs ++ l) (take-append-le p.0 ys f.rest p.1) in (
      length xs + p.0,
      omega (arith, p.1, ap length is, length-append xs (ys ++ f.rest), length-append ys f.rest),
      p.2 ∙ ap Some (append_assoc bytes xs (take p.0 ys) ∙ ap (λ l. bytes ++ l) (sym same)),
    )
