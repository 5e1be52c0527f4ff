-- names that are a letter and a number
use Rattle.std.proofs.Common.{◌≡◌, ◌≢◌, ◌≤◌, ◌<◌, ◌+◌, ◌%◌, ◌^◌, ◌++◌, ◌∷◌, [], ℕ, suc, List, true, false, length, take, ap, ◌∙◌, arith}
use Rattle.std.specs.List.{AllPass}
use Rattle.std.specs.Fmt.{decimal}
use Rattle.std.specs.Str.{bytes_eq}
use Rattle.std.proofs.lemmas.Fmt.{decimal_by_steps, decimal_injective, length-decimal-le}
use Rattle.std.proofs.lemmas.Bool.{false_from_ne_true}
use Rattle.std.proofs.lemmas.Slice.Eq.{bytes_eq-Decides}
use Rattle.std.proofs.Math.Seq.{take-append_seam}
use Rattle.std.proofs.lemmas.List.Elements.{All-cons, All-nil, All-append}
use Rattle.crew_terms.specs.Name.{IsName, name_byte}

-- a digit may stand in a name
digit : (d : ℕ) → d < 10 → name_byte (48 + d) ≡ true
digit d h = grind arith

digits_spelled : (n : ℕ) → n < 2 ^ 64 → AllPass name_byte (decimal n)
digits_spelled n small = decimal_by_steps (λ _ ds. AllPass name_byte ds)
    (λ d h. All-cons (λ x. name_byte x ≡ true) (48 + d) [] (digit d h) (All-nil (λ x. name_byte x ≡ true)))
    (λ m ds more spelled. All-append (λ x. name_byte x ≡ true) ds ((48 + m % 10) ∷ []) spelled
    (All-cons (λ x. name_byte x ≡ true) (48 + m % 10) [] (digit (m % 10) (omega arith)) (All-nil (λ x. name_byte x ≡ true))))
    n small

pub numbered_is_name : (letter n : ℕ) → name_byte letter ≡ true → n < 2 ^ 32 → IsName (letter ∷ decimal n)
numbered_is_name letter n plain small =
    let short : length (decimal n) ≤ 10 = length-decimal-le 10 n (omega arith) (omega arith) (omega arith) in
    record {
      some = omega arith;
      short = omega arith;
      spelled = All-cons (λ x. name_byte x ≡ true) letter (decimal n) plain (digits_spelled n (omega arith));
    }

-- the front of the bytes is the letter and the digits
pub front_name : (letter n : ℕ) (digits room rest : List ℕ) → room ≡ digits → digits ≡ decimal n
    → take (1 + length digits) (letter ∷ (room ++ rest)) ≡ letter ∷ decimal n
front_name letter n digits room rest same is =
    let e : 1 + length digits ≡ suc (length digits) = omega arith in
    ap (λ k. take k (letter ∷ (room ++ rest))) e
    ∙ ap (λ r. letter ∷ take (length digits) (r ++ rest)) same
    ∙ ap (λ ds. letter ∷ ds) (take-append_seam digits rest ∙ is)

-- names of one letter and two numbers differ
pub numbered_differ : (letter i k : ℕ) → i ≢ k → i < 2 ^ 64 → k < 2 ^ 64 → bytes_eq (letter ∷ decimal i) (letter ∷ decimal k) ≡ false
numbered_differ letter i k other small fits =
    false_from_ne_true (bytes_eq (letter ∷ decimal i) (letter ∷ decimal k))
    (λ same.
    let e : letter ∷ decimal i ≡ letter ∷ decimal k = (bytes_eq-Decides (letter ∷ decimal i) (letter ∷ decimal k)).0 same in
    let ds : decimal i ≡ decimal k = cc in
    other (decimal_injective i k small fits ds))
