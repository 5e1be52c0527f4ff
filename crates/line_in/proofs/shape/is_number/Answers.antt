use Rattle.std.proofs.Common.{◌≡◌, ◌≢◌, ◌<◌, ◌^◌, [], ℕ, ℤ, pos, List, Bool, true, false, eqb, get_or, ap, sym, refl, ◌∙◌, arith, rules, w64, to_z, of_z, MatchBool}
use Rattle.std.specs.Prelude.{FitsSigned}
use Rattle.std.specs.Fmt.{decimal, signed_decimal}
use Rattle.std.proofs.lemmas.Int.{ints, to_z-of_z}
use Rattle.std.proofs.lemmas.Bool.{eqb-true, eq-eqb}
use Rattle.std.proofs.lemmas.Fmt.{signed_decimal_injective}
use Rattle.line_in.proofs.shape.is_number.Goals as goal

-- a word is the decimal of the number that it spells, and of no other
equal : (b : Bool) (w : List ℕ) (z : ℤ) (n : ℕ) → FitsSigned w64 z → n < 2 ^ 32 → w ≡ signed_decimal z → eqb (of_z w64 z) n ≡ b → MatchBool b (w ≡ decimal n) (w ≢ decimal n)
equal true w z n fit small e h =
    let own = to_z-of_z w64 z fit in
    let is = eqb-true (of_z w64 z) n h in
    let same : z ≡ pos n = sym own ∙ ap (to_z w64) is ∙ (let l : to_z w64 n ≡ pos n = omega (arith, ints) in l) in
    e ∙ ap signed_decimal same
equal false w z n fit small e h = λ f.
    let same : z ≡ pos n = signed_decimal_injective z (pos n) fit.sfits (omega arith) (sym e ∙ f) in
    let is : of_z w64 z ≡ n = ap (of_z w64) same ∙ (let l : of_z w64 (pos n) ≡ n = omega (arith, ints) in l) in
    let t : true ≡ false = sym (eq-eqb (of_z w64 z) n is) ∙ h in
    cc

pub returns-in_default : goal.returns-in_default
returns-in_default c = λ e. c.in_default.ensures.exact (pos c.args.number) (record { sfits = omega arith }) e

pub returns : goal.returns
returns c =
    let fit : FitsSigned w64 c.in-Some.z = search rules in
    equal _ (get_or c.args.words.now c.args.n []) c.in-Some.z c.args.number fit (omega arith) c.in-Some.ensures.exact refl
