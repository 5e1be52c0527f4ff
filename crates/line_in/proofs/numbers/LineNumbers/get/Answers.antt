use Rattle.std.proofs.Common.{◌≡◌, ◌<◌, ◌+◌, [], ℕ, ℤ, List, length, drop, get_or, ap, sym, ◌∙◌, arith, rules, w64, pos, Option, None, Some}
use Rattle.std.specs.Prelude.{FitsSigned, MatchOption, ◌≢◌}
use Rattle.std.specs.Option.{IsSome}
use Rattle.std.specs.Str.Parse.{signed_digits_value}
use Rattle.std.specs.Fmt.{signed_decimal}
use Rattle.std.proofs.lemmas.Int.{to_z-of_z}
use Rattle.std.proofs.lemmas.List.{length-map, get_or-drop}
use Rattle.line_in.proofs.Rests.{number_at, value_at, value_back}
use Rattle.line_in.proofs.numbers.LineNumbers.get.Goals as goal

some : (w : List ℕ) (r : Option ℤ) (z : ℤ) → FitsSigned w64 z → w ≡ signed_decimal z
    → MatchOption r ((n : ℤ) → FitsSigned w64 n → w ≢ signed_decimal n) (λ n. w ≡ signed_decimal n) → IsSome r
some w None z fits e h = absurd (h z fits e)
some w (Some r) z fits e h = search rules

pub unwrap-requires : goal.unwrap-requires
unwrap-requires c =
    let a = c.self.inside in
    let k = c.args.n in
    let there : k < length (drop a.from a.words) =
    (let r = c.requires in let v = ap length c.self.view_is in let l = length-map (drop a.from a.words) (signed_digits_value 10) in omega arith) in
    let few : k < length c.self.invariant.numbers =
    (let s = ap length c.self.invariant.spelled in let l = length-map c.self.invariant.numbers signed_decimal in omega arith) in
    let z = number_at c.self.invariant.numbers c.self.invariant.fit k few in
    let word : get_or a.words (a.from + k) [] ≡ signed_decimal z.0 = sym (get_or-drop a.from a.words k []) ∙ ap (λ ws. get_or ws k []) c.self.invariant.spelled ∙ z.2 in
    some (get_or a.words (a.from + k) []) c.number.result z.0 z.1 word c.number.ensures.exact

pub returns : goal.returns
returns c =
    let a = c.self.inside in
    let k = c.args.n in
    let there : k < length (drop a.from a.words) =
    (let r = c.requires in let v = ap length c.self.view_is in let l = length-map (drop a.from a.words) (signed_digits_value 10) in omega arith) in
    let fits : FitsSigned w64 c.unwrap.result = search rules in
    let spelled : get_or a.words (a.from + k) [] ≡ signed_decimal c.unwrap.result = rw c.unwrap.ensures at c.number.ensures.exact in
    to_z-of_z w64 c.unwrap.result fits ∙ sym (value_back c.unwrap.result fits) ∙ ap (signed_digits_value 10) (sym spelled)
    ∙ ap (signed_digits_value 10) (sym (get_or-drop a.from a.words k []))
    ∙ sym (value_at (drop a.from a.words) k there) ∙ ap (λ zs. get_or zs k (pos 0)) c.self.view_is
