use Rattle.std.proofs.Common.{◌≡◌, ◌<◌, ◌+◌, ◌^◌, [], ℕ, List, length, drop, get_or, ap, sym, ◌∙◌, arith, rules, Option, None, Some}
use Rattle.std.specs.Prelude.{MatchOption, ◌≢◌}
use Rattle.std.specs.Option.{IsSome}
use Rattle.std.specs.Str.Parse.{digits_value}
use Rattle.std.specs.Fmt.{decimal}
use Rattle.std.proofs.lemmas.List.{length-map, get_or-drop}
use Rattle.line_in.proofs.WideWords.{natural_in, value_at, value_back}
use Rattle.line_in.proofs.wides.WideNumbers.get.Goals as goal

some : (w : List ℕ) (r : Option ℕ) (k : ℕ) → k < 2 ^ 127 → w ≡ decimal k
    → MatchOption r ((n : ℕ) → n < 2 ^ 127 → w ≢ decimal n) (λ n. (n < 2 ^ 127) × (w ≡ decimal n)) → IsSome r
some w None k fits e h = absurd (h k fits e)
some w (Some r) k fits e h = search rules

pub unwrap-requires : goal.unwrap-requires
unwrap-requires c =
    let a = c.self.inside in
    let k = c.args.n in
    let there : k < length (drop a.from a.words) =
    (let r = c.requires in let v = ap length c.self.view_is in let l = length-map (drop a.from a.words) (digits_value 10) in omega arith) in
    let few : k < length c.self.invariant.numbers =
    (let s = ap length c.self.invariant.spelled in let l = length-map c.self.invariant.numbers decimal in omega arith) in
    let z = natural_in (2 ^ 127) c.self.invariant.numbers c.self.invariant.small k few in
    let word : get_or a.words (a.from + k) [] ≡ decimal z.0 = sym (get_or-drop a.from a.words k []) ∙ ap (λ ws. get_or ws k []) c.self.invariant.spelled ∙ z.2 in
    some (get_or a.words (a.from + k) []) c.natural_at.result z.0 z.1 word c.natural_at.ensures

pub returns-clause-exact : goal.returns-clause-exact
returns-clause-exact c =
    let a = c.self.inside in
    let k = c.args.n in
    let there : k < length (drop a.from a.words) =
    (let r = c.requires in let v = ap length c.self.view_is in let l = length-map (drop a.from a.words) (digits_value 10) in omega arith) in
    let found = rw c.unwrap.ensures at c.natural_at.ensures in
    sym (value_back c.unwrap.result found.0) ∙ ap (digits_value 10) (sym found.1)
    ∙ ap (digits_value 10) (sym (get_or-drop a.from a.words k []))
    ∙ sym (value_at (drop a.from a.words) k there) ∙ ap (λ zs. get_or zs k 0) c.self.view_is
