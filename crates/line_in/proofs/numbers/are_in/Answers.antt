use Rattle.std.proofs.Common.{◌≡◌, ◌<◌, ◌+◌, ◌-◌, [], length, drop, get_or, ap, sym, ◌∙◌, arith, length-drop, inl, inr}
use Rattle.std.proofs.lemmas.Bool.{cases_eq}
use Rattle.std.specs.Fmt.{signed_decimal}
use Rattle.std.proofs.lemmas.List.{length-map, get_or-drop}
use Rattle.line_in.proofs.Fields.{spelled_at, spelled_all}
use Rattle.line_in.proofs.numbers.are_in.Goals as goal

pub returns-then-not-is_in : goal.returns-then-not-is_in
returns-then-not-is_in c = λ ns s.
    let ws = c.args.words.now in
    let k = c.loop-n.n - c.args.from in
    let from = c.loop-n.auto.n in
    let until = c.loop-n-test.true in
    let count = c.count-n-end.ensures in
    let few : k < length ns = (let e = ap length s.spelled in omega (arith, e, length-map ns signed_decimal, length-drop c.args.from ws)) in
    let at = spelled_at c.args.field.now ns s.each k few in
    let back : c.args.from + k ≡ c.loop-n.n = omega arith in
    let word : get_or ws c.loop-n.n [] ≡ signed_decimal at.0 =
    ap (λ m. get_or ws m []) (sym back) ∙ sym (get_or-drop c.args.from ws k []) ∙ ap (λ vs. get_or vs k []) s.spelled ∙ at.2 in
    c.if-not-is_in.ensures at.0 at.1 word

pub loop-n-preserved : goal.loop-n-preserved
loop-n-preserved c = λ k low high.
    elim (cases_eq k c.loop-n.n) [
      | inl same ↦ (let h = c.if-not-is_in.ensures in (h.0, h.1, ap (λ m. get_or c.args.words.now m []) same ∙ h.2))
      | inr other ↦ c.loop-n.invariant k low (omega arith)
    ]

pub returns : goal.returns
returns c =
    let ws = c.args.words.now in
    let count = c.count-n-end.ensures in
    let stop = c.loop-n-test.false in
    spelled_all c.args.field.now (drop c.args.from ws) (λ k h.
    let there = length-drop c.args.from ws in
    rw get_or-drop (c.loop-n.invariant (c.args.from + k) (omega arith) (omega arith)))
