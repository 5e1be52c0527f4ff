use Rattle.std.proofs.Common.{◌≡◌, ◌<◌, ◌≤◌, ◌*◌, length, get_or, ap, sym, ◌∙◌, arith, rules, nat_abs, pos, w64, to_z, of_z}
use Rattle.std.specs.Prelude.{FitsSigned}
use Rattle.std.proofs.lemmas.Int.{to_z-of_z}
use Rattle.leaf_check.specs.Runs.{begin_of_run}
use Rattle.leaf_check.proofs.RunNumbers.{numbers_length, begin_number, begin_small, begin_none}
use Rattle.leaf_check.proofs.runs.run_begin.Goals as goal

pub overflow_cast-result : goal.overflow_cast-result
overflow_cast-result c =
    let n = c.args.n in
    let runs = c.requires.runs in
    let below : n < length runs = (let t = c.if-n-len.true in let e = c.len.ensures in let l = ap length c.requires.numbers in let d = numbers_length runs in omega arith) in
    let fits : FitsSigned w64 c.get.result = search rules in
    let is : to_z w64 (of_z w64 c.get.result) ≡ pos (begin_of_run c.args.past runs n) =
    to_z-of_z w64 c.get.result fits ∙ c.get.ensures ∙ ap (λ zs. get_or zs (2 * n) (pos 0)) c.requires.numbers ∙ begin_number c.args.past runs n below in
    let small = begin_small c.args.past runs n c.requires.minutes below in
    rw is (tt, search rules)

pub returns-then-n-len : goal.returns-then-n-len
returns-then-n-len c = λ runs e.
    let n = c.args.n in
    let below : n < length runs = (let t = c.if-n-len.true in let f = c.len.ensures in let l = ap length e in let d = numbers_length runs in omega arith) in
    let fits : FitsSigned w64 c.get.result = search rules in
    let is : to_z w64 (of_z w64 c.get.result) ≡ pos (begin_of_run c.args.past runs n) =
    to_z-of_z w64 c.get.result fits ∙ c.get.ensures ∙ ap (λ zs. get_or zs (2 * n) (pos 0)) e ∙ begin_number c.args.past runs n below in
    ap nat_abs is

pub returns-else-n-len : goal.returns-else-n-len
returns-else-n-len c = λ runs e.
    let over : length runs ≤ c.args.n = (let t = c.if-n-len.false in let f = c.len.ensures in let l = ap length e in let d = numbers_length runs in omega arith) in
    sym (begin_none c.args.past runs c.args.n over)
