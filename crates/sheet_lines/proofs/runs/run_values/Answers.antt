use Rattle.std.proofs.Common.{◌≡◌, ◌<◌, ◌≤◌, ◌+◌, ◌-◌, ◌++◌, suc, ℤ, length, drop, replicate, ap, sym, refl, ◌∙◌, arith, add-one, append-nil, append_assoc, rules, to_z, of_z, w64}
use Rattle.std.specs.Prelude.{FitsSigned}
use Rattle.std.proofs.lemmas.Int.{to_z-of_z}
use Rattle.dossier_terms.specs.Runs.{values_of}
use Rattle.leaf_check.specs.Runs.{begin_of_run, number_of_run}
use Rattle.sheet_lines.proofs.RunSteps.{numbers_length, run_step, run_past}
use Rattle.sheet_lines.proofs.runs.run_values.Goals as goal

pub loop-n-preserved : goal.loop-n-preserved
loop-n-preserved c = λ runs e.
    let past = c.args.past in
    let n = c.loop-n.n in
    let row = c.loop-n.row.items in
    let below : n < length runs = (let t = c.loop-n-test.true in let l = ap length e in let d = numbers_length runs in omega arith) in
    let from = c.run_begin-from.ensures runs e in
    let next = c.run_begin-next.ensures runs e ∙ ap (begin_of_run past runs) (add-one n) in
    let fits : FitsSigned w64 c.run_number.result = search rules in
    let v = to_z w64 (of_z w64 c.run_number.result) in
    let number : v ≡ number_of_run runs n = to_z-of_z w64 c.run_number.result fits ∙ c.run_number.ensures runs e in
    let times = c.saturating_sub.result in
    let span : times ≡ begin_of_run past runs (suc n) - begin_of_run past runs n = (let s = c.saturating_sub.ensures in omega arith) in
    let rest = values_of past (drop (suc n) runs) in
    ap (λ items. items ++ values_of past (drop (n + 1) runs)) c.in_ok-push_times.ensures
    ∙ append_assoc row (replicate times v) (values_of past (drop (n + 1) runs))
    ∙ ap (λ w. row ++ w)
    (ap (λ m. replicate times v ++ values_of past (drop m runs)) (add-one n)
    ∙ ap (λ a. replicate a v ++ rest) span
    ∙ ap (λ z. replicate (begin_of_run past runs (suc n) - begin_of_run past runs n) z ++ rest) number
    ∙ sym (run_step past runs n below))
    ∙ c.loop-n.invariant runs e

pub returns : goal.returns
returns c = λ runs e.
    let past = c.args.past in
    let n = c.loop-n.n in
    let row = c.loop-n.row.items in
    let all : length runs ≤ n = (let t = c.loop-n-test.false in let l = ap length e in let d = numbers_length runs in omega arith) in
    sym (ap (λ vs. row ++ vs) (run_past past runs n all) ∙ append-nil row) ∙ c.loop-n.invariant runs e
