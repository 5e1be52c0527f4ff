use Rattle.std.proofs.Common.{◌≡◌, ◌<◌, ◌≤◌, ◌+◌, ◌-◌, ◌*◌, suc, pos, length, get_or, ap, sym, refl, ◌∙◌, arith, rules, add-one, inl, inr, w64}
use Rattle.std.specs.Prelude.{FitsSigned}
use Rattle.std.proofs.lemmas.Int.{to_z-of_z}
use Rattle.std.proofs.lemmas.Bool.{cases_lt}
use Rattle.dossier_terms.specs.Runs.{values_of}
use Rattle.leaf_check.specs.Runs.{begin_of_run}
use Rattle.leaf_check.proofs.RunNumbers.{numbers_length, value_number, begin_none, first_begins, run_rises, run_ends, run_begins, run_value}
use Rattle.leaf_check.proofs.Tabled.{covers}
use Rattle.leaf_check.proofs.runs.set_runs.Goals as goal

pub loop-n-init : goal.loop-n-init
loop-n-init c = record {
  set = λ runs first e are some t from until. absurd (let b = first_begins first c.args.past runs are in omega arith);
  others = λ h t differ. refl;
  table = λ i h. h;
}

pub overflow_sub-next : goal.overflow_sub-next
overflow_sub-next c =
    let room = c.requires.room in
    let n = c.loop-n.n in
    let below : n < length room.runs = (let t = c.loop-n-test.true in let l = ap length room.numbers in let d = numbers_length room.runs in omega arith) in
    let next : c.run_begin-next.result ≡ begin_of_run c.args.past room.runs (suc n) = c.run_begin-next.ensures room.runs room.numbers ∙ ap (begin_of_run c.args.past room.runs) (add-one n) in
    let rise = run_rises room.first c.args.past room.runs room.are room.some n below in
    omega arith

pub fill-requires : goal.fill-requires
fill-requires c =
    let room = c.requires.room in
    let n = c.loop-n.n in
    let past = c.args.past in
    let below : n < length room.runs = (let t = c.loop-n-test.true in let l = ap length room.numbers in let d = numbers_length room.runs in omega arith) in
    let from = c.run_begin-from.ensures room.runs room.numbers in
    let next : c.run_begin-next.result ≡ begin_of_run past room.runs (suc n) = c.run_begin-next.ensures room.runs room.numbers ∙ ap (begin_of_run past room.runs) (add-one n) in
    let rise = run_rises room.first past room.runs room.are room.some n below in
    let least = run_begins room.first past room.runs room.are room.some n in
    let most = run_ends room.first past room.runs room.are room.some (suc n) in
    let some = room.some in
    let r = room.room in
    let table = c.loop-n.invariant.table r.instance r.table in
    let tasks = table.tasks in
    let known = r.known in
    record {
      task = omega arith;
      order = omega arith;
      first = covers r.instance c.loop-n.table c.args.j room.first (past - room.first) c.run_begin-from.result table known r.early r.late (omega arith) (omega arith);
      last = covers r.instance c.loop-n.table c.args.j room.first (past - room.first) (c.run_begin-next.result - 1) table known r.early r.late (omega arith) (omega arith);
    }

pub loop-n-preserved : goal.loop-n-preserved
loop-n-preserved c =
    let n = c.loop-n.n in
    let past = c.args.past in
    let so = c.loop-n.invariant in
    let fill = c.fill.ensures in
    let fits : FitsSigned w64 c.get.result = search rules in record {
      set = λ runs first e are some t least until.
          let below : n < length runs = (let s = c.loop-n-test.true in let l = ap length e in let d = numbers_length runs in omega arith) in
          let from = c.run_begin-from.ensures runs e in
          let next : c.run_begin-next.result ≡ begin_of_run past runs (suc n) = c.run_begin-next.ensures runs e ∙ ap (begin_of_run past runs) (add-one n) in
          let end : begin_of_run past runs (n + 1) ≡ begin_of_run past runs (suc n) = ap (begin_of_run past runs) (add-one n) in
          elim (cases_lt t (begin_of_run past runs n)) [
            | inl l ↦ fill.others c.args.j t (λ same f. absurd (omega arith)) ∙ so.set runs first e are some t least l
            | inr l ↦ fill.values t (omega arith) (omega arith) ∙ to_z-of_z w64 c.get.result fits ∙ c.get.ensures ∙ ap (λ zs. get_or zs (2 * n + 1) (pos 0)) e
                ∙ value_number runs n below ∙ sym (run_value first past runs are some n t below l (omega arith))
          ];
      others = λ h t differ. fill.others h t (λ same. absurd (differ same)) ∙ so.others h t differ;
      table = λ i h. fill.table i (so.table i h);
    }

pub returns-clause-given : goal.returns-clause-given
returns-clause-given c = λ runs first e are some m within.
    let past = c.args.past in
    let n = c.loop-n.n in
    let all : length runs ≤ n = (let s = c.loop-n-test.false in let l = ap length e in let d = numbers_length runs in omega arith) in
    let end = begin_none past runs n all in
    let back : first + m - first ≡ m = omega arith in
    c.loop-n.invariant.set runs first e are some (first + m) (omega arith) (omega arith) ∙ ap (λ i. get_or (values_of past runs) i (pos 0)) back
