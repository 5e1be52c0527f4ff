use Rattle.std.proofs.Common.{◌+◌, ℕ, List, Vec, Global, ap, subst, sym, ◌∙◌, arith}
use Rattle.std.proofs.lemmas.List.{length-map, map_push}
use Rattle.crew_instance.specs.Draft.{rows_of}
use Rattle.bundle_write.proofs.Rows.{known_at, rising_at, row_at, within}
use Rattle.bundle_write.proofs.Texts.{HasTexts, all_texts, no_texts, texts_more}
use Rattle.bundle_write.proofs.parts.part_texts.Goals as goal

pub loop-tasks-init : goal.loop-tasks-init
loop-tasks-init c =
    subst (λ (xs : List (Vec ℕ Global)). HasTexts c.args.instance.now c.args.nodes (rows_of c.args.lists.now) 0 (rows_of xs)) (sym c.in_ok-texts.ensures.items)
    (no_texts c.args.instance.now c.args.nodes (rows_of c.args.lists.now))

pub planned_part-requires-clause-known : goal.planned_part-requires-clause-known
planned_part-requires-clause-known c =
    let k = c.loop-tasks.tasks-index in
    let row = row_at c.args.lists.now k c.tasks-item.result c.deref.result.now c.loop-tasks-test.true c.tasks-item.is c.deref.ensures.value in
    known_at c.args.instance.now (rows_of c.args.lists.now) k c.deref.result.now (within c.args.lists.now k c.loop-tasks-test.true) row c.requires.lists

pub planned_part-requires-clause-rising : goal.planned_part-requires-clause-rising
planned_part-requires-clause-rising c =
    let k = c.loop-tasks.tasks-index in
    let row = row_at c.args.lists.now k c.tasks-item.result c.deref.result.now c.loop-tasks-test.true c.tasks-item.is c.deref.ensures.value in
    rising_at c.args.instance.now (rows_of c.args.lists.now) k c.deref.result.now (within c.args.lists.now k c.loop-tasks-test.true) row c.requires.lists

pub loop-tasks-preserved : goal.loop-tasks-preserved
loop-tasks-preserved c =
    let k = c.loop-tasks.tasks-index in
    let row = row_at c.args.lists.now k c.tasks-item.result c.deref.result.now c.loop-tasks-test.true c.tasks-item.is c.deref.ensures.value in
    let p = c.in_ok-planned.ensures in
    let more = texts_more c.args.instance.now c.args.nodes (rows_of c.args.lists.now) k (rows_of c.loop-tasks.texts.items) c.deref.result.now c.in_ok-planned.planned.text.items p.0 c.loop-tasks.invariant
    (within c.args.lists.now k c.loop-tasks-test.true) row p.1 p.2.text in
    subst (HasTexts c.args.instance.now c.args.nodes (rows_of c.args.lists.now) (k + 1)) (sym (ap rows_of c.in_ok-push.ensures.items ∙ map_push (λ (v : Vec ℕ Global). v.items) c.loop-tasks.texts.items c.in_ok-planned.planned.text)) more

pub returns : goal.returns
returns c =
    all_texts c.args.instance.now c.args.nodes (rows_of c.args.lists.now) c.loop-tasks.tasks-index (rows_of c.loop-tasks.texts.items)
    (let n = length-map c.args.lists.now (λ (r : Vec ℕ Global). r.items) in let l = c.loop-tasks-test.false in omega (arith, n, l)) c.loop-tasks.invariant
