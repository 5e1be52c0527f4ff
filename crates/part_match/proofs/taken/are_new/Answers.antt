use Rattle.std.proofs.Common.{◌≡◌, ◌<◌, true, false, length, refl, arith}
use Rattle.part_match.proofs.NewTasks.{all_differ, differ_more, new_at}
use Rattle.part_match.proofs.taken.are_new.Goals as goal

pub returns-then-not-is_new : goal.returns-then-not-is_new
returns-then-not-is_new c = (
  (λ t. absurd (let e : false ≡ true = t in cc)),
  (λ all.
      let k = c.loop-k.k in
      let tasks = c.args.tasks.now in
      let l : k < length tasks = let a = c.loop-k-test.true in omega arith in
      let new = new_at c.args.taken.now tasks k l all in
      let yes : c.is_new.result ≡ true = c.is_new.ensures.1 new in
      let no : c.is_new.result ≡ false = c.if-not-is_new.true in
      cc),
)

pub loop-k-preserved : goal.loop-k-preserved
loop-k-preserved c =
    let k = c.loop-k.k in
    let tasks = c.args.tasks.now in
    let l : k < length tasks = let a = c.loop-k-test.true in omega arith in
    differ_more c.args.taken.now tasks k l c.loop-k.invariant (c.is_new.ensures.0 c.if-not-is_new.false)

pub returns : goal.returns
returns c = (
  (λ _. all_differ c.args.taken.now c.args.tasks.now c.loop-k.k (let a = c.loop-k-test.false in omega arith) c.loop-k.invariant),
  (λ _. refl),
)
