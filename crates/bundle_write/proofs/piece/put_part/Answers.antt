use Rattle.std.proofs.Common.{◌≤◌, ◌<◌, ℕ, [], Vec, Global, length, arith}
use Rattle.std.proofs.lemmas.List.{length-map}
use Rattle.crew_instance.specs.Draft.{rows_of}
use Rattle.crew_io.specs.Appends.{appended_none}
use Rattle.bundle_write.proofs.Made.{no_part, the_part}
use Rattle.bundle_write.proofs.Rows.{known_at, rising_at, row_at, within}
use Rattle.bundle_write.proofs.piece.put_part.Goals as goal

pub returns-then-number-len-clause-put : goal.returns-then-number-len-clause-put
returns-then-number-len-clause-put g c = λ d day.
    let lists = c.in_ok-lists.lists.items in
    let few : length (rows_of lists) ≤ c.args.number = (let e = c.len.ensures in let f = length-map lists (λ (r : Vec ℕ Global). r.items) in let t = c.if-number-len.true in omega (arith, e, f, t)) in
    ([], no_part d c.args.nodes c.args.number c.args.day.now.instance.now (rows_of lists) day.instance c.in_ok-lists.ensures few, appended_none (g.K.Sink.got c.args.sink.now))

pub planned_part-requires-clause-known : goal.planned_part-requires-clause-known
planned_part-requires-clause-known g c =
    let lists = c.in_ok-lists.lists.items in
    let l : c.args.number < length lists = (let e = c.len.ensures in let t = c.if-number-len.false in omega (arith, e, t)) in
    known_at c.args.day.now.instance.now (rows_of lists) c.args.number c.deref.result.now (within lists c.args.number l)
    (row_at lists c.args.number c.index.result.now c.deref.result.now l c.index.ensures c.deref.ensures.value) c.in_ok-lists.ensures.lists_of

pub planned_part-requires-clause-rising : goal.planned_part-requires-clause-rising
planned_part-requires-clause-rising g c =
    let lists = c.in_ok-lists.lists.items in
    let l : c.args.number < length lists = (let e = c.len.ensures in let t = c.if-number-len.false in omega (arith, e, t)) in
    rising_at c.args.day.now.instance.now (rows_of lists) c.args.number c.deref.result.now (within lists c.args.number l)
    (row_at lists c.args.number c.index.result.now c.deref.result.now l c.index.ensures c.deref.ensures.value) c.in_ok-lists.ensures.lists_of

pub returns-in-Ok-clause-put : goal.returns-in-Ok-clause-put
returns-in-Ok-clause-put g c = λ d day.
    let lists = c.in_ok-lists.lists.items in
    let l : c.args.number < length lists = (let e = c.len.ensures in let t = c.if-number-len.false in omega (arith, e, t)) in
    let row = row_at lists c.args.number c.index.result.now c.deref.result.now l c.index.ensures c.deref.ensures.value in (
      c.deref-2.result.now,
      the_part d c.args.nodes c.args.number c.args.day.now.instance.now (rows_of lists) day.instance c.in_ok-lists.ensures c.deref.result.now c.in_ok-part.part c.deref-2.result.now (within lists c.args.number l) row
          c.deref-2.ensures.value c.in_ok-part.ensures,
      c.in-Ok.ensures.puts.all,
    )

pub returns-clause-put : goal.returns-clause-put
returns-clause-put g c = λ d day.
    let lists = c.in_ok-lists.lists.items in
    let l : c.args.number < length lists = (let e = c.len.ensures in let t = c.if-number-len.false in omega (arith, e, t)) in
    let row = row_at lists c.args.number c.index.result.now c.deref.result.now l c.index.ensures c.deref.ensures.value in (
      record { proved = c.in_ok-part.part.proved; text = c.deref-2.result.now },
      the_part d c.args.nodes c.args.number c.args.day.now.instance.now (rows_of lists) day.instance c.in_ok-lists.ensures c.deref.result.now c.in_ok-part.part c.deref-2.result.now (within lists c.args.number l) row
          c.deref-2.ensures.value c.in_ok-part.ensures,
      c.in-Err.ensures.puts.part,
    )
