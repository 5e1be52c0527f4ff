use Rattle.std.proofs.Common.{◌≡◌, ◌<◌, ◌≤◌, false, length, take, sym, arith, subst}
use Rattle.column_arena.specs.Uses.{held_at, is_last, is_at}
use Rattle.column_arena.proofs.Tables.{no_visit, in_table, noted_more, noted_end, room_to_put}
use Rattle.column_arena.proofs.uses.note.Goals as goal

pub put_at-requires-clause-within : goal.put_at-requires-clause-within
put_at-requires-clause-within c =
    let room = subst (λ p. 0 < (held_at c.args.table.now.items p).spare) (sym c.place.ensures.place) (c.requires.room c.loop-visit.visit-index no_visit c.loop-visit-test.true) in
    let known = in_table c.args.table.now.items c.place.result room in
    let long = c.loop-visit.invariant.long in omega arith

pub put_at-requires-clause-room : goal.put_at-requires-clause-room
put_at-requires-clause-room c =
    let p = c.place.result in
    let room = subst (λ p. 0 < (held_at c.args.table.now.items p).spare) (sym c.place.ensures.place) (c.requires.room c.loop-visit.visit-index no_visit c.loop-visit-test.true) in
    rw (c.loop-visit.invariant.noted p) (room_to_put (held_at c.args.table.now.items p) c.args.id (is_at c.args.team (take c.loop-visit.visit-index c.args.visits.now) p) room)

pub loop-visit-preserved : goal.loop-visit-preserved
loop-visit-preserved c =
    let room = subst (λ p. 0 < (held_at c.args.table.now.items p).spare) (sym c.place.ensures.place) (c.requires.room c.loop-visit.visit-index no_visit c.loop-visit-test.true) in
    let known = in_table c.args.table.now.items c.place.result room in
    let long = c.loop-visit.invariant.long in
    let within : c.place.result < length c.loop-visit.table.items = omega arith in
    let fresh = subst (λ p. is_last (held_at c.args.table.now.items p).ids c.args.id ≡ false) (sym c.place.ensures.place) (c.requires.fresh c.loop-visit.visit-index no_visit c.loop-visit-test.true) in
    rw c.put_at.ensures
    (noted_more c.args.table.now.items c.loop-visit.table.items c.args.team c.args.visits.now c.args.id c.loop-visit.visit-index c.place.result
    c.loop-visit-test.true within c.place.ensures.place fresh c.loop-visit.invariant)

pub returns : goal.returns
returns c =
    let past : length c.args.visits.now ≤ c.loop-visit.visit-index = omega arith in
    noted_end _ _ c.args.team c.args.visits.now c.args.id c.loop-visit.visit-index past c.loop-visit.invariant
