use Rattle.std.proofs.Common.{◌≡◌, ◌+◌, length, refl, ap, ◌∙◌, sym, subst, arith, w64}
use Rattle.std.specs.Prelude.{FitsSigned}
use Rattle.std.specs.List.{All}
use Rattle.std.proofs.lemmas.Int.{to_z-of_z}
use Rattle.std.proofs.lemmas.Option.{slice_get_read, slice_get_within}
use Rattle.crew_terms.specs.Instance.{minutes_between}
use Rattle.crew_terms.specs.declared.Task.{Task}
use Rattle.potentials.specs.Ahead.{AllowsFall}
use Rattle.potentials.specs.Quick.{away_for}
use Rattle.potentials.specs.declared.ahead.Ahead.{Ahead}
use Rattle.potentials.proofs.Each.{each_more}
use Rattle.potentials.proofs.quick.allows_places.Goals as goal

pub loop-p-preserved : goal.loop-p-preserved
loop-p-preserved c =
    let fits : FitsSigned w64 c.args.reward = c.ranges.reward in
    let i = c.args.instance.now in
    let ahead = c.args.ahead.now in
    let falls = c.args.falls.now in
    let place = c.index-ahead-p.result in
    let p = c.loop-p.p in
    let from = c.task-task.result.now in
    let read = slice_get_read ahead (length ahead) p place refl (let t = c.loop-p-test.true in let m = c.places-p-end.ensures.count in let n = c.places.ensures.count in let e = c.if-ahead-places.false in omega arith) c.index-ahead-p.is in
    let list = c.deref.ensures.value ∙ ap (λ (a : Ahead). a.list.items) (sym c.index-ahead-p.is) in
    let away : from.minutes + c.travel.result ≡ away_for i c.args.j p =
    ap (λ m. from.minutes + m) c.travel.ensures.minutes ∙ ap (λ (t : Task). t.minutes + minutes_between i t.place p) c.task-task.ensures.task in
    let allowed = simp to_z-of_z at (c.allows.ensures c.if-not-allows.false) in
    let here = subst (λ m. All (AllowsFall place.list.items c.args.j c.args.reward m) falls) away (subst (λ l. All (AllowsFall l c.args.j c.args.reward (from.minutes + c.travel.result)) falls) list allowed) in
    let below = simp to_z-of_z at c.loop-p.invariant in
    simp to_z-of_z (each_more ahead (λ q (a : Ahead). All (AllowsFall a.list.items c.args.j c.args.reward (away_for i c.args.j q)) falls) p place read here below)

pub returns : goal.returns
returns c =
    let fits : FitsSigned w64 c.args.reward = c.ranges.reward in
    let below = simp to_z-of_z at c.loop-p.invariant in
    λ t p place read.
    let inside = slice_get_within c.args.ahead.now p place read in
    let end = c.loop-p-test.false in
    let m = c.places-p-end.ensures.count in
    let n = c.places.ensures.count in
    let e = c.if-ahead-places.false in
    below p place (omega arith) read
