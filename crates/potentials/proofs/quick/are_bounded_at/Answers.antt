use Rattle.std.proofs.Common.{◌≡◌, length, refl, ap, ◌∙◌, sym, subst}
use Rattle.std.specs.Prelude.{slice_get, Some}
use Rattle.std.specs.List.{All}
use Rattle.std.proofs.lemmas.Option.{slice_get_read}
use Rattle.crew_terms.specs.declared.Task.{Task}
use Rattle.potentials.specs.Ahead.{IsBounded}
use Rattle.potentials.specs.declared.ahead.Ahead.{Ahead}
use Rattle.potentials.proofs.quick.are_bounded_at.Goals as goal

pub returns-then-place-ahead : goal.returns-then-place-ahead
returns-then-place-ahead c = λ t.
    let ahead = c.args.ahead.now in
    let place = c.index-ahead-place.result in
    let h = c.args.h in
    let read = slice_get_read ahead (length ahead) c.task.result.now.place place refl c.if-place-ahead.true c.index-ahead-place.is in
    let list = c.deref.ensures.value ∙ ap (λ (a : Ahead). a.list.items) (sym c.index-ahead-place.is) in
    let here = subst (λ l. All (IsBounded l h) c.list.result.now) list (c.are_bounded.ensures t) in
    (place, subst (λ (x : Task). slice_get ahead x.place ≡ Some place) c.task.ensures.task read, subst (All (IsBounded place.list.items h)) c.list.ensures here)
