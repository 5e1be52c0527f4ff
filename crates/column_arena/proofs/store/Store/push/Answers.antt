use Rattle.std.proofs.Common.{◌≡◌, ◌<◌, ◌∷◌, ◌++◌, [], length, get_or, sym, ap, subst, ◌∙◌}
use Rattle.indexmap.specs.IndexSet.{insert_key}
use Rattle.crew_terms.specs.declared.TheConstants.{MOST_TASKS}
use Rattle.route_terms.specs.Keys.{same_route}
use Rattle.route_terms.specs.Routes.{IsNew}
use Rattle.column_arena.specs.Uses.{IsNoted, place}
use Rattle.column_arena.proofs.Finding.{inserted}
use Rattle.column_arena.proofs.Keeping.{kept_same, kept_more, next_is_last}
use Rattle.column_arena.proofs.store.Store.push.Goals as goal

pub invariant_of-self-in_err-reserve-2 : goal.invariant_of-self-in_err-reserve-2
invariant_of-self-in_err-reserve-2 c =
    rw c.in_ok-reserve.ensures.keys (kept_same _ _ _ c.in_err-reserve-2.ensures.same c.self.invariant)

pub note-requires-clause-fresh : goal.note-requires-clause-fresh
note-requires-clause-fresh c k d below =
    let cs = c.self.inside.routes.keys in
    let id : c.len-id.result ≡ length cs = c.len-id.ensures.len ∙ ap length c.in_ok-reserve.ensures.keys in
    let v = get_or c.visits-2.result.now k d in
    let b : k < length c.args.route.visits = subst (λ vs. k < length vs) c.visits-2.ensures below in
    let small : v.task < MOST_TASKS = subst (λ vs. (get_or vs k d).task < MOST_TASKS) (sym c.visits-2.ensures) (c.requires.fits.tasks k d b) in
    rw (c.in_ok-reserve-2.ensures.same (place c.team-2.result v.task), id, c.team-2.ensures)
    (next_is_last cs c.self.inside.uses.items c.args.route.team v.task c.self.invariant c.requires.fits.team small)

pub invariant_of-self-2 : goal.invariant_of-self-2
invariant_of-self-2 c =
    let cs = c.self.inside.routes.keys in
    let r = c.args.route in
    let id : c.len-id.result ≡ length cs = c.len-id.ensures.len ∙ ap length c.in_ok-reserve.ensures.keys in
    let fresh : IsNew cs r = subst (λ cs. IsNew cs r) (sym c.self.view_is) c.requires.fresh in
    let pushed : c.insert.new.self.keys ≡ cs ++ r ∷ [] = (rw c.unwrap.ensures at c.insert.ensures.keys) ∙ ap (λ cs. insert_key same_route cs r) c.in_ok-reserve.ensures.keys ∙ inserted cs r fresh in
    let noted : IsNoted c.reserve-2.new.table.items r.team r.visits (length cs) c.note.new.table.items =
    rw (← c.team-2.ensures, ← c.visits-2.ensures, ← id) c.note.ensures in
    rw pushed (kept_more cs r c.reserve-2.new.table.items c.note.new.table.items c.requires.fits fresh noted
    (kept_same cs _ _ c.in_ok-reserve-2.ensures.same c.self.invariant))

pub returns-clause-last : goal.returns-clause-last
returns-clause-last c =
    let cs = c.self.inside.routes.keys in
    let r = c.args.route in
    let fresh : IsNew cs r = subst (λ cs. IsNew cs r) (sym c.self.view_is) c.requires.fresh in
    (rw c.unwrap.ensures at c.insert.ensures.keys) ∙ ap (λ cs. insert_key same_route cs r) c.in_ok-reserve.ensures.keys ∙ inserted cs r fresh ∙ ap (λ cs. cs ++ r ∷ []) c.self.view_is
