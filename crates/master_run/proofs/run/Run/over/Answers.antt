use Rattle.std.proofs.Common.{◌<◌, ◌++◌, ◌∷◌, ◌+◌, [], All, map, get_or, drop, sym, ap, subst, refl, ◌∙◌}
use Rattle.std.specs.Prelude.{Contains}
use Rattle.std.proofs.lemmas.List.{take_more}
use Rattle.std.proofs.lemmas.List.Elements.{Contains-get_or}
use Rattle.std.proofs.lemmas.Result.{err_from_is_err_and}
use Rattle.search_terms.specs.Earned.{AreLegalOf}
use Rattle.search_terms.specs.declared.Place.TheVariants.{Unused}
use Rattle.column_arena.specs.Columns.{AreNumbersWith, column_of}
use Rattle.column_arena.specs.Legal.{IsLegalColumn}
use Rattle.master_run.specs.State.{routes_of}
use Rattle.master_run.specs.Along.{Halts}
use Rattle.master_run.proofs.Over.{below_next, halts_within, parted}
use Rattle.master_run.proofs.run.Run.over.Goals as goal

pub loop-id-init : goal.loop-id-init
loop-id-init g c = record {
  ids = c.in_ok-run.ensures.ids;
  optimum = c.in_ok-run.ensures.optimum (g.C.Columns.columns c.args.columns.now);
  pivots = c.in_ok-run.ensures.pivots;
}

pub take-requires-clause-known : goal.take-requires-clause-known
take-requires-clause-known g c =
    let cs = g.C.Columns.columns c.args.columns.now in
    let ids = c.deref-id-items.result.now in
    let has = AreNumbersWith (IsLegalColumn c.args.limits.now.limits cs) in
    let numbers : has ids = subst has (sym c.deref-id-items.ensures.value) c.in_ok-legal_in.ensures.numbers in
    ((numbers.each (get_or ids c.loop-id.id-index 0)).0 (Contains-get_or ids c.loop-id.id-index 0 c.loop-id-test.true)).known

pub take-requires-clause-rising : goal.take-requires-clause-rising
take-requires-clause-rising g c =
    let cs = g.C.Columns.columns c.args.columns.now in
    let ids = c.deref-id-items.result.now in
    let has = AreNumbersWith (IsLegalColumn c.args.limits.now.limits cs) in
    let numbers : has ids = subst has (sym c.deref-id-items.ensures.value) c.in_ok-legal_in.ensures.numbers in
    let i = c.loop-id.id-index in
    subst (All (λ other. other < get_or ids i 0)) (sym (c.loop-id.invariant.optimum.along.entered ∙ c.loop-id.invariant.ids))
    (below_next ids i (get_or ids i 0) numbers.rising c.loop-id-test.true refl)

pub take-requires-clause-team : goal.take-requires-clause-team
take-requires-clause-team g c =
    let n = c.args.limits.now.limits in
    let cs = g.C.Columns.columns c.args.columns.now in
    let ids = c.deref-id-items.result.now in
    let has = AreNumbersWith (IsLegalColumn n cs) in
    let numbers : has ids = subst has (sym c.deref-id-items.ensures.value) c.in_ok-legal_in.ensures.numbers in
    let id = get_or ids c.loop-id.id-index 0 in
    let legal = (numbers.each id).0 (Contains-get_or ids c.loop-id.id-index 0 c.loop-id-test.true) in
    subst (λ ps. Contains ps (Unused (column_of cs id).team)) (sym c.loop-id.invariant.optimum.along.follows.places)
    ((c.places_are.ensures.teams n (column_of cs id).team).1 legal.route.team)

pub returns-in_err-take-clause-halts : goal.returns-in_err-take-clause-halts
returns-in_err-take-clause-halts g c =
    let n = c.args.limits.now.limits in
    let cs = g.C.Columns.columns c.args.columns.now in
    let ids = c.deref-id-items.result.now in
    let i = c.loop-id.id-index in
    let legal : AreLegalOf n cs (routes_of cs ids) =
    subst (λ l. AreLegalOf n cs (map (column_of cs) l)) (sym c.deref-id-items.ensures.value) c.in_ok-legal_in.ensures.routes in
    let here = c.loop-id.run.ids ++ get_or ids i 0 ∷ [] in
    let e = c.in_err-take.field-0.0 in
    let halts = halts_within n c.loop-id.run.pivots cs ids here (drop (i + 1) ids) e (c.in_err-take.ensures.halts n c.loop-id.invariant.optimum)
    (parted ids c.loop-id.run.ids i c.loop-id.invariant.ids c.loop-id-test.true) legal in
    let p = err_from_is_err_and c.from_residual-in_err-take.result c.from_residual-in_err-take.ensures.1 in
    rw (p.1, p.2) (subst (λ pivots. Halts n pivots cs e) c.loop-id.invariant.pivots halts)

pub loop-id-preserved : goal.loop-id-preserved
loop-id-preserved g c =
    let ids = c.deref-id-items.result.now in
    let i = c.loop-id.id-index in
    record {
      ids = c.in_ok-take.ensures.ids ∙ ap (λ l. l ++ get_or ids i 0 ∷ []) c.loop-id.invariant.ids ∙ sym (take_more ids i 0 c.loop-id-test.true);
      optimum = c.in_ok-take.ensures.optimum c.args.limits.now.limits c.loop-id.invariant.optimum;
      pivots = c.take.ensures.pivots ∙ c.loop-id.invariant.pivots;
    }
