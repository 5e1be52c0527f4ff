use Rattle.std.proofs.Common.{◌≡◌, ◌∙◌, ◌++◌, ◌∷◌, [], ℕ, ℤ, List, pos, eqb, cond, count_by, get_or, w64, ap, sym, rules, arith}
use Rattle.std.specs.Option.{option_map_or}
use Rattle.std.specs.Prelude.{FitsSigned}
use Rattle.std.proofs.lemmas.Int.{to_z-of_z}
use Rattle.std.proofs.lemmas.List.FromFn.{map-range_with_len_more}
use Rattle.crew_terms.specs.Instance.{task_of}
use Rattle.crew_terms.specs.declared.Task.{Task}
use Rattle.squeeze_terms.specs.MinutePrices.{price_place}
use Rattle.squeeze_terms.specs.Run.{demand_at, next_price, visits_at}
use Rattle.price_run.proofs.Counted.{same_moved}
use Rattle.price_run.proofs.moves.next_row.Goals as goal

pub loop-x-preserved : goal.loop-x-preserved
loop-x-preserved c =
    let i = c.args.instance.now in
    let p = c.args.prices.now in
    let j = c.args.j in
    let x = c.loop-x.x in
    let f = next_price i c.args.s p c.args.routes.now j in
    let fits : FitsSigned w64 c.moved.result = search rules in
    let old_fits : FitsSigned w64 (get_or c.row-old.result.now x (pos 0)) = search rules in
    let old = to_z-of_z w64 (get_or c.row-old.result.now x (pos 0)) old_fits ∙ ap (λ (r : List ℤ). get_or r x (pos 0)) c.row-old.ensures in
    let wanted : c.wanted_at-wanted.result ≡ demand_at i p j x =
    c.wanted_at-wanted.ensures ∙ ap (λ (k : Task). option_map_or (λ (t : ℕ). cond (eqb (price_place k t) x) k.teams 0) c.args.demand 0) c.task-task.ensures.task
    ∙ ap (λ d. option_map_or (λ (t : ℕ). cond (eqb (price_place (task_of i j) t) x) (task_of i j).teams 0) d 0) c.requires.demand in
    let visits : c.count_of-visits.result ≡ visits_at i c.args.routes.now j x =
    c.count_of-visits.ensures ∙ ap (count_by (λ q. eqb q x)) c.deref.ensures.value ∙ c.in_ok-places.ensures x in
    let is : c.moved.result ≡ f x = c.moved.ensures ∙ same_moved _ _ _ _ _ _ _ _ old c.stride-stride.ensures.stride wanted visits in
    c.in_ok-push.ensures.items
    ∙ ap (λ (v : ℤ). c.loop-x.row.items ++ v ∷ []) (to_z-of_z w64 c.moved.result fits ∙ is)
    ∙ ap (λ (r : List ℤ). r ++ f x ∷ []) c.loop-x.invariant
    ∙ sym (map-range_with_len_more f 0 x x (omega arith))
