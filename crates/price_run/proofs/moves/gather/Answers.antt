use Rattle.std.proofs.Common.{true, false, ◌≡◌, ◌≤◌, length, ◌+◌, ◌∙◌, List, cond, eqb, count_by, get_or, vec_items, ap, sym, arith}
use Rattle.std.proofs.lemmas.Bool.{eq-eqb, ne_eqb}
use Rattle.std.proofs.lemmas.List.{take_all}
use Rattle.squeeze_terms.specs.Run.{visits_priced}
use Rattle.crew_terms.specs.Instance.{task_of}
use Rattle.crew_terms.specs.declared.Task.{Task}
use Rattle.crew_terms.specs.declared.Visit.{Visit}
use Rattle.squeeze_terms.specs.MinutePrices.{price_place}
use Rattle.price_run.proofs.Counted.{count_more, joined, visit_no, visit_yes}
use Rattle.price_run.proofs.moves.gather.Goals.{then-visit-j+in_ok-push, else-visit-j}
use Rattle.price_run.proofs.moves.gather.Goals as goal

pub loop-visit-preserved : goal.loop-visit-preserved
loop-visit-preserved c x =
    let i = c.args.instance.now in
    let j = c.args.j in
    let vs = c.args.visits.now in
    let index = c.loop-visit.visit-index in
    let d : Visit = record { task = 0; start = 0 } in
    let inside = c.loop-visit-test.true in
    let is = c.loop-visit.invariant x in
    elim c.if-visit-j.branch [
      | then-visit-j+in_ok-push w ↦
          let same : eqb (get_or vs index d).task j ≡ true = eq-eqb (get_or vs index d).task j w.if-visit-j.true in
          let place : w.price_place.result ≡ price_place (task_of i j) (get_or vs index d).start =
          w.price_place.ensures ∙ ap (λ (t : Task). price_place t (get_or vs index d).start) c.task-task.ensures.task in
          let items = ap vec_items w.places-is ∙ w.in_ok-push.ensures.items in
          let counted = ap (count_by (λ p. eqb p x)) items ∙ count_more x w.price_place.result c.loop-visit.places.items in
          let one = ap (λ p. cond (eqb p x) 1 0) place in
          let more = visit_yes i j x vs index d inside same in
          joined _ _ _ _ _ _ _ counted is one more
      | else-visit-j w ↦
          let other : eqb (get_or vs index d).task j ≡ false = ne_eqb (get_or vs index d).task j w.if-visit-j.false in
          let kept = ap (count_by (λ p. eqb p x)) (ap vec_items w.places-is) in
          let more = visit_no i j x vs index d inside other in
          kept ∙ is ∙ ap (λ m. count_by (λ p. eqb p x) c.args.places.now.items + m) (sym more)
    ]

pub returns : goal.returns
returns c x =
    let past : length c.args.visits.now ≤ c.loop-visit.visit-index = let a = c.loop-visit-test.false in omega arith in
    c.loop-visit.invariant x ∙ ap (λ (vs : List Visit). count_by (λ p. eqb p x) c.args.places.now.items + visits_priced c.args.instance.now c.args.j x vs) (take_all c.loop-visit.visit-index c.args.visits.now past)
