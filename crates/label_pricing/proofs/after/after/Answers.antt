use Rattle.std.proofs.Common.{◌≡◌, ◌<◌, ◌≤◌, ◌+◌, ℕ, length, ap, sym, subst, ◌∙◌, arith}
use Rattle.std.proofs.lemmas.Int.{ints}
use Rattle.crew_terms.specs.Instance.{minutes_between}
use Rattle.crew_terms.specs.Rules.{IsInstance}
use Rattle.crew_terms.specs.Limits.{tasks_in}
use Rattle.label_pricing.specs.Cells.{cell_of, IsCell, IsOther, place_of}
use Rattle.label_pricing.proofs.Onward.{IsAfterBelow, ready_at, better, not_better, too_late, after_all}
use Rattle.label_pricing.proofs.after.after.Goals.{then-ready-end+then-label-best, then-ready-end+else-label-best, else-ready-end}
use Rattle.label_pricing.proofs.after.after.Goals as goal

pub loop-q-preserved : goal.loop-q-preserved
loop-q-preserved c n k p same turn ends cells =
    let j = c.args.j in
    let t = c.args.t in
    let q = c.loop-q.q in
    let count : c.places-places.result ≡ length n.instance.places = c.places-places.ensures.count ∙ ap (λ i. length i.places) (sym same) in
    let before = c.loop-q.invariant n k p same turn ends cells in
    let a : c.travel.result ≡ minutes_between n.instance (place_of n j) q =
    c.travel.ensures.minutes ∙ ap (λ i. minutes_between i c.args.turn.place q) (sym same) ∙ ap (λ a. minutes_between n.instance a q) turn.place in
    let b = turn.minutes in
    let ready : ℕ = t + c.args.turn.minutes + c.travel.result in
    let is : ready ≡ ready_at n j t q = omega arith in
    let inside : q < length n.instance.places = let l = c.loop-q-test.true in omega arith in
    let late : t + 1 ≤ ready = let s = c.requires.some_minutes in omega arith in
    elim c.if-ready-end.branch [
      | then-ready-end+then-label-best w ↦
          let cell = subst (IsCell n k p q ready (tasks_in n)) (sym (w.cell.ensures ∙ ap (λ P. cell_of P c.args.grid.now q ready) count)) (cells q ready inside late (let l = w.if-ready-end.true in omega arith)) in
          let of = subst (λ r. IsOther n k p q r j w.without-label.result) is (w.without-label.ensures n k p q ready cell) in
          subst (IsAfterBelow n k p j t (q + 1)) (sym w.best-is) (better n k p j t q c.loop-q.best before w.without-label.result of (let l = w.if-label-best.true in omega (arith, ints)))
      | then-ready-end+else-label-best w ↦
          let cell = subst (IsCell n k p q ready (tasks_in n)) (sym (w.cell.ensures ∙ ap (λ P. cell_of P c.args.grid.now q ready) count)) (cells q ready inside late (let l = w.if-ready-end.true in omega arith)) in
          let of = subst (λ r. IsOther n k p q r j w.without-label.result) is (w.without-label.ensures n k p q ready cell) in
          subst (IsAfterBelow n k p j t (q + 1)) (sym w.best-is) (not_better n k p j t q c.loop-q.best before w.without-label.result of (let l = w.if-label-best.false in omega (arith, ints)))
      | else-ready-end w ↦
          subst (IsAfterBelow n k p j t (q + 1)) (sym w.best-is) (too_late n k p j t q c.loop-q.best before c.args.end ends (let l = w.if-ready-end.false in omega arith))
    ]

pub returns : goal.returns
returns c n k p same turn ends cells =
    let t = c.loop-q-test.false in
    let m = c.places-places.ensures.count in
    let e = ap (λ i. length i.places) same in
    after_all n k p c.args.j c.args.t c.loop-q.q c.loop-q.best (subst IsInstance (sym same) c.places-places.ensures.limits) (omega arith) (c.loop-q.invariant n k p same turn ends cells)
