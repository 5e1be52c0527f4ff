use Rattle.std.proofs.Common.{◌≡◌, sym, subst, arith, rules, length, ◌∙◌, ap, w64}
use Rattle.std.specs.Prelude.{FitsSigned}
use Rattle.std.specs.Vec.{with_items}
use Rattle.std.proofs.lemmas.Int.{to_z-of_z}
use Rattle.std.proofs.lemmas.List.{with_items_is}
use Rattle.label_pricing.specs.Cells.{AreCells, IsGrid}
use Rattle.label_pricing.proofs.Best.{worth_from_first}
use Rattle.label_pricing.specs.Turns.{AreTurns}
use Rattle.label_pricing.proofs.workspace.Workspace.price.Goals as goal

pub sweep-requires-clause-end : goal.sweep-requires-clause-end
sweep-requires-clause-end g c =
    c.end_of-self.ensures.end c.args.limits.now.limits c.args.k (subst (AreTurns c.args.limits.now.limits c.args.k) (sym c.deref.ensures.value) c.find_turns.ensures.turns)

pub sweep-requires-clause-day : goal.sweep-requires-clause-day
sweep-requires-clause-day g c =
    c.end_of-self.ensures.day c.args.limits.now.limits c.args.k (subst (AreTurns c.args.limits.now.limits c.args.k) (sym c.deref.ensures.value) c.find_turns.ensures.turns)

pub first-label-requires-clause-minute : goal.first-label-requires-clause-minute
first-label-requires-clause-minute g c =
    let a = c.end_of-self.ensures.day c.args.limits.now.limits c.args.k (subst (AreTurns c.args.limits.now.limits c.args.k) (sym c.deref.ensures.value) c.find_turns.ensures.turns) in
    let b = c.start_of-self.ensures.end in
    omega arith

pub follow-requires-clause-start : goal.follow-requires-clause-start
follow-requires-clause-start g c =
    c.start_of-self.ensures.start c.args.limits.now.limits c.args.k (subst (AreTurns c.args.limits.now.limits c.args.k) (sym c.deref-2.ensures.value) c.find_turns.ensures.turns)

pub follow-requires-clause-end : goal.follow-requires-clause-end
follow-requires-clause-end g c =
    c.end_of-self.ensures.end c.args.limits.now.limits c.args.k (subst (AreTurns c.args.limits.now.limits c.args.k) (sym c.deref.ensures.value) c.find_turns.ensures.turns)

pub follow-requires-clause-day : goal.follow-requires-clause-day
follow-requires-clause-day g c =
    c.end_of-self.ensures.day c.args.limits.now.limits c.args.k (subst (AreTurns c.args.limits.now.limits c.args.k) (sym c.deref.ensures.value) c.find_turns.ensures.turns)

pub follow-requires-clause-label : goal.follow-requires-clause-label
follow-requires-clause-label g c =
    let n = c.args.limits.now.limits in
    let k = c.args.k in
    let earns = g.R.Rewards.earned c.args.limits.now.limits c.args.prices.now c.args.k in
    let same : c.deref-4.result.now ≡ c.sweep.new.grid = c.deref-4.ensures.value ∙ with_items_is c.args.self.now.cells c.sweep.new.grid (let a = c.sweep.auto.grid in let b = c.deref_mut.ensures.len in omega arith) in
    let starts = c.start_of-self.ensures.start n k (subst (AreTurns n k) (sym c.deref-2.ensures.value) c.find_turns.ensures.turns) in
    let places = sym (c.places-places.ensures.count ∙ ap (λ i. length i.places) c.instance.ensures.instance) in
    (c.first-label.ensures n k earns c.end_of-self.result c.instance.ensures.is_instance places starts c.start_of-self.ensures.end
    (subst (AreCells n k earns c.start_of-self.result c.end_of-self.result) (sym same) c.sweep.ensures.cells)).label

pub returns-clause-worth : goal.returns-clause-worth
returns-clause-worth g c =
    let n = c.args.limits.now.limits in
    let k = c.args.k in
    let earns = g.R.Rewards.earned c.args.limits.now.limits c.args.prices.now c.args.k in
    let same : c.deref-4.result.now ≡ c.sweep.new.grid = c.deref-4.ensures.value ∙ with_items_is c.args.self.now.cells c.sweep.new.grid (let a = c.sweep.auto.grid in let b = c.deref_mut.ensures.len in omega arith) in
    let starts = c.start_of-self.ensures.start n k (subst (AreTurns n k) (sym c.deref-2.ensures.value) c.find_turns.ensures.turns) in
    let places = sym (c.places-places.ensures.count ∙ ap (λ i. length i.places) c.instance.ensures.instance) in
    let fits : FitsSigned w64 c.first-label.result.value = search rules in
    rw (to_z-of_z w64 c.first-label.result.value fits) (worth_from_first n k earns c.first-label.result
    (c.first-label.ensures n k earns c.end_of-self.result c.instance.ensures.is_instance places starts c.start_of-self.ensures.end
    (subst (AreCells n k earns c.start_of-self.result c.end_of-self.result) (sym same) c.sweep.ensures.cells)))

pub returns-clause-priced : goal.returns-clause-priced
returns-clause-priced g c =
    let n = c.args.limits.now.limits in
    let k = c.args.k in
    let earns = g.R.Rewards.earned c.args.limits.now.limits c.args.prices.now c.args.k in
    let same : (with_items c.args.self.now.cells c.sweep.new.grid).items ≡ c.sweep.new.grid = with_items_is c.args.self.now.cells c.sweep.new.grid (let a = c.sweep.auto.grid in let b = c.deref_mut.ensures.len in omega arith) in
    record {
      turns = c.find_turns.ensures.turns;
      start = c.start_of-self.ensures.start n k (subst (AreTurns n k) (sym c.deref-2.ensures.value) c.find_turns.ensures.turns);
      end = c.end_of-self.ensures.end n k (subst (AreTurns n k) (sym c.deref.ensures.value) c.find_turns.ensures.turns);
      order = c.start_of-self.ensures.end;
      day = c.end_of-self.ensures.day n k (subst (AreTurns n k) (sym c.deref.ensures.value) c.find_turns.ensures.turns);
      grid = subst (IsGrid (length n.instance.places)) (sym same) c.sweep.ensures.grid;
      cells = subst (AreCells n k earns c.start_of-self.result c.end_of-self.result) (sym same) c.sweep.ensures.cells;
    }
