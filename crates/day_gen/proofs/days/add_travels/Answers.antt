use Rattle.std.proofs.Common.{◌≡◌, ◌≤◌, ◌++◌, [], drop, length, ap, ◌∙◌, sym, append-nil, arith}
use Rattle.std.proofs.lemmas.List.{drop_all}
use Rattle.day_gen.specs.Day.{ways, travel_entries}
use Rattle.day_gen.proofs.Runs.{one_more, way_more, ways_are, draw_more}
use Rattle.day_gen.proofs.days.add_travels.Goals as goal

pub loop-a-preserved : goal.loop-a-preserved
unfolding ways
loop-a-preserved c =
    let below = c.loop-a-test.true in
    let next = c.draw.ensures.one in
    record {
      entries =
          rw (c.in_ok-push.ensures.items, c.place_name.ensures, c.place_name-in-loop-a.ensures, c.draw.ensures.value, next)
          (one_more _ _ _ _ _ c.loop-a.invariant.entries (way_more c.loop-a.a-index c.loop-a.generator (0, 0) below));
      draws = rw next (c.loop-a.invariant.draws ∙ draw_more c.loop-a.a-index c.loop-a.generator below);
    }

pub returns-clause-entries : goal.returns-clause-entries
returns-clause-entries c =
    let past : length ways ≤ c.loop-a.a-index = (let t = c.loop-a-test.false in omega (arith, ways_are)) in
    let none : drop c.loop-a.a-index ways ≡ [] = drop_all c.loop-a.a-index ways past in
    sym (c.loop-a.invariant.entries ∙ ap (λ left. c.loop-a.entries.items ++ travel_entries c.loop-a.generator left) none ∙ append-nil c.loop-a.entries.items)
