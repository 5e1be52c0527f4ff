use Rattle.std.proofs.Common.{◌++◌, ◌∙◌, ap, sym, arith}
use Rattle.std.specs.Prelude.{flat_map}
use Rattle.std.specs.List.{range_with_len}
use Rattle.search_terms.specs.declared.Place.TheVariants.{Shortage, Excess}
use Rattle.frac_master.specs.Places.{both_of_task}
use Rattle.frac_master.proofs.Ranges.{flat_more, grown_twice, longer_by_one}
use Rattle.frac_master.proofs.places.push_tasks.Goals as goal

pub loop-j-preserved : goal.loop-j-preserved
loop-j-preserved c =
    let j = c.loop-j.j in
    let old = c.args.places.now.items in
    let front = c.loop-j.places.items in
    let mid = c.push.new.self.items in
    let new = c.push-in-loop-j.new.self.items in
    let e = c.in_ok-push.ensures.items in
    let f = c.in_ok-push-2.ensures.items in
    let l = longer_by_one front mid (Shortage j) e in
    let m = longer_by_one mid new (Excess j) f in
    let few = c.loop-j.invariant.few in
    record {
      places = grown_twice old front mid new (Shortage j) (Excess j) (flat_map both_of_task (range_with_len 0 j)) c.loop-j.invariant.places e f
          ∙ ap (λ l. old ++ l) (sym (flat_more both_of_task j));
      few = omega arith;
    }
