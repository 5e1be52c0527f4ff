use Rattle.std.proofs.Common.{◌≡◌, ◌<◌, ◌-◌, ◌+◌, ◌∙◌, ℕ, ℤ, length, ap, arith, rules, w64, to_z}
use Rattle.std.specs.Prelude.{FitsSigned, int_lt}
use Rattle.std.specs.Int.{int_max}
use Rattle.std.proofs.lemmas.Int.{to_z-of_z}
use Rattle.std.proofs.lemmas.List.{length-set}
use Rattle.minute_rules.specs.Ahead.{IsMostFrom, potential_from}
use Rattle.minute_rules.proofs.Most.{max_is, most_more, above_more}
use Rattle.minute_rules.proofs.ahead.find.Goals as goal

pub loop-minute-preserved : goal.loop-minute-preserved
loop-minute-preserved c =
    let first = c.args.first in
    let potentials = c.args.potentials.now in
    let minute = c.loop-minute.minute in
    let from : ℕ = minute - 1 in
    let here : ℤ = to_z w64 c.loop-minute.here-bits in
    let inv = c.loop-minute.invariant in
    let test = c.loop-minute-test.true in
    let fits : FitsSigned w64 c.max-here.result = search rules in
    let own : FitsSigned w64 c.potential_at.result = search rules in
    let same = to_z-of_z w64 c.max-here.result fits in
    let one : minute ≡ from + 1 = omega arith in
    let p : c.potential_at.result ≡ potential_from first potentials from = c.potential_at.ensures in
    let is : c.max-here.result ≡ int_max here (potential_from first potentials from) = simp to_z-of_z at c.max-here.ensures ∙ max_is (int_lt c.potential_at.result here) (int_lt here c.potential_at.result) here c.potential_at.result ∙ ap (int_max here) p in
    let now : IsMostFrom first potentials from c.max-here.result = most_more first potentials minute from here c.max-here.result one inv.here is in
    let count = inv.count in
    let few = c.loop-minute.auto.minute in
    let inside : from < length c.loop-minute.most = omega arith in
    record {
      count = length-set c.loop-minute.most from _ ∙ count;
      here = rw same now;
      above = rw same (above_more first potentials minute from c.max-here.result c.loop-minute.most one inside inv.above now);
    }
