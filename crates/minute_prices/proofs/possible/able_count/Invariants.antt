use Rattle.std.proofs.Common.{◌≡◌, ◌≤◌, count_by}
use Rattle.std.specs.List.{range_with_len}
use Rattle.squeeze_terms.specs.Possible.{may_begin}
use Rattle.minute_prices.proofs.possible.able_count.Given as goal

abbrev pub invariant-loop-k : goal.invariant-loop-k
invariant-loop-k l = record {
  few : l.count ≤ l.k;
  count : l.count ≡ count_by (λ k. may_begin l.limits.limits k l.j l.t) (range_with_len 0 l.k);
}
