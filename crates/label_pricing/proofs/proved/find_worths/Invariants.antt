use Rattle.std.proofs.Common.{◌≡◌, ◌≤◌, ◌<◌, ℕ, length, vec_capacity}
use Rattle.crew_terms.specs.Leaf.{IsWorth, worth_of, earned}
use Rattle.crew_terms.specs.declared.TheConstants.{MOST_TEAMS}
use Rattle.label_pricing.specs.Work.{HasWorkRoom}
use Rattle.label_pricing.proofs.proved.find_worths.Given as goal

abbrev pub invariant-loop-k : goal.invariant-loop-k
invariant-loop-k l = record {
  each : (h : ℕ) → h < l.k → IsWorth l.limits.limits h (earned l.prices h) (worth_of l.worths.items h);
  count : length l.worths.items ≡ l.k;
  work : HasWorkRoom (length l.limits.limits.instance.places) l.work;
  room : MOST_TEAMS ≤ vec_capacity l.worths;
}
