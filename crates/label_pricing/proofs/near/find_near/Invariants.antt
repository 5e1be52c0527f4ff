use Rattle.std.proofs.Common.{◌≤◌, ◌<◌, ℕ, length, vec_capacity}
use Rattle.label_pricing.specs.Near.{IsBetween, IsIdle, near_at}
use Rattle.label_pricing.specs.Turns.{turn_of}
use Rattle.label_pricing.proofs.near.find_near.Given as goal

abbrev pub invariant-loop-j : goal.invariant-loop-j
invariant-loop-j l = record {
  count : length l.near.items ≤ l.j;
  room : 400 ≤ vec_capacity l.near;
  known : (i : ℕ) → i < length l.near.items → near_at l.near.items i < l.j;
  rising : (h i : ℕ) → h < i → i < length l.near.items → near_at l.near.items h < near_at l.near.items i;
  all : (i h t : ℕ) → i ≤ length l.near.items → h < l.j → IsBetween l.near.items i h → l.from ≤ t → t ≤ l.to → IsIdle (turn_of l.turns h) t;
}
