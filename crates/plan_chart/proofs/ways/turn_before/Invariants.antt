use Rattle.std.proofs.Common.{◌≡◌, ◌<◌, length}
use Rattle.std.specs.Prelude.{IfSome}
use Rattle.crew_instance.specs.declared.turns.Turn.{Turn}
use Rattle.plan_chart.specs.Ways.{last_turn}
use Rattle.plan_chart.proofs.ways.turn_before.Given as goal

abbrev pub invariant-loop-h : goal.invariant-loop-h
invariant-loop-h l = record {
  so_far : l.turn ≡ last_turn l.plan l.k l.t l.h;
  known : IfSome l.turn (λ (turn : Turn). turn.task < length l.plan);
}
