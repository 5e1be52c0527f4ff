use Rattle.std.proofs.Common.{map, take}
use Rattle.route_terms.specs.Kept.{AreKeptIn}
use Rattle.route_terms.specs.Named.{route_named}
use Rattle.column_arena.proofs.carry.Carry.place.Given as goal

-- the routes that are kept so far
abbrev pub invariant-loop-id : goal.invariant-loop-id
invariant-loop-id g l =
    AreKeptIn l.limits.limits (take l.id (map (route_named l.self-inside.teams.items l.self-inside.tasks.items) l.self-inside.routes.items)) (g.C.Columns.columns l.columns)
