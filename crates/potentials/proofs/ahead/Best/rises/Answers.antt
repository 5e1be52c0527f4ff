use Rattle.std.proofs.Common.{◌≤ℤ◌, arith, w64, rules}
use Rattle.std.specs.Prelude.{FitsSigned}
use Rattle.std.proofs.lemmas.Int.{ints, to_z-of_z}
use Rattle.potentials.proofs.Decided.{le_decides}
use Rattle.potentials.proofs.Rising.{rises_with_task, rises_past_task}
use Rattle.potentials.proofs.ahead.Best.rises.Goals as goal

pub returns-then-later-self-2 : goal.returns-then-later-self-2
returns-then-later-self-2 c =
    let a : FitsSigned w64 c.args.self.potential = search rules in
    let b : FitsSigned w64 c.args.self.second = search rules in
    let d : FitsSigned w64 c.args.later.potential = search rules in
    let e : FitsSigned w64 c.args.later.second = search rules in
    let order : c.args.later.second ≤ℤ c.args.later.potential = let t = simp to_z-of_z at c.if-later.false in grind (arith, ints) in
    let best : c.args.later.potential ≤ℤ c.args.self.potential = let t = simp to_z-of_z at c.if-self-later.false in grind (arith, ints) in
    let second : c.args.later.second ≤ℤ c.args.self.second = let t = simp to_z-of_z at c.if-self-later-2.false in grind (arith, ints) in
    λ t. rises_with_task c.args.later c.args.self c.if-later-self.false order best second c.if-later-self-2.true

pub returns-else-later-self-2 : goal.returns-else-later-self-2
returns-else-later-self-2 c =
    let a : FitsSigned w64 c.args.self.potential = search rules in
    let b : FitsSigned w64 c.args.self.second = search rules in
    let d : FitsSigned w64 c.args.later.potential = search rules in
    let e : FitsSigned w64 c.args.later.second = search rules in
    let order : c.args.later.second ≤ℤ c.args.later.potential = let t = simp to_z-of_z at c.if-later.false in grind (arith, ints) in
    let best : c.args.later.potential ≤ℤ c.args.self.potential = let t = simp to_z-of_z at c.if-self-later.false in grind (arith, ints) in
    let second : c.args.later.second ≤ℤ c.args.self.second = let t = simp to_z-of_z at c.if-self-later-2.false in grind (arith, ints) in
    simp to_z-of_z (λ t. rises_past_task c.args.later c.args.self c.if-later-self.false order best second ((le_decides c.args.later.potential c.args.self.second).0 t))
