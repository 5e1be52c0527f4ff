use Rattle.std.proofs.Common.{◌≡◌, ◌<◌, ℤ, [], ◌∷◌, length, arith, ◌∙◌, length-append, FitsSigned, rules, to_z, of_z, w64}
use Rattle.std.proofs.lemmas.Int.{to_z-of_z}
use Rattle.std.specs.Prelude.{pos}
use Rattle.std.proofs.lemmas.List.{get_or_default}
use Rattle.crew_terms.specs.Limits.{tasks_in}
use Rattle.leaf_check.specs.Reader.{HasPotentials, HasReadLeaf}
use Rattle.leaf_check.specs.declared.reader.LeafReader.{LeafReader}
use Rattle.leaf_check.proofs.Told.{read_table, team_low, team_worth, team_holds, with_table}
use Rattle.leaf_check.proofs.reader.LeafReader.judge_team.Goals as goal

pub returns-in-Holds-clause-tells : goal.returns-in-Holds-clause-tells
returns-in-Holds-clause-tells c = λ a leaf left table g upto potentials.
    let read = upto.read in
    let count = upto.count in
    let n = c.args.limits.now.limits in
    let r : LeafReader = record c.args.self.now { room = c.local.new.room } in
    let kept : HasReadLeaf n r leaf = record { prices = read.prices; worths = read.worths } in
    let same : HasPotentials n r c.args.team table (tasks_in n) = record { worth = potentials.worth; phi = potentials.phi } in
    let team = c.args.team in
    let all = c.requires.ready.worths in
    let known = c.requires.team in
    let short : team < length r.worths.items = omega arith in
    let fits : FitsSigned w64 c.index-worth.result.now = search rules in
    let worth : ℤ = to_z w64 (of_z w64 c.index-worth.result.now) in
    let is : worth ≡ table.worth = to_z-of_z w64 c.index-worth.result.now fits ∙ c.index-worth.ensures ∙ get_or_default r.worths.items team c.index-worth.result.now (pos 0) short ∙ potentials.worth in
    let teams = upto.teams in
    let longer = length-append leaf.tables (table ∷ []) in
    team_holds a n r leaf team left table worth g.limits count kept same is c.after_table.result c.after_table.new.self c.in-Holds.ensures.verdict
    (c.after_table.ensures.tells a (with_table leaf table) left g
    (record { read = read_table n r leaf table team count short potentials.worth kept; count = omega arith; teams = omega arith }))

pub returns-in-Low-clause-tells : goal.returns-in-Low-clause-tells
returns-in-Low-clause-tells c = λ a leaf left table g upto potentials.
    let read = upto.read in
    let count = upto.count in
    let n = c.args.limits.now.limits in
    let r : LeafReader = record c.args.self.now { room = c.local.new.room } in
    let kept : HasReadLeaf n r leaf = record { prices = read.prices; worths = read.worths } in
    let same : HasPotentials n r c.args.team table (tasks_in n) = record { worth = potentials.worth; phi = potentials.phi } in
    let all = c.requires.ready.worths in
    let known = c.requires.team in
    let short : c.args.team < length r.worths.items = omega arith in
    let fits : FitsSigned w64 c.index-worth.result.now = search rules in
    let worth : ℤ = to_z w64 (of_z w64 c.index-worth.result.now) in
    let is : worth ≡ table.worth = to_z-of_z w64 c.index-worth.result.now fits ∙ c.index-worth.ensures ∙ get_or_default r.worths.items c.args.team c.index-worth.result.now (pos 0) short ∙ potentials.worth in
    team_low a n r leaf c.args.team left table worth g.limits count kept same is c.in-Low.task c.in-Low.ensures.verdict

pub returns-in-Worth-clause-tells : goal.returns-in-Worth-clause-tells
returns-in-Worth-clause-tells c = λ a leaf left table g upto potentials.
    let read = upto.read in
    let count = upto.count in
    let n = c.args.limits.now.limits in
    let r : LeafReader = record c.args.self.now { room = c.local.new.room } in
    let kept : HasReadLeaf n r leaf = record { prices = read.prices; worths = read.worths } in
    let same : HasPotentials n r c.args.team table (tasks_in n) = record { worth = potentials.worth; phi = potentials.phi } in
    let all = c.requires.ready.worths in
    let known = c.requires.team in
    let short : c.args.team < length r.worths.items = omega arith in
    let fits : FitsSigned w64 c.index-worth.result.now = search rules in
    let worth : ℤ = to_z w64 (of_z w64 c.index-worth.result.now) in
    let is : worth ≡ table.worth = to_z-of_z w64 c.index-worth.result.now fits ∙ c.index-worth.ensures ∙ get_or_default r.worths.items c.args.team c.index-worth.result.now (pos 0) short ∙ potentials.worth in
    team_worth a n r leaf c.args.team left table worth g.limits count kept same is c.in-Worth.ensures.verdict
