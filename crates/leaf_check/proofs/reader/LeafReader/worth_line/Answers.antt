use Rattle.std.proofs.Common.{◌≡◌, ◌<◌, ℤ, [], length, ap, sym, subst, ◌∙◌, arith, FitsSigned, rules, to_z, of_z, w64, get_or-set_same}
use Rattle.std.specs.Prelude.{pos}
use Rattle.std.specs.Vec.{with_item}
use Rattle.std.proofs.lemmas.Int.{to_z-of_z}
use Rattle.crew_terms.specs.Limits.{tasks_in}
use Rattle.dossier_terms.specs.Dossier.{Potentials}
use Rattle.crew_terms.specs.Minutes.{open_tasks}
use Rattle.dossier_terms.specs.Reading.{limits_of, Worths}
use Rattle.dossier_terms.specs.LeafTable.{after_phi, worth_row}
use Rattle.leaf_check.specs.Keys.{has_minutes}
use Rattle.leaf_check.specs.Reader.{HasReadLeaf, HasPotentials, LeafTells, below_next}
use Rattle.leaf_check.specs.declared.reader.LeafReader.{LeafReader}
use Rattle.leaf_check.proofs.Listed.{left_first}
use Rattle.leaf_check.proofs.Lines.{worth_read}
use Rattle.leaf_check.proofs.Minutes.{none_yet}
use Rattle.leaf_check.proofs.Read.{more_worths}
use Rattle.leaf_check.proofs.Told.{tells_fault, tells_rest}
use Rattle.leaf_check.proofs.reader.LeafReader.worth_line.Goals as goal

pub returns-in_err-worth-clause-tells : goal.returns-in_err-worth-clause-tells
returns-in_err-worth-clause-tells c = λ a leaf left g upto.
    tells_fault a (Worths a leaf left) c.args.words c.in_err-worth.field-0.0 c.from_residual.result c.args.self.now c.fault_is_refused.ensures c.from_residual.ensures.1
    c.in_err-worth.ensures

pub returns-clause-tells : goal.returns-clause-tells
returns-clause-tells c = λ a leaf left g upto.
    let read = upto.read in
    let count = upto.count in
    let n = c.args.limits.now.limits in
    let team = c.args.team in
    let worth = c.in_ok-worth.worth in
    let old = c.args.self.now.worths in
    let h = c.in_ok-worth.ensures in
    let fits : FitsSigned w64 worth = search rules in
    let v : ℤ = to_z w64 (of_z w64 worth) in
    let is : v ≡ worth = to_z-of_z w64 worth fits in
    let all = c.requires.ready.worths in
    let known = c.requires.team in
    let short : team < length old.items = omega arith in
    let r : LeafReader = record c.args.self.now { worths = with_item old team v } in
    let table : Potentials = record { worth = worth; phi = [] } in
    let kept : HasReadLeaf n r leaf = record { prices = read.prices; worths = more_worths leaf old.items team v count read.worths } in
    let holds : HasPotentials n r team table (below_next n c.next_open.result) = record {
      worth = get_or-set_same old.items team v (pos 0) short ∙ is;
      phi = none_yet c.minutes_are_permitted.ensures n team c.next_open.result c.args.self.now.table table c.next_open.ensures;
    } in
    tells_rest a (after_phi a leaf left table (open_tasks (limits_of a) (length leaf.tables)))
    (worth_row a leaf left c.args.words) c.after_phi.result c.after_phi.new.self
    (λ said others. worth_read a leaf left c.args.words worth said h.0 h.1 others)
    (subst (λ ks. LeafTells a (after_phi a leaf left table ks) c.after_phi.result c.after_phi.new.self)
    (ap (λ m. open_tasks m team) (sym g.limits) ∙ ap (λ k. open_tasks (limits_of a) k) (sym count))
    (c.after_phi.ensures.tells a leaf left table (open_tasks n team) g (record { read = kept; count = count; teams = upto.teams }) holds (left_first (has_minutes n team) (tasks_in n) c.next_open.result c.next_open.ensures)))
