use Rattle.std.proofs.Common.{◌≡◌, suc, length, ap, sym, subst, ◌∙◌, arith, add-one}
use Rattle.crew_terms.specs.Limits.{tasks_in}
use Rattle.cert_format.specs.Lines.{IsFaultOf}
use Rattle.cert_format.specs.Expected.{potentials_expect}
use Rattle.cert_format.specs.declared.kinds.Expect.TheVariants as expected
use Rattle.dossier_terms.specs.Dossier.{Potentials, IsSigned}
use Rattle.crew_terms.specs.Minutes.{minute_count}
use Rattle.dossier_terms.specs.Reading.{limits_of, Phis}
use Rattle.dossier_terms.specs.Ranges.{AreNumbers}
use Rattle.dossier_terms.specs.declared.DossierForm.TheVariants.{One}
use Rattle.dossier_terms.specs.LeafTable.{after_phi}
use Rattle.leaf_check.specs.Keys.{AreCounted, IsNextKey, has_minutes}
use Rattle.leaf_check.specs.Reader.{HasReadLeaf, HasPotentials, LeafTells, below_next, row_in}
use Rattle.leaf_check.specs.declared.reader.LeafReader.{LeafReader}
use Rattle.leaf_check.proofs.Listed.{left_after}
use Rattle.leaf_check.proofs.Lines.{phi_read, with_row}
use Rattle.leaf_check.proofs.Minutes.{one_more}
use Rattle.leaf_check.proofs.Told.{tells_fault, tells_rest}
use Rattle.leaf_check.proofs.reader.LeafReader.phi_line.Goals as goal

pub returns-in_err-values-clause-tells : goal.returns-in_err-values-clause-tells
returns-in_err-values-clause-tells c = λ a leaf left table js g upto potentials row.
    let task = c.args.task in
    let up : c.counted_minutes-first.result.1 ≡ minute_count (limits_of a) (length leaf.tables) task =
    c.counted_minutes-first.ensures.minutes.counted ∙ ap (λ m. minute_count m c.args.team task) (sym g.limits) ∙ ap (λ k. minute_count (limits_of a) k task) (sym upto.count) in
    let form : One ≡ a.begun.form = sym c.requires.form ∙ g.form in
    tells_fault a (Phis a leaf left table task js) c.args.words c.in_err-values.field-0.0 c.from_residual.result c.args.self.now c.fault_is_refused.ensures c.from_residual.ensures.1
    (subst (λ f. IsFaultOf (potentials_expect f task (minute_count (limits_of a) (length leaf.tables) task)) c.args.words c.in_err-values.field-0.0) form
    (subst (λ m. IsFaultOf (expected.Phi task m) c.args.words c.in_err-values.field-0.0) up c.in_err-values.ensures))

pub set_potentials-requires-clause-minutes : goal.set_potentials-requires-clause-minutes
set_potentials-requires-clause-minutes c =
    let h = c.in_ok-values.ensures in
    let size = h.1.count in
    let day = c.counted_minutes-first.ensures.day in
    omega arith

pub returns-clause-tells : goal.returns-clause-tells
returns-clause-tells c = λ a leaf left table js g upto potentials row.
    let n = c.args.limits.now.limits in
    let task = c.args.task in
    let team = c.args.team in
    let vs = c.in_ok-values.values in
    let old = c.args.self.now.table in
    let new = c.set_potentials.new.table in
    let h = c.in_ok-values.ensures in
    let up : c.counted_minutes-first.result.1 ≡ minute_count (limits_of a) (length leaf.tables) task =
    c.counted_minutes-first.ensures.minutes.counted ∙ ap (λ m. minute_count m team task) (sym g.limits) ∙ ap (λ k. minute_count (limits_of a) k task) (sym upto.count) in
    let fits : AreNumbers IsSigned (minute_count (limits_of a) (length leaf.tables) task) vs = subst (λ m. AreNumbers IsSigned m vs) up h.1 in
    let r : LeafReader = record c.args.self.now { table = new } in
    let set = c.set_potentials.ensures in
    let counts : AreCounted n team task c.counted_minutes-first.result.0 (length vs) = subst (AreCounted n team task c.counted_minutes-first.result.0) (sym h.1.count) c.counted_minutes-first.ensures.minutes in
    let next : IsNextKey (has_minutes n team) (tasks_in n) (suc task) c.next_open.result = subst (λ m. IsNextKey (has_minutes n team) (tasks_in n) m c.next_open.result) (add-one task) c.next_open.ensures in
    let more : Potentials = with_row table vs in
    let kept : HasReadLeaf n r leaf = record { prices = upto.read.prices; worths = upto.read.worths } in
    let holds : HasPotentials n r team more (below_next n c.next_open.result) = record {
      worth = potentials.worth;
      phi = λ i t l v. one_more c.minutes_are_permitted.ensures n team table task js vs old new c.counted_minutes-first.result.0 row potentials.phi counts set.given set.others c.next_open.result next i t l v;
    } in
    let form : One ≡ a.begun.form = sym c.requires.form ∙ g.form in
    subst (λ f. LeafTells a (row_in f a leaf left table task js c.args.words) c.after_phi.result c.after_phi.new.self) form
    (tells_rest a (after_phi a leaf left more js)
    (row_in One a leaf left table task js c.args.words) c.after_phi.result c.after_phi.new.self
    (λ said others. phi_read a leaf left table task js c.args.words vs said fits h.2 others)
    (c.after_phi.ensures.tells a leaf left more js g (record { read = kept; count = upto.count; teams = upto.teams }) holds (left_after (has_minutes n team) (tasks_in n) table.phi task js row vs c.next_open.result next)))
