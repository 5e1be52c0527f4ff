use Rattle.std.proofs.Common.{◌≡◌, ◌<◌, ◌+◌, ◌-◌, ℕ, suc, length, get_or, ap, sym, subst, refl, ◌∙◌, arith, add-one, ℤ, List, pos}
use Rattle.crew_terms.specs.Limits.{tasks_in}
use Rattle.cert_format.specs.Lines.{IsFaultOf}
use Rattle.cert_format.specs.Expected.{potentials_expect}
use Rattle.dossier_terms.specs.Dossier.{Potentials}
use Rattle.crew_terms.specs.Minutes.{first_minute, minute_count}
use Rattle.dossier_terms.specs.Reading.{No as Refuses, limits_of, Phis}
use Rattle.dossier_terms.specs.Runs.{AreRuns, values_of}
use Rattle.dossier_terms.specs.declared.DossierForm.TheVariants.{Two}
use Rattle.dossier_terms.specs.declared.Reason.TheVariants.{Steps}
use Rattle.dossier_terms.specs.LeafTable.{after_phi}
use Rattle.dossier_terms.specs.RunLengths.{values_length}
use Rattle.potentials.specs.Table.{phi}
use Rattle.leaf_check.specs.Keys.{AreCounted, IsNextKey, has_minutes}
use Rattle.leaf_check.specs.Reader.{HasReadLeaf, HasPotentials, LeafTells, TellsNo, below_next, row_in}
use Rattle.leaf_check.specs.declared.reader.LeafReader.{LeafReader}
use Rattle.leaf_check.proofs.Listed.{left_after}
use Rattle.leaf_check.proofs.Lines.{steps_read, steps_broken, with_row}
use Rattle.leaf_check.proofs.Minutes.{one_more}
use Rattle.leaf_check.proofs.Told.{tells_fault, tells_rest}
use Rattle.leaf_check.proofs.reader.LeafReader.steps_line.Goals as goal

pub returns-in_err-pairs-clause-tells : goal.returns-in_err-pairs-clause-tells
returns-in_err-pairs-clause-tells c = λ a leaf left table js g upto potentials row.
    let task = c.args.task in
    let form : Two ≡ a.begun.form = sym c.requires.form ∙ g.form in
    tells_fault a (Phis a leaf left table task js) c.args.words c.in_err-pairs.field-0.0 c.from_residual.result c.args.self.now c.fault_is_refused.ensures c.from_residual.ensures.1
    (subst (λ f. IsFaultOf (potentials_expect f task (minute_count (limits_of a) (length leaf.tables) task)) c.args.words c.in_err-pairs.field-0.0) form c.in_err-pairs.ensures)

pub are_runs-requires : goal.are_runs-requires
are_runs-requires c =
    let h = c.in_ok-pairs.ensures in
    record { runs = h.0; some = h.3.some; numbers = h.1; minutes = h.3.minutes }

pub returns-then-not-are_runs-clause-tells : goal.returns-then-not-are_runs-clause-tells
returns-then-not-are_runs-clause-tells c = λ a leaf left table js g upto potentials row.
    let task = c.args.task in
    let team = c.args.team in
    let words = c.args.words in
    let h = c.in_ok-pairs.ensures in
    let k = length leaf.tables in
    let form : Two ≡ a.begun.form = sym c.requires.form ∙ g.form in
    let opens : c.counted_minutes-first.result.0 ≡ first_minute (limits_of a) k task =
    c.counted_minutes-first.ensures.minutes.opens ∙ ap (λ m. first_minute m team task) (sym g.limits) ∙ ap (λ k. first_minute (limits_of a) k task) (sym upto.count) in
    let counted : c.counted_minutes-first.result.1 ≡ minute_count (limits_of a) k task =
    c.counted_minutes-first.ensures.minutes.counted ∙ ap (λ m. minute_count m team task) (sym g.limits) ∙ ap (λ k. minute_count (limits_of a) k task) (sym upto.count) in
    let ends : c.counted_minutes-first.result.0 + c.counted_minutes-first.result.1 ≡ first_minute (limits_of a) k task + minute_count (limits_of a) k task =
    ap (λ f. f + c.counted_minutes-first.result.1) opens ∙ ap (λ m. first_minute (limits_of a) k task + m) counted in
    let told = rw c.if-not-are_runs.true at (c.are_runs.ensures h.0 h.1) in
    let none : AreRuns (first_minute (limits_of a) k task) (first_minute (limits_of a) k task + minute_count (limits_of a) k task) h.0 → ⊥ =
    λ are. told (subst (λ f. AreRuns f (c.counted_minutes-first.result.0 + c.counted_minutes-first.result.1) h.0) (sym opens) (subst (λ p. AreRuns (first_minute (limits_of a) k task) p h.0) (sym ends) are)) in
    TellsNo Steps (subst (λ f. row_in f a leaf left table task js words (Refuses Steps)) form
    (steps_broken task (first_minute (limits_of a) k task) (first_minute (limits_of a) k task + minute_count (limits_of a) k task) words (λ vs. after_phi a leaf left (with_row table vs) js) h.0 h.3 h.4 none)) refl

pub set_runs-requires : goal.set_runs-requires
set_runs-requires c =
    let h = c.in_ok-pairs.ensures in
    let some = c.counted_minutes-first.ensures.minutes.some in
    let early = c.counted_minutes-first.ensures.early in
    let late = c.counted_minutes-first.ensures.late in
    record {
      runs = record { runs = h.0; some = h.3.some; numbers = h.1; minutes = h.3.minutes };
      room = record {
        runs = h.0;
        first = c.counted_minutes-first.result.0;
        some = omega arith;
        numbers = h.1;
        are = rw c.if-not-are_runs.false at (c.are_runs.ensures h.0 h.1);
        room = record { instance = c.args.limits.now.limits.instance; table = c.requires.ready.table; known = c.requires.task; early = early; late = omega arith };
      };
    }

pub returns-clause-tells : goal.returns-clause-tells
returns-clause-tells c = λ a leaf left table js g upto potentials row.
    let n = c.args.limits.now.limits in
    let task = c.args.task in
    let team = c.args.team in
    let words = c.args.words in
    let old = c.args.self.now.table in
    let new = c.set_runs.new.table in
    let first = c.counted_minutes-first.result.0 in
    let past = first + c.counted_minutes-first.result.1 in
    let h = c.in_ok-pairs.ensures in
    let k = length leaf.tables in
    let form : Two ≡ a.begun.form = sym c.requires.form ∙ g.form in
    let opens : first ≡ first_minute (limits_of a) k task =
    c.counted_minutes-first.ensures.minutes.opens ∙ ap (λ m. first_minute m team task) (sym g.limits) ∙ ap (λ k. first_minute (limits_of a) k task) (sym upto.count) in
    let counted : c.counted_minutes-first.result.1 ≡ minute_count (limits_of a) k task =
    c.counted_minutes-first.ensures.minutes.counted ∙ ap (λ m. minute_count m team task) (sym g.limits) ∙ ap (λ k. minute_count (limits_of a) k task) (sym upto.count) in
    let ends : past ≡ first_minute (limits_of a) k task + minute_count (limits_of a) k task =
    ap (λ f. f + c.counted_minutes-first.result.1) opens ∙ ap (λ m. first_minute (limits_of a) k task + m) counted in
    let are : AreRuns first past h.0 = rw c.if-not-are_runs.false at (c.are_runs.ensures h.0 h.1) in
    let here : AreRuns (first_minute (limits_of a) k task) (first_minute (limits_of a) k task + minute_count (limits_of a) k task) h.0 =
    subst (λ p. AreRuns (first_minute (limits_of a) k task) p h.0) ends (subst (λ f. AreRuns f past h.0) opens are) in
    let vs : List ℤ = values_of past h.0 in
    let size : length vs ≡ c.counted_minutes-first.result.1 = values_length first past h.0 are ∙ (let e : past - first ≡ c.counted_minutes-first.result.1 = omega arith in e) in
    let some = c.counted_minutes-first.ensures.minutes.some in
    let given : (m : ℕ) → m < length vs → phi new task (first + m) ≡ get_or vs m (pos 0) =
    λ m l. c.set_runs.ensures.given h.0 first h.1 are (omega arith) m (omega arith) in
    let r : LeafReader = record c.args.self.now { table = new } in
    let counts : AreCounted n team task first (length vs) = subst (AreCounted n team task first) (sym size) c.counted_minutes-first.ensures.minutes in
    let next : IsNextKey (has_minutes n team) (tasks_in n) (suc task) c.next_open.result = subst (λ m. IsNextKey (has_minutes n team) (tasks_in n) m c.next_open.result) (add-one task) c.next_open.ensures in
    let more : Potentials = with_row table vs in
    let kept : HasReadLeaf n r leaf = record { prices = upto.read.prices; worths = upto.read.worths } in
    let holds : HasPotentials n r team more (below_next n c.next_open.result) = record {
      worth = potentials.worth;
      phi = λ i t l v. one_more c.minutes_are_permitted.ensures n team table task js vs old new first row potentials.phi counts given c.set_runs.ensures.others c.next_open.result next i t l v;
    } in
    subst (λ f. LeafTells a (row_in f a leaf left table task js words) c.after_phi.result c.after_phi.new.self) form
    (tells_rest a (after_phi a leaf left more js) (row_in Two a leaf left table task js words) c.after_phi.result c.after_phi.new.self
    (λ said others. steps_read task (first_minute (limits_of a) k task) (first_minute (limits_of a) k task + minute_count (limits_of a) k task) words (λ vs. after_phi a leaf left (with_row table vs) js) h.0 said h.3 h.4 here
    (subst (λ p. after_phi a leaf left (with_row table (values_of p h.0)) js said) ends others))
    (c.after_phi.ensures.tells a leaf left more js g (record { read = kept; count = upto.count; teams = upto.teams }) holds (left_after (has_minutes n team) (tasks_in n) table.phi task js row vs c.next_open.result next)))
