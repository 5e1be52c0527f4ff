use Rattle.std.proofs.Common.{◌≡◌, ◌∙◌, ap, refl, subst, sym}
use Rattle.std.proofs.lemmas.Result.{err_from_is_err_and}
use Rattle.std.specs.Prelude.{if◌then◌else◌, List, Ok}
use Rattle.std.specs.Box.{with_value}
use Rattle.crew_terms.specs.Branches.{LeafNode, Open, Closed}
use Rattle.dossier_terms.specs.Reading.{Reading, leaf_done, node_done, Above, LeafSite}
use Rattle.dossier_terms.specs.Table.{Says}
use Rattle.node_limits.specs.Rest.{trail_over}
use Rattle.leaf_check.specs.Reader.{StandsFor, LeafTells}
use Rattle.leaf_check.specs.declared.reader.Goal.{Goal}
use Rattle.leaf_check.specs.declared.reader.LeafStep.{LeafStep}
use Rattle.cert_checker.specs.Due.{Awaits, IsInLeaf, IsAtNode, draft_of, site_of}
use Rattle.cert_checker.specs.declared.due.BegunDossier.{BegunDossier}
use Rattle.cert_checker.specs.declared.due.TreeDraft.{TreeDraft}
use Rattle.cert_checker.proofs.NodeRows.{taken_woke}
use Rattle.cert_checker.proofs.LeafRows.{told_more, told_done, told_no, is_leaf, goal_at, in_leaf, read_by, read_on, rested_back}
use Rattle.cert_checker.proofs.leaf.number_line.Goals as goal
use Rattle.cert_checker.proofs.leaf.number_line.Goals.{After-line, After-rest}

-- the limits that woke are those of the tree
woke : (c : After-line) → c.wake-limits.result ≡ trail_over c.args.tree.value.draft.value.base.instance c.args.tree.value.draft.value.limits
woke c = taken_woke c.args.tree.value c.deref_mut-held.result.now c.deref_mut-draft.result.now c.take.result c.wake-limits.result
    c.deref_mut-held.ensures.value c.deref_mut-draft.ensures.value c.take.ensures.taken c.wake-limits.ensures

-- what the reader tells of the line, where the leaf is below these splits
told : (c : After-line) (reading : Reading) (fs : List Above) → IsInLeaf c.args.tree.value c.args.is_closed fs reading
    → LeafTells (site_of c.args.tree.value fs c.args.is_closed) (Says reading c.args.words) c.line.result c.line.new.self
told c reading fs leaf =
    let tree = c.args.tree.value in
    let draft = c.deref_mut-draft.result.now in
    let read : draft ≡ tree.draft.value = c.deref_mut-draft.ensures.value ∙ ap (λ (x : TreeDraft). x.draft.value) c.deref_mut-held.ensures.value in
    let a : LeafSite = site_of tree fs c.args.is_closed in
    let g : Goal = record { form = draft.base.form; bound = draft.bound; unassigned = c.deref_mut-held.result.now.unassigned; is_closed = c.args.is_closed } in
    c.line.ensures.judged a reading (goal_at tree c.wake-limits.result (woke c) c.args.is_closed g fs leaf.node
    (ap (λ (d : BegunDossier). d.base.form) read) (ap (λ (d : BegunDossier). d.bound) read) (ap (λ (x : TreeDraft). x.unassigned) c.deref_mut-held.ensures.value) refl)
    (subst (λ (x : TreeDraft). StandsFor a x.reader reading) (sym c.deref_mut-held.ensures.value) leaf.stands)

pub returns-in_err-step : goal.returns-in_err-step
returns-in_err-step d =
    let c = (goal.at.returns-in_err-step d).After-line in
    let p = err_from_is_err_and d.from_residual.result d.from_residual.ensures.1 in
    rw (p.1, p.2) (λ reading awaited.
    let a = site_of c.args.tree.value awaited.0 c.args.is_closed in
    told_no a (Says reading c.args.words) c.line.new.self d.in_err-step.field-0.0
    (subst (λ s. LeafTells a (Says reading c.args.words) s c.line.new.self) d.in_err-step.was (told c reading awaited.0 awaited.1)))

-- the same where this step came
told_step : (c : After-rest) (step : LeafStep) → c.in_ok-step.step ≡ step → (a : LeafSite) (reading : Reading)
    → LeafTells a (Says reading c.args.words) c.line.result c.line.new.self → LeafTells a (Says reading c.args.words) (Ok step) c.line.new.self
told_step c step is a reading tells =
    subst (λ (s : LeafStep). LeafTells a (Says reading c.args.words) (Ok s) c.line.new.self) is
    (subst (λ s. LeafTells a (Says reading c.args.words) s c.line.new.self) c.in_ok-step.was tells)

-- the tree that is written back, with its limits at rest again and its reader behind the line
abbrev written : After-rest → TreeDraft
written c = record c.deref_mut-held.result.now {
  draft = with_value c.deref_mut-held.result.now.draft (record c.deref_mut-draft.result.now { limits = c.rest.result });
  reader = c.line.new.self;
}

written_is : (c : After-rest) → written c ≡ read_by c.args.tree.value c.rest.result c.line.new.self
written_is c = ap (λ (t : TreeDraft). with_other t) (rested_back c.args.tree.value c.deref_mut-held.result.now c.deref_mut-draft.result.now c.rest.result c.deref_mut-held.ensures.value c.deref_mut-draft.ensures.value)
  where
    with_other : TreeDraft → TreeDraft
    with_other t = record t { reader = c.line.new.self }

pub returns-in-More : goal.returns-in-More
returns-in-More d = λ reading awaited.
    let c = (goal.at.returns-in-More d).After-rest in
    let before = (goal.at.returns-in-More d).After-line in
    let tree = c.args.tree.value in
    let fs = awaited.0 in
    let leaf = awaited.1 in
    let a = site_of tree fs c.args.is_closed in
    let t = told_more a (Says reading c.args.words) c.line.new.self (told_step c _ d.in-More.is a reading (told before reading fs leaf)) in (
      t.0,
      t.1,
      (
        fs,
        in_leaf tree c.wake-limits.result c.rest.result (woke before) c.rest.ensures.same c.rest.ensures.over (written c) c.args.is_closed c.line.new.self (written_is c) fs t.0
            leaf.node leaf.room c.line.ensures.ready t.2,
      ),
    )

pub returns-in-Done : goal.returns-in-Done
returns-in-Done d = λ reading awaited.
    let c = (goal.at.returns-in-Done d).After-rest in
    let before = (goal.at.returns-in-Done d).After-line in
    let tree = c.args.tree.value in
    let fs = awaited.0 in
    let closed = c.args.is_closed in
    let a = site_of tree fs closed in
    let t = told_done a (Says reading c.args.words) c.line.new.self (told_step c _ d.in-Done.is a reading (told before reading fs awaited.1)) in
    let claim = if closed then Closed t.0 else Open t.0 in (
      leaf_done a t.0,
      t.1,
      subst (λ (x : TreeDraft). Awaits d.leave.result (node_done (draft_of x.draft.value) x.claimed fs (LeafNode claim))) (written_is c)
          (d.leave.ensures fs claim
          (subst (λ (x : TreeDraft). IsAtNode x fs) (sym (written_is c)) (read_on tree c.wake-limits.result c.rest.result (woke before) c.rest.ensures.same c.rest.ensures.over c.line.new.self fs awaited.1.node c.line.ensures.ready)) (is_leaf closed t.0)),
    )
