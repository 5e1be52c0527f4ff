use Rattle.std.proofs.Common.{◌≡◌, ap, subst, ◌∙◌, length}
use Rattle.std.specs.Prelude.{false, true}
use Rattle.cert_format.specs.Lines.{IsNodeLine}
use Rattle.cert_format.specs.Typed.{node_kind}
use Rattle.cert_format.specs.declared.typed.NodeLine.{NodeLine}
use Rattle.crew_terms.specs.declared.Choice.TheVariants.{Window, Pair}
use Rattle.dossier_terms.specs.NodeTable.{after_bare, after_leaf, after_split}
use Rattle.cert_checker.specs.Due.{draft_of}
use Rattle.cert_checker.specs.declared.due.BegunDossier.{BegunDossier}
use Rattle.cert_checker.specs.declared.due.TreeDraft.{TreeDraft}
use Rattle.cert_checker.proofs.NodeRows.{node_rest, window_says, pair_says, bare_says, open_says, closed_says}
use Rattle.cert_checker.proofs.node.node_line.Goals as goal
use Rattle.cert_checker.proofs.node.node_line.Goals.{In_ok-task}

-- the line that was read is this one, over the teams and the tasks of the instance
read : (c : In_ok-task) (line : NodeLine) → c.in_ok-task.field-0 ≡ line
    → IsNodeLine (length c.args.tree.value.draft.value.base.instance.teams) (length c.args.tree.value.draft.value.base.instance.tasks) c.args.words (node_kind line)
read c line is =
    let i = c.args.tree.value.draft.value.base.instance in
    let held = c.deref-2.ensures ∙ ap (λ (x : TreeDraft). x.draft.value) c.deref.ensures in
    subst (λ n. IsNodeLine (length i.teams) n c.args.words (node_kind line)) (c.tasks-tasks.ensures.count ∙ ap (λ (d : BegunDossier). length d.base.instance.tasks) held)
    (subst (λ m. IsNodeLine m c.tasks-tasks.result c.args.words (node_kind line)) (c.teams-teams.ensures.count ∙ ap (λ (d : BegunDossier). length d.base.instance.teams) held)
    (subst (λ (l : NodeLine). IsNodeLine c.teams-teams.result c.tasks-tasks.result c.args.words (node_kind l)) is c.in_ok-task.ensures))

pub returns-in-Window : goal.returns-in-Window
returns-in-Window c =
    let b = draft_of c.args.tree.value.draft.value in
    let n = c.args.tree.value.claimed in
    let j = c.in-Window.task in
    let cut = c.in-Window.cut in
    let h = read (goal.at.returns-in-Window c).In_ok-task _ c.in-Window.is in
    node_rest c.args.tree c.args.words c.split_line.result (λ fs. after_split b n fs (Window j cut))
    (λ fs said rest. window_says b n fs j cut c.args.words said h.0 h.1 h.2 rest) c.split_line.ensures

pub returns-in-Pair : goal.returns-in-Pair
returns-in-Pair c =
    let b = draft_of c.args.tree.value.draft.value in
    let n = c.args.tree.value.claimed in
    let k = c.in-Pair.team in
    let j = c.in-Pair.task in
    let h = read (goal.at.returns-in-Pair c).In_ok-task _ c.in-Pair.is in
    node_rest c.args.tree c.args.words c.split_line-in-Pair.result (λ fs. after_split b n fs (Pair k j))
    (λ fs said rest. pair_says b n fs k j c.args.words said h.0 h.1 h.2 rest) c.split_line-in-Pair.ensures

pub returns-in-Bare : goal.returns-in-Bare
returns-in-Bare c =
    let b = draft_of c.args.tree.value.draft.value in
    let n = c.args.tree.value.claimed in
    let h = read (goal.at.returns-in-Bare c).In_ok-task _ c.in-Bare.is in
    node_rest c.args.tree c.args.words c.bare_line.result (after_bare b n) (λ fs said rest. bare_says b n fs c.args.words said h rest) c.bare_line.ensures

pub returns-in-Open : goal.returns-in-Open
returns-in-Open c =
    let b = draft_of c.args.tree.value.draft.value in
    let n = c.args.tree.value.claimed in
    let h = read (goal.at.returns-in-Open c).In_ok-task _ c.in-Open.is in
    node_rest c.args.tree c.args.words c.leaf_line.result (λ fs. after_leaf b n fs false) (λ fs said rest. open_says b n fs c.args.words said h rest) c.leaf_line.ensures

pub returns-in-Closed : goal.returns-in-Closed
returns-in-Closed c =
    let b = draft_of c.args.tree.value.draft.value in
    let n = c.args.tree.value.claimed in
    let h = read (goal.at.returns-in-Closed c).In_ok-task _ c.in-Closed.is in
    node_rest c.args.tree c.args.words c.leaf_line-in-Closed.result (λ fs. after_leaf b n fs true) (λ fs said rest. closed_says b n fs c.args.words said h rest) c.leaf_line-in-Closed.ensures
