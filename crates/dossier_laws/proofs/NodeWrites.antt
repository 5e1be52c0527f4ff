-- the lines of a sound tree are read
use Rattle.std.proofs.Common.{◌≡◌, ◌<◌, ◌≤◌, ◌+◌, List, [], ◌∷◌, ◌++◌, length, ap, sym, refl, ◌∙◌, subst, arith, true, false}
use Rattle.std.specs.Prelude.{codes}
use Rattle.crew_terms.specs.Words.{Words}
use Rattle.crew_terms.specs.Instance.{Instance}
use Rattle.crew_terms.specs.Rules.{IsInstance}
use Rattle.crew_terms.specs.Limits.{root_limits}
use Rattle.crew_terms.specs.Branches.{LeafNode, SplitNode, Bare, Open, Closed, InFirst, InSecond, splits, closed, left_open, depth, frame_sum}
use Rattle.crew_terms.specs.Tree.{CanSplit, child}
use Rattle.crew_terms.specs.declared.Choice.{Choice}
use Rattle.crew_terms.specs.declared.Choice.TheVariants as choices
use Rattle.crew_terms.specs.declared.Side.TheVariants.{First, Second}
use Rattle.crew_terms.specs.declared.TreeCounts.{TreeCounts}
use Rattle.crew_terms.specs.Nodes.{child_instance}
use Rattle.dossier_terms.specs.declared.DossierForm.{DossierForm}
use Rattle.dossier_terms.specs.declared.DossierForm.TheVariants.{One, Two}
use Rattle.dossier_terms.specs.Causes.{Cause, NoCause}
use Rattle.dossier_terms.specs.Dossier.{Written, Split}
use Rattle.dossier_terms.specs.Lines.{choice_line, split_lines, node_lines}
use Rattle.dossier_terms.specs.Reading.{Answer, More, limits_below, choice_done, split_done, node_done, Nodes, Whys, Prices, Begun, Above, SplitSite}
use Rattle.dossier_terms.specs.Rules.{Holds, Then, Else, Spelled, On}
use Rattle.dossier_terms.specs.Table.{Reaches}
use Rattle.dossier_terms.specs.NodeTable.{HasSplitRoom, node_row, leaf_row}
use Rattle.dossier_terms.specs.Apart.{first_byte}
use Rattle.dossier_laws.proofs.SoFar.{NodeHolds, CauseHolds}
use Rattle.dossier_laws.proofs.CauseWrites.{cause_reached}
use Rattle.dossier_laws.proofs.Rules.{reaches-append}
use Rattle.dossier_laws.proofs.LeafWrites.{leaf_reached}
use Rattle.dossier_laws.specs.Days.{IsDay, last_minute, root_day, child_day}

-- ---- numbers of a tree

-- the node still fits into the counts
pub record Fits (c : TreeCounts) (above : List Above) (t : Written) : Type 0 where
  pub splits_fit : frame_sum splits 1 above + splits t ≤ c.splits
  pub closed_fit : frame_sum closed 0 above + closed t ≤ c.closed
  pub open_fit : frame_sum left_open 0 above + left_open t ≤ c.left_open
  pub depth_fit : length above + depth t ≤ c.depth

first_fits : (c : TreeCounts) (above : List Above) (split : Split) (first second : Written) → Fits c above (SplitNode split first second) → Fits c (InFirst split ∷ above) first
first_fits c above split first second f = record { splits_fit = omega arith; closed_fit = omega arith; open_fit = omega arith; depth_fit = omega arith }

second_fits : (c : TreeCounts) (above : List Above) (split : Split) (first second : Written) → Fits c above (SplitNode split first second) → Fits c (InSecond split first ∷ above) second
second_fits c above split first second f = record { splits_fit = omega arith; closed_fit = omega arith; open_fit = omega arith; depth_fit = omega arith }

room : (c : TreeCounts) (above : List Above) (split : Split) (first second : Written) → Fits c above (SplitNode split first second) → HasSplitRoom c above
room c above split first second f = (omega arith, omega arith)

-- ---- nodes

split_said : (b : Begun) (c : TreeCounts) (above : List Above) (choice : Choice) → (limits_below (root_limits b.instance) above).instance ≡ b.instance → IsDay (limits_below (root_limits b.instance) above)
    → CanSplit (limits_below (root_limits b.instance) above) choice → HasSplitRoom c above → node_row b c above (choice_line choice) (More (choice_done b.form b c above choice))
split_said b c above (choices.Window j cut) same day can fits =
    let late = last_minute (limits_below (root_limits b.instance) above) j day in
    let task = subst (λ (i : Instance). j < length i.tasks) same can.task in
    Then (_, refl) (Holds (_, refl, refl) (Spelled (j, cut) (task, omega (arith, can.late)) refl (Holds fits (Holds can (On refl)))))
split_said b c above (choices.Pair k j) same day can fits =
    let team = subst (λ (i : Instance). k < length i.teams) same can.team in
    let task = subst (λ (i : Instance). j < length i.tasks) same can.task in
    Else (λ e. absurd (let a = ap (first_byte 0) e.1 in omega arith)) (Then (_, refl) (Holds (_, refl, refl) (Spelled (k, j) (team, task) refl (Holds fits (Holds can (On refl))))))

-- the lines of a split, where its choice is good and its cause may be told
split_reached : (b : Begun) (c : TreeCounts) (above : List Above) (form : DossierForm) (choice : Choice) (cause : Cause) → node_row b c above (choice_line choice) (More (choice_done form b c above choice))
    → CauseHolds form b (limits_below (root_limits b.instance) above) cause
    → Reaches (Nodes b c above) (split_lines form (record { choice = choice; cause = cause })) (split_done b c above (record { choice = choice; cause = cause }))
split_reached b c above One choice cause said told = (
  split_done b c above (record { choice = choice; cause = NoCause }),
  said,
  ap (λ (why : Cause). split_done b c above (record { choice = choice; cause = why })) (sym told),
)
split_reached b c above Two choice cause said told =
    let p : SplitSite = record { begun = b; counts = c; above = above; choice = choice } in
    (Whys p, said, cause_reached p cause told)

leaf_said : (b : Begun) (c : TreeCounts) (above : List Above) (rest : Words) (said : Answer) → leaf_row b c above (codes "leaf" ∷ rest) said → node_row b c above (codes "leaf" ∷ rest) said
leaf_said b c above rest said h = Else (λ e. absurd (let a = ap (first_byte 0) e.1 in omega arith)) (Else (λ e. absurd (let a = ap (first_byte 0) e.1 in omega arith)) h)

nodes_reached : (b : Begun) (c : TreeCounts) (t : Written) (above : List Above) → (limits_below (root_limits b.instance) above).instance ≡ b.instance → IsDay (limits_below (root_limits b.instance) above)
    → NodeHolds b (limits_below (root_limits b.instance) above) t → Fits c above t
    → Reaches (Nodes b c above) (node_lines b.form (limits_below (root_limits b.instance) above) t) (node_done b c above t)
nodes_reached b c (LeafNode Bare) above same day h f = (
  node_done b c above (LeafNode Bare),
  leaf_said b c above _ _ (Holds (_, refl, refl) (Then refl (Holds (omega arith) (Holds h.1 (On refl))))),
  refl,
)
nodes_reached b c (LeafNode (Open leaf)) above same day h f = (
  Prices (record { begun = b; counts = c; above = above; is_closed = false }),
  leaf_said b c above _ _ (Holds (_, refl, refl) (Else (λ e. absurd (let a = ap (first_byte 1) e in omega arith)) (Then refl (Holds (omega arith) (On refl))))),
  leaf_reached (record { begun = b; counts = c; above = above; is_closed = false }) leaf day h.0 h.1.0 (h.1.1, λ e. absurd (let g : false ≡ true = e in cc)),
)
nodes_reached b c (LeafNode (Closed leaf)) above same day h f = (
  Prices (record { begun = b; counts = c; above = above; is_closed = true }),
  leaf_said b c above _ _ (Holds (_, refl, refl) (Else (λ e. absurd (let a = ap (first_byte 1) e in omega arith)) (Else (λ e. absurd (let a = ap (first_byte 1) e in omega arith)) (Holds refl (Holds (omega arith) (On refl)))))),
  leaf_reached (record { begun = b; counts = c; above = above; is_closed = true }) leaf day h.0 h.1.0.0 (h.1.0.1, λ e. h.1.1.1),
)
nodes_reached b c (SplitNode split first second) above same day h f =
    let n = limits_below (root_limits b.instance) above in
    let choice = split.choice in
    let lines = node_lines b.form (child n choice First) first in
    reaches-append (Nodes b c above) (split_lines b.form split ++ lines) (Nodes b c (InSecond split first ∷ above)) (node_lines b.form (child n choice Second) second) (node_done b c above (SplitNode split first second))
    (reaches-append (Nodes b c above) (split_lines b.form split) (Nodes b c (InFirst split ∷ above)) lines (Nodes b c (InSecond split first ∷ above))
    (split_reached b c above b.form choice split.cause (split_said b c above choice same day h.1.0 (room c above split first second f)) h.2.0)
    (nodes_reached b c first (InFirst split ∷ above) (child_instance n choice First ∙ same) (child_day n choice First day h.1.0) (h.0.0, h.1.1, h.2.1) (first_fits c above split first second f)))
    (nodes_reached b c second (InSecond split first ∷ above) (child_instance n choice Second ∙ same) (child_day n choice Second day h.1.0) (h.0.1, h.1.2, h.2.2) (second_fits c above split first second f))

pub tree_reached : (b : Begun) (c : TreeCounts) (t : Written) → IsInstance b.instance → NodeHolds b (root_limits b.instance) t → Fits c [] t
    → Reaches (Nodes b c []) (node_lines b.form (root_limits b.instance) t) (node_done b c [] t)
tree_reached b c t w h f = nodes_reached b c t [] refl (root_day b.instance w) h f
