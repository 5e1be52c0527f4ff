-- what is read of a tree's nodes is their lines, and sound
use Rattle.std.proofs.Common.{◌≡◌, ◌+◌, List, [], ◌∷◌, ◌++◌, ap, sym, refl, ◌∙◌, ◌≤◌, subst, append_assoc}
use Rattle.crew_terms.specs.Words.{Words}
use Rattle.crew_terms.specs.Limits.{root_limits}
use Rattle.crew_terms.specs.Branches.{LeafNode, SplitNode, Bare, InFirst, InSecond}
use Rattle.crew_terms.specs.Tree.{CanSplit, child}
use Rattle.crew_terms.specs.declared.Choice.{Choice}
use Rattle.crew_terms.specs.declared.Choice.TheVariants as choices
use Rattle.crew_terms.specs.declared.Side.TheVariants.{First, Second}
use Rattle.crew_terms.specs.declared.TreeCounts.{TreeCounts}
use Rattle.dossier_terms.specs.declared.DossierForm.{DossierForm}
use Rattle.dossier_terms.specs.declared.DossierForm.TheVariants.{One, Two}
use Rattle.dossier_terms.specs.Causes.{NoCause}
use Rattle.dossier_terms.specs.Dossier.{Written, Split, IsGood}
use Rattle.dossier_terms.specs.Lines.{choice_line, split_lines, tree_line, end_line, node_lines}
use Rattle.dossier_terms.specs.Reading.{Reading, Answer, More, limits_below, choice_done, node_done, whole, Trees, Nodes, Ends, Begun, Above}
use Rattle.dossier_terms.specs.BodyTable.{tree_row}
use Rattle.dossier_terms.specs.NodeTable.{node_row, leaf_row, after_split}
use Rattle.dossier_terms.specs.Table.{end_row}
use Rattle.dossier_laws.proofs.SoFar.{IsPlanned, IsTreePart, NodeHolds, FramesHold, CauseHolds, IsReading, spelled, Follows, begun_lines, nodes_so_far, frames_lines}
use Rattle.dossier_laws.proofs.Rules.{must_then, when_then, spells_then, goes_then, finish_then}

-- ---- a whole node

-- two lists at the end of others
under : {A : Type 0} (front next xs ys : List A) → front ++ (next ++ (xs ++ ys)) ≡ (front ++ (next ++ xs)) ++ ys
under front next xs ys = simp append_assoc

beside : {A : Type 0} (front next xs ys : List A) → (front ++ next) ++ (xs ++ ys) ≡ (front ++ (next ++ xs)) ++ ys
beside front next xs ys = simp append_assoc

pub done_reads : (b : Begun) (c : TreeCounts) (above : List Above) (t : Written) → IsTreePart b c → FramesHold b above → NodeHolds b (limits_below (root_limits b.instance) above) t
    → (spelled (node_done b c above t) ≡ nodes_so_far b c above ++ node_lines b.form (limits_below (root_limits b.instance) above) t) × IsReading (node_done b c above t)
done_reads b c [] t p h k = (sym (append_assoc (begun_lines b) (tree_line c ∷ []) (node_lines b.form (root_limits b.instance) t)), (p, k))
done_reads b c (InFirst split ∷ above) t p h k =
    let so_far = tree_line c ∷ frames_lines b.form (root_limits b.instance) above in
    (under (begun_lines b) so_far (split_lines b.form split) (node_lines b.form (limits_below (root_limits b.instance) (InFirst split ∷ above)) t), (p, ((h.0, k), h.1)))
done_reads b c (InSecond split first ∷ above) t p h k =
    let n = limits_below (root_limits b.instance) above in
    let so_far = tree_line c ∷ frames_lines b.form (root_limits b.instance) above in
    let a = done_reads b c above (SplitNode split first t) p h.1 ((h.0.1.0, k.0), (h.0.0.0, h.0.1.1, k.1), (h.0.0.1, h.0.1.2, k.2)) in (
      a.0 ∙ beside (begun_lines b) so_far (split_lines b.form split ++ node_lines b.form (child n split.choice First) first) (node_lines b.form (child n split.choice Second) t),
      a.1,
    )

-- ---- the rows

pub tree_follows : (b : Begun) (ws : Words) (said : Answer) → IsPlanned b → tree_row b ws said → Follows (Trees b) ws said
tree_follows b ws said r h = must_then s ws said (λ shape g.
    spells_then s ws said (λ c is e g.
    must_then s ws said (λ leaves g.
    must_then s ws said (λ within g.
    must_then s ws said (λ spent g.
    goes_then s ws said (ap (λ w. begun_lines b ++ w ∷ []) (sym e), (record { planned = r; leaves = leaves; within = within; spent = spent }, tt)) g) g) g) g) g) h
  where
    s : Reading
    s = Trees b

-- the lines of the first child's split, behind those so far
pub split_text : (b : Begun) (c : TreeCounts) (above : List Above) (split : Split) (lines : List Words) → split_lines b.form split ≡ lines → nodes_so_far b c (InFirst split ∷ above) ≡ nodes_so_far b c above ++ lines
split_text b c above split lines e =
    let so_far = tree_line c ∷ frames_lines b.form (root_limits b.instance) above in
    ap (λ ls. begun_lines b ++ (so_far ++ ls)) e ∙ sym (append_assoc (begun_lines b) so_far lines)

choice_follows : (b : Begun) (c : TreeCounts) (above : List Above) (choice : Choice) (ws : Words) → IsTreePart b c × FramesHold b above → ws ≡ choice_line choice
    → CanSplit (limits_below (root_limits b.instance) above) choice → (form : DossierForm) → b.form ≡ form → Follows (Nodes b c above) ws (More (choice_done form b c above choice))
choice_follows b c above choice ws r e can One f =
    let split : Split = record { choice = choice; cause = NoCause } in
    let told : CauseHolds b.form b (limits_below (root_limits b.instance) above) NoCause = subst (λ form. CauseHolds form b (limits_below (root_limits b.instance) above) NoCause) (sym f) refl in
    (split_text b c above split (ws ∷ []) (ap (λ form. split_lines form split) f ∙ ap (λ w. w ∷ []) (sym e)), (r.0, ((can, told), r.1)))
choice_follows b c above choice ws r e can Two f = (ap (λ w. nodes_so_far b c above ++ w ∷ []) (sym e), (r.0, r.1, can, f))

split_follows : (b : Begun) (c : TreeCounts) (above : List Above) (choice : Choice) (ws : Words) (said : Answer) → IsTreePart b c × FramesHold b above → ws ≡ choice_line choice
    → after_split b c above choice said → Follows (Nodes b c above) ws said
split_follows b c above choice ws said r e h = must_then s ws said (λ room g.
    must_then s ws said (λ can g.
    goes_then s ws said (choice_follows b c above choice ws r e can b.form refl) g) g) h
  where
    s : Reading
    s = Nodes b c above

leaf_follows : (b : Begun) (c : TreeCounts) (above : List Above) (ws : Words) (said : Answer) → IsTreePart b c × FramesHold b above → leaf_row b c above ws said → Follows (Nodes b c above) ws said
leaf_follows b c above ws said r h = must_then s ws said (λ shape g.
    when_then s ws said (λ e g. must_then s ws said (λ room g. must_then s ws said (λ none g.
    let done = done_reads b c above (LeafNode Bare) r.0 r.1 (tt, none, tt) in
    goes_then s ws said (done.0 ∙ ap (λ w. nodes_so_far b c above ++ w ∷ []) (sym e), done.1) g) g) g) (λ g.
    when_then s ws said (λ e g. must_then s ws said (λ room g.
    goes_then s ws said (ap (λ w. nodes_so_far b c above ++ w ∷ []) (sym e), r) g) g) (λ g.
    must_then s ws said (λ e g. must_then s ws said (λ room g.
    goes_then s ws said (ap (λ w. nodes_so_far b c above ++ w ∷ []) (sym e), r) g) g) g) g) g) h
  where
    s : Reading
    s = Nodes b c above

pub node_follows : (b : Begun) (c : TreeCounts) (above : List Above) (ws : Words) (said : Answer) → IsTreePart b c × FramesHold b above → node_row b c above ws said → Follows (Nodes b c above) ws said
node_follows b c above ws said r h =
    when_then s ws said (λ window g. must_then s ws said (λ shape g. spells_then s ws said (λ p is e g. split_follows b c above (choices.Window p.0 p.1) ws said r e g) g) g) (λ g.
    when_then s ws said (λ pair g. must_then s ws said (λ shape g. spells_then s ws said (λ p is e g. split_follows b c above (choices.Pair p.0 p.1) ws said r e g) g) g) (λ g.
    leaf_follows b c above ws said r g) g) h
  where
    s : Reading
    s = Nodes b c above

pub end_follows : (b : Begun) (c : TreeCounts) (t : Written) (ws : Words) (said : Answer) → IsTreePart b c × NodeHolds b (root_limits b.instance) t → end_row b c t ws said → Follows (Ends b c t) ws said
end_follows b c t ws said r h = must_then s ws said (λ e g.
    must_then s ws said (λ counted g.
    let pool = r.0.planned.pool in
    let good : IsGood (whole b t) = record {
      instance = pool.head.instance;
      frozen = pool.head.frozen;
      budget = pool.head.budget;
      kept = pool.kept;
      pool_length = pool.many;
      pool = pool.pool;
      differ = pool.differ;
      plan = r.0.planned.plan;
      bound = r.0.planned.bound;
      leaves = r.1.0;
      sound = r.1.1;
      causes = r.1.2;
      within = subst (λ (n : TreeCounts). n.splits + n.closed ≤ b.budget) (sym counted) r.0.within;
      spent = λ l. subst (λ (n : TreeCounts). n.splits + n.closed ≡ b.budget) (sym counted) (r.0.spent l);
    } in
    let nodes = node_lines b.form (root_limits b.instance) t in
    finish_then s ws said (
      ap (λ n. begun_lines b ++ tree_line n ∷ (nodes ++ end_line ∷ [])) counted ∙ ap (λ w. begun_lines b ++ tree_line c ∷ (nodes ++ w ∷ [])) (sym e)
          ∙ sym (append_assoc (begun_lines b) (tree_line c ∷ nodes) (ws ∷ [])),
      good,
    ) g) g) h
  where
    s : Reading
    s = Ends b c t
