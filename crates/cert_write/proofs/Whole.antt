-- the parts of a dossier, one after another
use Rattle.std.proofs.Common.{◌≡◌, ◌++◌, ◌∷◌, [], ℕ, List, ap, sym, ◌∙◌, append_assoc, append-nil}
use Rattle.std.proofs.lemmas.List.Concat.{flat_map-append}
use Rattle.crew_terms.specs.Instance.{Instance}
use Rattle.crew_terms.specs.Limits.{root_limits}
use Rattle.crew_terms.specs.Words.{line_text}
use Rattle.dossier_terms.specs.Dossier.{Dossier, Written}
use Rattle.dossier_terms.specs.Lines.{counts_of, end_line, form_line, frozen_lines, head_lines, instance_lines, instance_text, node_lines, plan_lines, pool_lines, text_of, tree_line, tree_lines}
use Rattle.dossier_terms.specs.declared.DossierForm.TheVariants.{Two}
use Rattle.branch_tree.specs.Trees.{BranchTree, counts_of as tree_counts}
use Rattle.cert_write.specs.Given.{Given}
use Rattle.cert_write.specs.Counted.{same_counts}
use Rattle.cert_write.specs.Dossiers.{IsDossierOf, IsPricedTree, dossier_is}
use Rattle.crew_io.specs.Fronts.{IsFront}
use Rattle.dossier_out.specs.Texts.{front_of, front_1, front_2, text}

-- ---- texts

pub tree_text : (i : Instance) (t : BranchTree) (w : Written) → IsPricedTree (root_limits i) t w
    → (line_text (tree_line (tree_counts t)) ++ text (node_lines Two (root_limits i) w)) ++ line_text end_line ≡ text (tree_lines Two i w)
tree_text i t w is =
    let nodes = node_lines Two (root_limits i) w in
    ap (λ c. (line_text (tree_line c) ++ text nodes) ++ line_text end_line) (same_counts (root_limits i) t w is)
    ∙ append_assoc (line_text (tree_line (counts_of w))) (text nodes) (line_text end_line)
    ∙ ap (λ e. line_text (tree_line (counts_of w)) ++ (text nodes ++ e)) (sym (append-nil (line_text end_line)))
    ∙ ap (λ x. line_text (tree_line (counts_of w)) ++ x) (sym (flat_map-append line_text nodes (end_line ∷ [])))

pub head_text : (i : Instance) (b : ℕ) → (line_text (form_line Two) ++ instance_text i b) ++ text (frozen_lines Two i.frozen) ≡ text (head_lines Two i b)
head_text i b =
    append_assoc (line_text (form_line Two)) (instance_text i b) (text (frozen_lines Two i.frozen))
    ∙ ap (λ x. line_text (form_line Two) ++ x) (sym (flat_map-append line_text (instance_lines i b) (frozen_lines Two i.frozen)))

pub head_front_1 : (i : Instance) (b : ℕ) → IsFront (line_text (form_line Two)) (text (head_lines Two i b))
head_front_1 i b = front_1 (line_text (form_line Two)) (instance_text i b) (text (frozen_lines Two i.frozen)) _ (sym (head_text i b))

pub head_front_2 : (i : Instance) (b : ℕ) → IsFront (line_text (form_line Two) ++ instance_text i b) (text (head_lines Two i b))
head_front_2 i b = front_of (line_text (form_line Two) ++ instance_text i b) (text (frozen_lines Two i.frozen)) _ (sym (head_text i b))

pub tree_front_1 : (i : Instance) (t : BranchTree) (w : Written) → IsPricedTree (root_limits i) t w → IsFront (line_text (tree_line (tree_counts t))) (text (tree_lines Two i w))
tree_front_1 i t w is = front_1 (line_text (tree_line (tree_counts t))) (text (node_lines Two (root_limits i) w)) (line_text end_line) _ (sym (tree_text i t w is))

pub tree_front_2 : (i : Instance) (t : BranchTree) (w : Written) → IsPricedTree (root_limits i) t w
    → IsFront (line_text (tree_line (tree_counts t)) ++ text (node_lines Two (root_limits i) w)) (text (tree_lines Two i w))
tree_front_2 i t w is = front_of (line_text (tree_line (tree_counts t)) ++ text (node_lines Two (root_limits i) w)) (line_text end_line) _ (sym (tree_text i t w is))

pub dossier_text : (g : Given) (d : Dossier) → IsDossierOf g d
    → ((text (head_lines Two g.instance g.nodes) ++ text (pool_lines g.kept g.columns)) ++ text (plan_lines g.plan g.bound)) ++ text (tree_lines Two g.instance d.tree) ≡ text_of d
dossier_text g d is =
    let h = head_lines Two g.instance g.nodes in
    let o = pool_lines g.kept g.columns in
    let q = plan_lines g.plan g.bound in
    let t = tree_lines Two g.instance d.tree in
    sym (flat_map-append line_text ((h ++ o) ++ q) t ∙ ap (λ x. x ++ text t) (flat_map-append line_text (h ++ o) q ∙ ap (λ x. x ++ text q) (flat_map-append line_text h o)))
    ∙ ap text_of (sym (dossier_is g d is))

module _ (g : Given) (d : Dossier) (is : IsDossierOf g d) where
  abbrev head : List ℕ
  head = text (head_lines Two g.instance g.nodes)

  abbrev pool : List ℕ
  pool = text (pool_lines g.kept g.columns)

  abbrev plan : List ℕ
  plan = text (plan_lines g.plan g.bound)

  pub front_of_head : IsFront head (text_of d)
  front_of_head = front_2 head pool plan (text (tree_lines Two g.instance d.tree)) (text_of d) (sym (dossier_text g d is))

  pub front_of_pool : IsFront (head ++ pool) (text_of d)
  front_of_pool = front_1 (head ++ pool) plan (text (tree_lines Two g.instance d.tree)) (text_of d) (sym (dossier_text g d is))

  pub front_of_plan : IsFront ((head ++ pool) ++ plan) (text_of d)
  front_of_plan = front_of ((head ++ pool) ++ plan) (text (tree_lines Two g.instance d.tree)) (text_of d) (sym (dossier_text g d is))
