use Rattle.std.proofs.Common.{◌≡◌, ◌∙◌, [], List, ap, length, map, subst}
use Rattle.branch_tree.specs.Trees.{BranchTree}
use Rattle.cert_write.specs.Causes.{cause_of}
use Rattle.cert_write.specs.Given.{IsWritable}
use Rattle.cert_write.specs.declared.causes.Cause.{Cause}
use Rattle.crew_terms.specs.Instance.{Instance}
use Rattle.crew_terms.specs.Limits.{root_limits}
use Rattle.search_core.specs.Searching.{state_of}
use Rattle.search_core.specs.declared.causes.Cause.{Cause as SplitReason}
use Rattle.written_laws.specs.Told.{AreTold}
use Rattle.search_core.specs.Outline.{handed_out}
use Rattle.plan_day_tests.proofs.few_pivots.dossier_with.Goals as goal

-- the tree of the search, with prices of its nodes and a cause for each split
pub write_dossier-requires : goal.write_dossier-requires
write_dossier-requires c =
    let s = c.take_steps.new.search in
    let o = c.in_ok-outcome.outcome in
    let out = c.in_ok-outcome.ensures.outcome [] in
    let same : s.instance ≡ c.args.instance.now = c.in_ok-take_steps.ensures ∙ c.in_ok-search.ensures.instance in
    let tree : BranchTree = handed_out (state_of [] s) in
    let told : AreTold o.causes.items (map cause_of c.in_ok-causes.causes.items) =
    subst (λ (xs : List SplitReason). AreTold xs (map cause_of c.in_ok-causes.causes.items)) c.deref.ensures.value c.in_ok-causes.ensures in
    record {
      tree = tree;
      nodes = out.tree;
      valid = subst (λ (i : Instance). IsWritable (root_limits i) tree) same
          (c.run_outcomes_are_writable.ensures.tree s.instance s.budget [] (state_of [] s) o (c.open_len.ensures.searching.run []) out);
      causes = ap (λ (xs : List Cause). length (map cause_of xs)) c.deref-2.ensures.value
          ∙ c.solved_causes_may_be_told.ensures.count o (map cause_of c.in_ok-causes.causes.items) told
          ∙ c.run_outcomes_are_writable.ensures.causes s.instance [] (state_of [] s) o out;
    }
