-- the lines of a good dossier
use Rattle.std.proofs.Common.{◌++◌, arith}
use Rattle.std.specs.List.{All, AllByRecursion}
use Rattle.std.proofs.lemmas.List.Elements.{All-from_recursion}
use Rattle.crew_terms.specs.Plan.{unassigned_count}
use Rattle.dossier_terms.specs.Dossier.{Dossier, IsGood}
use Rattle.dossier_terms.specs.Lines.{lines_of, head_lines, pool_lines, plan_lines, tree_lines}
use Rattle.text_laws.specs.Texts.{AreLine}
use Rattle.text_laws.proofs.Lists.{rec-append}
use Rattle.text_laws.proofs.Plans.{head_good, pool_good, plan_good}
use Rattle.text_laws.proofs.Nodes.{tree_good}

pub all_good : (d : Dossier) → IsGood d → AllByRecursion AreLine (lines_of d)
all_good d h =
    let i = d.instance in
    rec-append AreLine (head_lines d.form i d.budget ++ pool_lines d.kept d.pool ++ plan_lines d.plan d.bound) (tree_lines d.form i d.tree)
    (rec-append AreLine (head_lines d.form i d.budget ++ pool_lines d.kept d.pool) (plan_lines d.plan d.bound)
    (rec-append AreLine (head_lines d.form i d.budget) (pool_lines d.kept d.pool) (head_good d.form i d.budget h.instance h.budget)
    (pool_good i d.kept d.pool h.instance h.kept h.pool_length h.pool))
    (plan_good i d.plan d.bound h.instance h.plan h.bound))
    (tree_good d.form d.pool i d.tree d.bound (unassigned_count d.plan) h.instance h.pool_length h.leaves h.sound h.causes (omega (arith, h.within, h.budget)))

pub lines_good : (d : Dossier) → IsGood d → All AreLine (lines_of d)
lines_good d h = All-from_recursion AreLine (lines_of d) (all_good d h)
