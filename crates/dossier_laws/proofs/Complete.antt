-- the lines of a good dossier end it
use Rattle.std.proofs.Common.{List, [], ◌∷◌, ◌++◌, sym, refl, subst, arith, inl, inr}
use Rattle.dossier_terms.specs.Dossier.{Dossier, IsGood}
use Rattle.crew_terms.specs.Limits.{root_limits}
use Rattle.crew_terms.specs.Words.{Words}
use Rattle.dossier_terms.specs.Lines.{lines_of, head_lines, pool_lines, plan_lines, tree_lines, node_lines, end_line, counts_of}
use Rattle.dossier_terms.specs.Reading.{Reading, Form, Pools, Plans, Trees, Nodes, Ends, Begun}
use Rattle.dossier_terms.specs.Rules.{Holds, Spelled, On}
use Rattle.dossier_terms.specs.Table.{Reaches, Ended, Finish}
use Rattle.dossier_terms.specs.Ranges.{IsCounts}
use Rattle.dossier_terms.specs.BodyTable.{begin}
use Rattle.dossier_terms.specs.Counted.{leaves_of, depth_le}
use Rattle.dossier_laws.proofs.HeadWrites.{head_reached}
use Rattle.dossier_laws.proofs.Pool.{pool_reached}
use Rattle.dossier_laws.proofs.Plan.{plan_reached}
use Rattle.dossier_laws.proofs.NodeWrites.{tree_reached}
use Rattle.dossier_laws.proofs.Rules.{reaches-append}

ended-append : (s : Reading) (xs : List Words) (m : Reading) (ys : List Words) (d : Dossier) → Reaches s xs m → Ended m ys d → Ended s (xs ++ ys) d
ended-append s [] m ys d h k = subst (λ z. Ended z ys d) (sym h) k
ended-append s (x ∷ xs) m ys d h k = inr (h.0, h.1, ended-append h.0 xs m ys d h.2 k)

pub good_ended : (d : Dossier) → IsGood d → Ended Form (lines_of d) d
good_ended d h =
    let b : Begun = record { form = d.form; instance = d.instance; budget = d.budget; kept = d.kept; pool = d.pool; plan = d.plan; bound = d.bound } in
    let t = d.tree in
    let c = counts_of t in
    let plans = Plans (record (begin d.form d.instance d.budget d.kept) { pool = d.pool }) in
    let leaves = leaves_of t in
    let deep = depth_le t in
    let head = head_reached d.form d.instance d.budget (record { instance = h.instance; frozen = h.frozen; budget = h.budget }) in
    let pool = pool_reached d.form d.instance d.budget d.kept d.pool h.instance h.kept h.pool_length h.pool h.differ in
    let plan = plan_reached b h.instance h.plan h.bound in
    let nodes = tree_reached b c t h.instance (h.leaves, h.sound, h.causes) (record { splits_fit = omega arith; closed_fit = omega arith; open_fit = omega arith; depth_fit = omega arith }) in
    let ranges : IsCounts c = record { splits = omega (arith, h.within, h.budget); closed = omega (arith, h.within, h.budget); left_open = omega (arith, h.within, h.budget); depth = omega (arith, h.within, h.budget) } in
    ended-append Form (head_lines d.form d.instance d.budget ++ pool_lines d.kept d.pool ++ plan_lines d.plan d.bound) (Trees b) (tree_lines d.form d.instance t) d
    (reaches-append Form (head_lines d.form d.instance d.budget ++ pool_lines d.kept d.pool) plans (plan_lines d.plan d.bound) (Trees b)
    (reaches-append Form (head_lines d.form d.instance d.budget) (Pools d.form d.instance d.budget) (pool_lines d.kept d.pool) plans head pool)
    plan)
    (inr (
      Nodes b c [],
      Holds (_, refl, refl) (Spelled c ranges refl (Holds leaves (Holds h.within (Holds h.spent (On refl))))),
      ended-append (Nodes b c []) (node_lines d.form (root_limits d.instance) t) (Ends b c t) (end_line ∷ []) d nodes (inl (Holds refl (Holds refl (Finish refl)), refl)),
    ))
