use Rattle.std.proofs.Common.{◌≡◌, true, false, ℤ, ◌∙◌, FitsSigned, rules, to_z, of_z}
use Rattle.std.specs.Int.{w128}
use Rattle.std.proofs.lemmas.Int.{to_z-of_z}
use Rattle.crew_terms.specs.Leaf.{bound_of}
use Rattle.dossier_terms.specs.Dossier.{prices_of, worths_of}
use Rattle.dossier_terms.specs.Reading.{limits_of}
use Rattle.leaf_check.proofs.Told.{bound_at, bound_fails, closed_fails, leaf_ends}
use Rattle.leaf_check.proofs.reader.LeafReader.judge_bound.Goals as goal
use Rattle.leaf_check.proofs.reader.LeafReader.judge_bound.Goals.{else-goal-via-then-goal+else-not-proves-2, else-goal-via-else-goal}

pub returns-then-not-proves : goal.returns-then-not-proves
returns-then-not-proves c = λ a leaf g read count.
    let n = c.args.limits.now.limits in
    let r = c.args.self.now in
    let fits : FitsSigned w128 c.bound-proved.result = search rules in
    let x : ℤ = to_z w128 (of_z w128 c.bound-proved.result) in
    let is : x ≡ bound_of (limits_of a) (prices_of (limits_of a) leaf) (worths_of leaf) =
    to_z-of_z w128 c.bound-proved.result fits ∙ c.bound-proved.ensures ∙ bound_at a n r leaf c.deref.result.now g.limits read count c.requires.worths c.deref.ensures.value in
    bound_fails a n r leaf c.args.goal.bound c.args.goal.unassigned c.args.goal.is_closed g.limits g.bound g.unassigned g.is_closed x is
    (λ h. let t : c.proves.result ≡ true = c.proves.ensures.1 h in let f : c.proves.result ≡ false = c.if-not-proves.true in cc)

pub returns-then-not-proves-2 : goal.returns-then-not-proves-2
returns-then-not-proves-2 c = λ a leaf g read count.
    let n = c.args.limits.now.limits in
    let r = c.args.self.now in
    let fits : FitsSigned w128 c.bound-proved.result = search rules in
    let x : ℤ = to_z w128 (of_z w128 c.bound-proved.result) in
    let is : x ≡ bound_of (limits_of a) (prices_of (limits_of a) leaf) (worths_of leaf) =
    to_z-of_z w128 c.bound-proved.result fits ∙ c.bound-proved.ensures ∙ bound_at a n r leaf c.deref.result.now g.limits read count c.requires.worths c.deref.ensures.value in
    closed_fails a n r leaf c.args.goal.bound c.args.goal.unassigned c.args.goal.is_closed g.limits g.bound g.unassigned g.is_closed x is
    (c.proves.ensures.0 c.if-not-proves.false) c.if-goal.true
    (λ h. let t : c.proves-then-goal.result ≡ true = c.proves-then-goal.ensures.1 h in let f : c.proves-then-goal.result ≡ false = c.if-not-proves-2.true in cc)

pub returns : goal.returns
returns c = λ a leaf g read count.
    let n = c.args.limits.now.limits in
    let r = c.args.self.now in
    let fits : FitsSigned w128 c.bound-proved.result = search rules in
    let x : ℤ = to_z w128 (of_z w128 c.bound-proved.result) in
    let is : x ≡ bound_of (limits_of a) (prices_of (limits_of a) leaf) (worths_of leaf) =
    to_z-of_z w128 c.bound-proved.result fits ∙ c.bound-proved.ensures ∙ bound_at a n r leaf c.deref.result.now g.limits read count c.requires.worths c.deref.ensures.value in
    leaf_ends a n r leaf c.args.goal.bound c.args.goal.unassigned c.args.goal.is_closed g.limits g.bound g.unassigned g.is_closed x is
    (c.proves.ensures.0 c.if-not-proves.false)
    (λ t. elim c.else-goal.branch [
      | else-goal-via-then-goal+else-not-proves-2 w ↦ w.proves-then-goal.ensures.0 w.if-not-proves-2.false
      | else-goal-via-else-goal w ↦ absurd (let f : c.args.goal.is_closed ≡ false = w.if-goal.false in cc)
    ])
