use Rattle.std.proofs.Common.{ℕ, pos, List, [], ◌∷◌, ◌++◌, Option, get_or, take, sym, subst}
use Rattle.std.proofs.lemmas.List.{take_more}
use Rattle.crew_terms.specs.Limits.{Limits}
use Rattle.branch_choice.specs.Uses.{IsPermittedUse}
use Rattle.branch_choice.specs.declared.uses.Use.{Use}
use Rattle.branch_choice.proofs.UsedPairs.{IsLowestOf, not_free, taken, kept}
use Rattle.branch_choice.proofs.pairs.used_pair.Goals as goal
use Rattle.branch_choice.proofs.pairs.used_pair.Goals.{then-is_free+then-is_lower, else-is_free, else-is_free-via-then-is_free+else-is_lower, else-is_free-via-else-is_free}

pub loop-u-preserved : goal.loop-u-preserved
loop-u-preserved c =
    subst (λ (xs : List Use). IsLowestOf n xs c.if-is_free.lowest) (sym (take_more uses i none c.loop-u-test.true)) (
    elim c.if-is_free.branch [
      | then-is_free+then-is_lower w ↦ subst (λ (o : Option (ℕ × ℕ)). IsLowestOf n more o) (sym w.lowest-is) (taken n before u c.loop-u.lowest (record { team = permitted.team; task = permitted.visit.known; free = c.is_free.ensures.0 w.if-is_free.true }) w.if-is_lower.ensures c.loop-u.invariant)
      | else-is_free w ↦ subst (λ (o : Option (ℕ × ℕ)). IsLowestOf n more o) (sym w.lowest-is) (
          elim w.else-is_free.branch [
            | else-is_free-via-then-is_free+else-is_lower v ↦ kept n before u c.loop-u.lowest v.if-is_lower.ensures c.loop-u.invariant
            | else-is_free-via-else-is_free v ↦ not_free n before u c.loop-u.lowest (λ is. let e = c.is_free.ensures.1 is.free in let f = v.if-is_free.false in absurd (cc)) c.loop-u.invariant
          ])
    ])
  where
    none : Use
    none = record { team = 0; task = 0; start = 0; num = pos 0 }

    uses : List Use
    uses = c.args.uses.now

    n : Limits
    n = c.args.limits.now.limits

    i : ℕ
    i = c.loop-u.u-index

    u : Use
    u = get_or uses i none

    before : List Use
    before = take i uses

    more : List Use
    more = before ++ u ∷ []

    permitted : IsPermittedUse n u
    permitted = c.requires i none c.loop-u-test.true
