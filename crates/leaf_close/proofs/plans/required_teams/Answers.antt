use Rattle.std.proofs.Common.{◌∙◌, ap, sym, cond, List, [], ◌∷◌, ◌++◌, ℕ}
use Rattle.std.proofs.lemmas.List.{append-nil}
use Rattle.crew_terms.specs.Limits.{is_required}
use Rattle.leaf_close.proofs.Listing.{listed_more, teams_below}
use Rattle.leaf_close.proofs.plans.required_teams.Goals as goal
use Rattle.leaf_close.proofs.plans.required_teams.Goals.{then-is_required+in_ok-push, else-is_required}

pub loop-k-preserved : goal.loop-k-preserved
loop-k-preserved c =
    let before : List ℕ = teams_below c.args.limits.now.limits c.args.j c.loop-k.k in
    let more = listed_more c.args.limits.now.limits c.args.j c.loop-k.k in
    let pair = c.is_required.ensures ∙ ap is_required c.pair.ensures in
    elim c.if-is_required.branch [
      | then-is_required+in_ok-push w ↦
          ap (λ v. v.items) w.teams-is ∙ w.in_ok-push.ensures.items ∙ ap (λ (xs : List ℕ). xs ++ c.loop-k.k ∷ []) c.loop-k.invariant
          ∙ sym (more ∙ ap (λ b. before ++ cond b (c.loop-k.k ∷ []) []) (sym pair ∙ w.if-is_required.true))
      | else-is_required w ↦
          ap (λ v. v.items) w.teams-is ∙ c.loop-k.invariant
          ∙ sym (more ∙ ap (λ b. before ++ cond b (c.loop-k.k ∷ []) []) (sym pair ∙ w.if-is_required.false) ∙ append-nil before)
    ]
