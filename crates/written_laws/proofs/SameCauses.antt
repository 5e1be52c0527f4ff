-- what a dossier tells of a cause is what the search has of it
use Rattle.std.proofs.Common.{◌≡◌, ◌∙◌, ◌∷◌, [], ℕ, List, Option, Some, ap, map, refl}
use Rattle.std.specs.Prelude.{unsigned_abs}
use Rattle.crew_terms.specs.Limits.{Route}
use Rattle.node_solver.specs.Causes.{cause_of}
use Rattle.node_solver.specs.declared.step.Why.{Why}
use Rattle.node_solver.specs.declared.step.Why.TheVariants as whys
use Rattle.search_core.specs.Searching.{split_cause}
use Rattle.search_core.specs.declared.causes.Cause.{Cause}
use Rattle.search_terms.specs.Earned.{Loose as LooseAt}
use Rattle.search_terms.specs.SearchTree.{SplitCause}
use Rattle.share_terms.specs.Shares.{Share as RouteShare}
use Rattle.written_laws.proofs.Told.{told_shares}
use Rattle.written_laws.specs.Told.{Tell, split_cause_in, told_of, told_why}

module _ (pool : List Route) where
  why_tells : (now : ℕ) (why : Why) → split_cause_in pool (told_why now why) ≡ Some (record { now = now; why = cause_of pool why })
  why_tells now (whys.Loose den shares left_open) =
      ap (λ (xs : List RouteShare). Some (record { now = now; why = LooseAt (record { whole = unsigned_abs den; shares = xs; unassigned = map unsigned_abs left_open }) }))
      (told_shares pool shares)
  why_tells now (whys.Overflow fault) = refl
  why_tells now whys.Spent = refl

  pub causes_tell : (causes : List Cause) → Tell pool (map told_of causes) (map (split_cause pool) causes)
  causes_tell [] = refl
  causes_tell (c ∷ causes) =
      ap (λ (s : Option SplitCause). s ∷ map (split_cause_in pool) (map told_of causes)) (why_tells c.now c.why)
      ∙ ap (λ (ss : List (Option SplitCause)). Some (split_cause pool c) ∷ ss) (causes_tell causes)
