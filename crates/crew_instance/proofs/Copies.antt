-- a plan that is copied from the first task on
use Rattle.std.proofs.Common.{◌≡◌, ◌<◌, ◌+◌, ◌-◌, ◌++◌, ◌∷◌, ℕ, suc, List, [], length, take, replicate, set, get_or, Option, None, Some, arith, sym, ap, ◌∙◌, append_assoc}
use Rattle.std.proofs.lemmas.List.{take_more, set-append_right, length-take-le}
use Rattle.std.specs.Option.{option_map}
use Rattle.crew_terms.specs.Plan.{Plan, Job, job_of}
use Rattle.crew_instance.specs.Teams.{job_teams}

-- the jobs of the tasks below i, and nothing behind them
abbrev pub copied : Plan → ℕ → Plan
copied p i = take i p ++ replicate (length p - i) None

module _ (p : Plan) (i : ℕ) (l : i < length p) where
  left : length p - i ≡ suc (length p - (i + 1))
  left = omega arith

  opened : copied p i ≡ take i p ++ None ∷ replicate (length p - (i + 1)) None
  opened = ap (λ n. take i p ++ replicate n None) left

  with_next : (o : Option Job) → job_of p i ≡ o → take i p ++ o ∷ replicate (length p - (i + 1)) None ≡ copied p (i + 1)
  with_next o e =
      ap (λ x. take i p ++ x ∷ replicate (length p - (i + 1)) None) (sym e)
      ∙ sym (append_assoc (take i p) (get_or p i None ∷ []) (replicate (length p - (i + 1)) None))
      ∙ ap (λ front. front ++ replicate (length p - (i + 1)) None) (sym (take_more p i None l))

  -- one more task, unassigned or with its job
  pub copied_none : job_of p i ≡ None → copied p i ≡ copied p (i + 1)
  copied_none e = opened ∙ with_next None e

  pub copied_job : (o : Option Job) → job_of p i ≡ o → set (copied p i) i o ≡ copied p (i + 1)
  copied_job o e =
      let long : length (take i p) ≡ i = length-take-le i p (omega arith) in
      let at : i - i ≡ 0 = omega arith in
      ap (λ q. set q i o) opened
      ∙ set-append_right (take i p) (None ∷ replicate (length p - (i + 1)) None) i i o long (omega arith)
      ∙ ap (λ n. take i p ++ set (None ∷ replicate (length p - (i + 1)) None) n o) at
      ∙ with_next o e

-- what is read of a task is its job
pub job_again : (o : Option Job) (start : ℕ) (teams : List ℕ) → option_map (λ (job : Job). job.start) o ≡ Some start → teams ≡ job_teams o → o ≡ Some (record { start = start; teams = teams })
job_again None start teams e f = let x : None ≡ Some start = e in cc
job_again (Some job) start teams e f = let x : Some job.start ≡ Some start = e in let g : job.start ≡ start = cc in (λ k. Some (record { start = g k; teams = sym f k }))
