-- what holds a task up is planned before it
use Rattle.std.proofs.Common.{◌≡◌, ◌<◌, ◌≤◌, ◌+◌, ℕ, List, Option, Some, None, MatchOption, is_some, true, false, length, arith, refl, sym, ap, subst, ◌∙◌}
use Rattle.std.specs.Prelude.{option_and_then}
use Rattle.crew_terms.specs.Instance.{Instance}
use Rattle.crew_terms.specs.Plan.{Plan, Job, job_of, Does}
use Rattle.crew_terms.specs.Legal.{IsLegal}
use Rattle.delay_wave.specs.declared.lates.Late.{Late}
use Rattle.delay_wave.specs.declared.waits.Wait.{Wait}
use Rattle.delay_wave.specs.Delays.{HoldsUp}
use Rattle.delay_wave.specs.Waits.{AreWaits, IsChain, chain_of, chain_within, holder_of, starts_in, wait_of}
use Rattle.delay_wave.proofs.Chains.{chain_is, few_within, rank_falls, rank_in_plan, rank_of}
use Rattle.delay_wave.proofs.Neighbours.{next_is_later}

module _ (i : Instance) (p : Plan) (lates : List Late) (w : List (Option Wait)) (legal : IsLegal i p) (are : AreWaits i p lates w) where
  pub unassigned : (j : ℕ) → job_of p j ≡ None → holder_of w j ≡ None
  unassigned j e = at (wait_of w j) (are.assigned j ∙ ap is_some e)
    where
      at : (o : Option Wait) → is_some o ≡ false → option_and_then (λ (v : Wait). v.held_by) o ≡ None
      at None f = refl
      at (Some v) f = absurd (let x : true ≡ false = f in cc)

  falls : (j h : ℕ) → holder_of w j ≡ Some h → rank_of p h < rank_of p j
  falls j h e = at (job_of p j) refl
    where
      at : (o : Option Job) → job_of p j ≡ o → rank_of p h < rank_of p j
      at None f = absurd (let x : None ≡ Some h = sym (unassigned j f) ∙ e in cc)
      at (Some job) f =
          let m = subst (λ o. MatchOption o (starts_in w j ≡ job.start) (λ g. (job.start < starts_in w j) × HoldsUp i p lates (starts_in w) g j)) e (are.held j job f) in
          let t = m.1.tight in
          let l = next_is_later i p legal.feasible m.1.team h t.planned j t.next_planned t.next in
          let a = t.next.first in let b = t.next.second in
          let x = a.2 in let y = b.2 in
          rank_falls p j h b.0 a.0 b.1 a.1 (omega arith)

  pub whole_chain : (j : ℕ) → IsChain w (chain_of w j) j
  unfolding chain_of
  whole_chain j = chain_is w (rank_of p) falls (length w) j (let r = rank_in_plan p j in let e = are.whole in omega arith)

pub few_in_chain : (w : List (Option Wait)) (j : ℕ) → length (chain_of w j) ≤ length w + 1
unfolding chain_of
few_in_chain w j = few_within w (length w) j
