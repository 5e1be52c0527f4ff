-- a plan has one list of waits
use Rattle.std.proofs.Common.{◌≡◌, ◌≢◌, ◌<◌, ◌≤◌, ◌⊎◌, inl, inr, ℕ, zero, suc, List, [], ◌∷◌, Option, Some, None, MatchOption, is_some, true, false, length, get_or, arith, refl, sym, ap, subst, ◌∙◌}
use Rattle.std.specs.Prelude.{option_and_then}
use Rattle.std.proofs.lemmas.Bool.{cases_eq}
use Rattle.crew_terms.specs.Instance.{Instance}
use Rattle.crew_terms.specs.Plan.{Plan, Job, job_of, Does}
use Rattle.crew_terms.specs.Legal.{IsLegal}
use Rattle.crew_terms.specs.Nodes.{task_known}
use Rattle.crew_terms.specs.Verdict.{IsNext}
use Rattle.delay_wave.specs.declared.lates.Late.{Late}
use Rattle.delay_wave.specs.declared.waits.Wait.{Wait}
use Rattle.delay_wave.specs.Delays.{HoldsUp}
use Rattle.delay_wave.specs.Waits.{AreWaits, holder_of, starts_in, wait_of}
use Rattle.delay_wave.proofs.Neighbours.{next_is_later, sooner}
use Rattle.delay_wave.proofs.SoFar.{start_is, still_held}
use Rattle.delay_wave.proofs.Tight.{unassigned}

-- lists of one length that agree at each place are one
same_lists : {A : Type 0} (xs ys : List (Option A)) → length xs ≡ length ys → ((j : ℕ) → get_or xs j None ≡ get_or ys j None) → xs ≡ ys
same_lists [] [] e h = refl
same_lists [] (y ∷ ys) e h = absurd (omega arith)
same_lists (x ∷ xs) [] e h = absurd (omega arith)
same_lists (x ∷ xs) (y ∷ ys) e h = let a = h 0 in let b = same_lists xs ys (omega arith) (λ j. h (suc j)) in cc

module _ (i : Instance) (p : Plan) (lates : List Late) (legal : IsLegal i p) where
  -- a task has one task before it in a team
  one_before : (k g s h t j u r : ℕ) → IsNext p k g s j u → IsNext p k h t j r → g ≡ h
  one_before k g s h t j u r a b = elim (cases_eq g h) [ inl e ↦ e | inr ne ↦ absurd (at ne (sooner i p legal.feasible k g s h t a.first b.first ne)) ]
    where
      la : s < u
      la = next_is_later i p legal.feasible k g s j u a

      lb : t < r
      lb = next_is_later i p legal.feasible k h t j r b

      same : u ≡ r
      same = let x = a.second.1 in let y = b.second.1 in let z : Some a.second.0 ≡ Some b.second.0 = sym x ∙ y in
          let w : a.second.0 ≡ b.second.0 = cc in sym a.second.2 ∙ ap (λ (o : Job). o.start) w ∙ b.second.2

      at : g ≢ h → (s < t) ⊎ (t < s) → ⊥
      at ne (inl l) = let e = same in let m = lb in a.none_between h t b.first (inl l) (inl (omega arith))
      at ne (inr l) = let e = same in let m = la in b.none_between g s a.first (inl l) (inl (omega arith))

  one_holder : (x : ℕ → ℕ) (g h j : ℕ) → HoldsUp i p lates x g j → HoldsUp i p lates x h j → g ≡ h
  one_holder x g h j a b =
      let l = a.lowest b.team h b.tight in
      let m = b.lowest a.team g a.tight in
      let e : b.team ≡ a.team = omega arith in
      let n = subst (λ k. IsNext p k h b.tight.planned j b.tight.next_planned) e b.tight.next in
      one_before a.team g a.tight.planned h b.tight.planned j a.tight.next_planned b.tight.next_planned a.tight.next n

  module _ (w v : List (Option Wait)) (a : AreWaits i p lates w) (b : AreWaits i p lates v) where
    same_start : (j : ℕ) (job : Job) → job_of p j ≡ Some job → starts_in w j ≡ starts_in v j
    same_start j job e =
        let l = a.earliest.least (starts_in v) b.earliest.fit j job e in
        let m = b.earliest.least (starts_in w) a.earliest.fit j job e in omega arith

    -- where the task is assigned, what is told of it
    module _ (j : ℕ) (job : Job) (e : job_of p j ≡ Some job) where
      in_both : (g : ℕ) → HoldsUp i p lates (starts_in v) g j → HoldsUp i p lates (starts_in w) g j
      in_both g up =
          still_held i p lates (starts_in v) (starts_in w) g j (sym (same_start j job e))
          (λ k f s u next. sym (same_start f next.first.0 next.first.1)) up

      same_holder : (o q : Option ℕ) → MatchOption o (starts_in w j ≡ job.start) (λ h. (job.start < starts_in w j) × HoldsUp i p lates (starts_in w) h j)
          → MatchOption q (starts_in v j ≡ job.start) (λ h. (job.start < starts_in v j) × HoldsUp i p lates (starts_in v) h j) → o ≡ q
      same_holder None None x y = refl
      same_holder None (Some h) x (y, up) = absurd (let s = same_start j job e in omega arith)
      same_holder (Some g) None (x, up) y = absurd (let s = same_start j job e in omega arith)
      same_holder (Some g) (Some h) (x, up) (y, to) = ap Some (one_holder (starts_in w) g h j up (in_both h to))

      same_wait : (o q : Option Wait) → wait_of w j ≡ o → wait_of v j ≡ q → o ≡ q
      same_wait None q f g = absurd (let x : true ≡ false = sym (ap is_some e) ∙ sym (a.assigned j) ∙ ap is_some f in cc)
      same_wait (Some c) None f g = absurd (let x : true ≡ false = sym (ap is_some e) ∙ sym (b.assigned j) ∙ ap is_some g in cc)
      same_wait (Some c) (Some d) f g =
          let s : c.start ≡ d.start = sym (start_is w j c f) ∙ same_start j job e ∙ start_is v j d g in
          let x : holder_of w j ≡ c.held_by = ap (option_and_then (λ (z : Wait). z.held_by)) f in
          let y : holder_of v j ≡ d.held_by = ap (option_and_then (λ (z : Wait). z.held_by)) g in
          let h : c.held_by ≡ d.held_by = sym x ∙ same_holder (holder_of w j) (holder_of v j) (a.held j job e) (b.held j job e) ∙ y in
          let z : c ≡ d = both c d s h in ap Some z
        where
          both : (c d : Wait) → c.start ≡ d.start → c.held_by ≡ d.held_by → c ≡ d
          both c d s h = let z : record { start = c.start; held_by = c.held_by } ≡ d = rw (s, h) refl in z

    at : (j : ℕ) (o : Option Job) → job_of p j ≡ o → wait_of w j ≡ wait_of v j
    at j (Some job) e = same_wait j job e (wait_of w j) (wait_of v j) refl refl
    at j None e = none (wait_of w j) (wait_of v j) (a.assigned j ∙ ap is_some e) (b.assigned j ∙ ap is_some e)
      where
        none : (o q : Option Wait) → is_some o ≡ false → is_some q ≡ false → o ≡ q
        none None None f g = refl
        none (Some c) q f g = absurd (let x : true ≡ false = f in cc)
        none None (Some d) f g = absurd (let x : true ≡ false = g in cc)

    pub one_list : w ≡ v
    one_list = same_lists w v (a.whole ∙ sym b.whole) (λ j. at j (job_of p j) refl)

  -- what holds a task up is a task
  pub holder_known : (w : List (Option Wait)) → AreWaits i p lates w → (j h : ℕ) → holder_of w j ≡ Some h → h < length p
  holder_known w are j h e = by (job_of p j) refl
    where
      by : (o : Option Job) → job_of p j ≡ o → h < length p
      by None f = absurd (let x : None ≡ Some h = sym (unassigned i p lates w legal are j f) ∙ e in cc)
      by (Some job) f =
          let m = subst (λ o. MatchOption o (starts_in w j ≡ job.start) (λ g. (job.start < starts_in w j) × HoldsUp i p lates (starts_in w) g j)) e (are.held j job f) in
          let t = m.1.tight in task_known p m.1.team h t.planned t.next.first
