-- the frozen jobs: what is read is their lines, and feasible; and the lines of feasible ones are read
use Rattle.std.proofs.Common.{◌≡◌, ◌<◌, ◌≤◌, ◌+◌, ℕ, zero, suc, [], ◌∷◌, ◌++◌, length, set, ap, sym, refl, ◌∙◌, subst, arith, append_assoc, length-append, None, Some}
use Rattle.std.proofs.Math.Seq.{get_or-append_seam, set-append_seam}
use Rattle.std.specs.Prelude.{map, slice_set}
use Rattle.std.proofs.lemmas.List.{length-replicate, get_or-set_other, length-set}
use Rattle.crew_terms.specs.Words.{Words}
use Rattle.crew_terms.specs.Instance.{Instance}
use Rattle.crew_terms.specs.Rules.{IsInstance}
use Rattle.crew_terms.specs.Plan.{Plan, empty_plan, job_of}
use Rattle.crew_terms.specs.Legal.{IsFeasible}
use Rattle.crew_terms.specs.EmptyPlan.{job_none, empty_feasible}
use Rattle.dossier_terms.specs.declared.DossierForm.{DossierForm}
use Rattle.dossier_terms.specs.declared.DossierForm.TheVariants.{One, Two}
use Rattle.dossier_terms.specs.declared.Size.{Size}
use Rattle.dossier_terms.specs.Dossier.{FitsForm}
use Rattle.dossier_terms.specs.Lines.{form_line, place_line, travel_line, team_line, task_line, frozen_line, keep_line, instance_lines, frozen_lines, jobs_from}
use Rattle.dossier_terms.specs.Reading.{Reading, Answer, More, Opening, Frozens, Keeps, Pools, keeps_due, tasks_done}
use Rattle.dossier_terms.specs.Rules.{Holds, Spelled, On}
use Rattle.dossier_terms.specs.HeadTable.{CanFreeze, frozen_row, after_keep, keep_row}
use Rattle.dossier_terms.specs.Table.{Reaches}
use Rattle.dossier_laws.proofs.SoFar.{head_so_far, keeps_lines, AreKeeps, IsUnfrozen, IsReading, spelled, Follows}
use Rattle.dossier_laws.proofs.Jobs.{jobs_count, jobs_none, jobs_set, no_jobs, do_fits}
use Rattle.dossier_laws.proofs.Lists.{map_more}
use Rattle.dossier_laws.proofs.HeadReads.{parts_whole, times_whole, size_is}
use Rattle.dossier_laws.proofs.Rules.{must_then, spells_then, goes_then}

-- ---- what is read

due_keeps : (o : Opening) (k from : ℕ) (i : Instance) → AreKeeps o k from i → (k ≡ 0 → IsFeasible i i.frozen) → (spelled (keeps_due o k from i) ≡ keeps_lines o k i) × IsReading (keeps_due o k from i)
due_keeps o zero from i h feasible =
    let rest = map place_line i.places ++ map travel_line i.travel ++ map team_line i.teams ++ map task_line i.tasks in
    let jobs = jobs_from 0 i.frozen in (
      ap (λ form. form_line o.form ∷ (instance_lines i o.size.nodes ++ frozen_lines form i.frozen)) h.form
          ∙ ap (λ line. form_line o.form ∷ ((line ∷ rest) ++ frozen_line (length jobs) ∷ map keep_line jobs)) (sym h.size)
          ∙ ap (λ n. head_so_far o i ++ frozen_line n ∷ map keep_line jobs) (let e : length jobs ≡ length jobs + 0 = omega arith in e),
      record { instance = record { parts = h.parts; times = h.times; frozen = feasible refl }; frozen = subst (λ form. FitsForm form i) (sym h.form) tt; budget = h.nodes },
    )
due_keeps o (suc k) from i h feasible = (refl, h)

pub frozen_follows : (o : Opening) (i : Instance) (ws : Words) (said : Answer) → IsUnfrozen o i → frozen_row o i ws said → Follows (Frozens o i) ws said
frozen_follows o i ws said r h = must_then s ws said (λ shape g.
    spells_then s ws said (λ count most e g.
    let n : ℕ = length i.tasks in
    let none : jobs_from 0 i.frozen ≡ [] = ap (jobs_from 0) r.part.frozen ∙ jobs_none 0 n in
    let zero_jobs : length (jobs_from 0 i.frozen) ≡ 0 = ap length none in
    let keeps : AreKeeps o count 0 i = record {
      parts = parts_whole o i r.part r.read;
      times = times_whole o i r.part r.read;
      size = size_is o i r.read;
      nodes = r.part.size.nodes;
      form = r.form;
      whole = ap length r.part.frozen ∙ length-replicate n None;
      later = λ j l. ap (λ p. job_of p j) r.part.frozen ∙ job_none n j;
      count = omega arith;
    } in
    let due = due_keeps o count 0 i keeps (λ z. subst (IsFeasible i) (sym r.part.frozen) (empty_feasible i)) in
    goes_then s ws said (
      due.0 ∙ ap (λ m. head_so_far o i ++ frozen_line m ∷ map keep_line (jobs_from 0 i.frozen)) (let q : length (jobs_from 0 i.frozen) + count ≡ count = omega arith in q)
          ∙ ap (λ js. head_so_far o i ++ frozen_line count ∷ map keep_line js) none
          ∙ ap (λ w. head_so_far o i ++ w ∷ []) (sym e),
      due.1,
    ) g) g) h
  where
    s : Reading
    s = Frozens o i

after_follows : (s : Reading) (ws : Words) (said : Answer) (o : Opening) (k from : ℕ) (i : Instance) → ((k ≡ 0 → IsFeasible i i.frozen) → Follows s ws (More (keeps_due o k from i)))
    → after_keep o k from i said → Follows s ws said
after_follows s ws said o zero from i f h = must_then s ws said (λ feasible g. goes_then s ws said (f (λ z. feasible)) g) h
after_follows s ws said o (suc k) from i f h = goes_then s ws said (f (λ z. absurd (omega arith))) h

pub keep_follows : (o : Opening) (k from : ℕ) (i : Instance) (ws : Words) (said : Answer) → AreKeeps o (suc k) from i → keep_row o k from i ws said → Follows (Keeps o k from i) ws said
keep_follows o k from i ws said r h = must_then s ws said (λ shape g.
    spells_then s ws said (λ p is e g.
    must_then s ws said (λ later g.
    must_then s ws said (λ can g.
    let c : Instance = record i { frozen = slice_set i.frozen p.0 (Some p.1) } in
    let in_plan : p.0 < length i.frozen = omega (arith, is.task, r.whole) in
    let jobs : jobs_from 0 c.frozen ≡ jobs_from 0 i.frozen ++ p ∷ [] =
    jobs_set 0 i.frozen p.0 p.1 (λ j l. r.later j (omega arith)) in_plan ∙ ap (λ o. jobs_from 0 i.frozen ++ (o, p.1) ∷ []) (let q : 0 + p.0 ≡ p.0 = omega arith in q) in
    let more : length (jobs_from 0 c.frozen) ≡ length (jobs_from 0 i.frozen) + 1 = ap length jobs ∙ length-append (jobs_from 0 i.frozen) (p ∷ []) in
    let keeps : AreKeeps o k (suc p.0) c = record {
      parts = r.parts;
      times = r.times;
      size = r.size;
      nodes = r.nodes;
      form = r.form;
      whole = length-set i.frozen p.0 (Some p.1) ∙ r.whole;
      later = λ j l. get_or-set_other i.frozen p.0 j (Some p.1) None (λ q. absurd (omega arith)) ∙ r.later j (omega arith);
      count = omega (arith, r.count);
    } in
    let n : length (jobs_from 0 c.frozen) + k ≡ length (jobs_from 0 i.frozen) + suc k = omega arith in
    after_follows s ws said o k (suc p.0) c (λ feasible.
    let due = due_keeps o k (suc p.0) c keeps feasible in (
      due.0 ∙ ap (λ m. head_so_far o i ++ frozen_line m ∷ map keep_line (jobs_from 0 c.frozen)) n
          ∙ ap (λ js. head_so_far o i ++ frozen_line (length (jobs_from 0 i.frozen) + suc k) ∷ map keep_line js) jobs
          ∙ map_more keep_line (head_so_far o i) (frozen_line (length (jobs_from 0 i.frozen) + suc k)) (jobs_from 0 i.frozen) p
          ∙ ap (λ w. spelled s ++ w ∷ []) (sym e),
      due.1,
    )) g) g) g) g) h
  where
    s : Reading
    s = Keeps o k from i

-- ---- what is written

after_holds : (o : Opening) (k from : ℕ) (i : Instance) → (k ≡ 0 → IsFeasible i i.frozen) → after_keep o k from i (More (keeps_due o k from i))
after_holds o zero from i h = Holds (h refl) (On refl)
after_holds o (suc k) from i h = On refl

keeps_reached : (o : Opening) (i : Instance) → IsInstance i → (done q : Plan) (from : ℕ) → i.frozen ≡ done ++ q → from ≤ length done
    → Reaches (keeps_due o (length (jobs_from (length done) q)) from (record i { frozen = done ++ empty_plan (length q) })) (map keep_line (jobs_from (length done) q)) (Pools o.form i o.size.nodes)
keeps_reached o i w done [] from e l = ap (λ p. Pools o.form (record i { frozen = p }) o.size.nodes) (sym e)
keeps_reached o i w done (None ∷ q) from e l =
    let n : length (done ++ None ∷ []) ≡ suc (length done) = omega (arith, length-append done (None ∷ [])) in
    let a = keeps_reached o i w (done ++ None ∷ []) q from (e ∙ sym (append_assoc done (None ∷ []) q)) (omega arith) in
    subst (λ m. Reaches (keeps_due o (length (jobs_from m q)) from (record i { frozen = done ++ None ∷ empty_plan (length q) })) (map keep_line (jobs_from m q)) (Pools o.form i o.size.nodes)) n
    (subst (λ p. Reaches (keeps_due o (length (jobs_from (length (done ++ None ∷ [])) q)) from (record i { frozen = p })) (map keep_line (jobs_from (length (done ++ None ∷ [])) q)) (Pools o.form i o.size.nodes))
    (append_assoc done (None ∷ []) (empty_plan (length q))) a)
keeps_reached o i w done (Some job ∷ q) from e l =
    let n : length (done ++ Some job ∷ []) ≡ suc (length done) = omega (arith, length-append done (Some job ∷ [])) in
    let k : ℕ = length (jobs_from (suc (length done)) q) in
    let c : Instance = record i { frozen = set (done ++ None ∷ empty_plan (length q)) (length done) (Some job) } in
    let placed : c.frozen ≡ done ++ Some job ∷ empty_plan (length q) = set-append_seam done None (empty_plan (length q)) (Some job) in
    let here : job_of i.frozen (length done) ≡ Some job = ap (λ p. job_of p (length done)) e ∙ get_or-append_seam done (Some job) q None in
    let in_plan : length done < length i.frozen = omega (arith, ap length e, length-append done (Some job ∷ q)) in
    let fits = w.frozen.jobs (length done) job here in
    let can : CanFreeze (record i { frozen = done ++ None ∷ empty_plan (length q) }) (length done, job) = record {
      window = record { early = fits.window.early; late = fits.window.late };
      list = record { rising = fits.list.rising; count = fits.list.count };
    } in
    let last : k ≡ 0 → IsFeasible c c.frozen = λ (z : k ≡ 0).
    subst (λ p. IsFeasible (record i { frozen = p }) p) (e ∙ ap (λ w. done ++ Some job ∷ w) (no_jobs (suc (length done)) q z) ∙ sym placed) w.frozen in
    let a = keeps_reached o i w (done ++ Some job ∷ []) q (suc (length done)) (e ∙ sym (append_assoc done (Some job ∷ []) q)) (omega arith) in (
      keeps_due o k (suc (length done)) c,
      Holds (_, refl, omega arith) (Spelled (length done, job) (do_fits i i.frozen (length done) job w w.frozen here in_plan) refl
          (Holds l (Holds can (after_holds o k (suc (length done)) c last)))),
      subst (λ p. Reaches (keeps_due o k (suc (length done)) (record i { frozen = p })) (map keep_line (jobs_from (suc (length done)) q)) (Pools o.form i o.size.nodes)) (sym placed)
          (subst (λ m. Reaches (keeps_due o (length (jobs_from m q)) (suc (length done)) (record i { frozen = done ++ Some job ∷ empty_plan (length q) })) (map keep_line (jobs_from m q)) (Pools o.form i o.size.nodes)) n
          (subst (λ p. Reaches (keeps_due o (length (jobs_from (length (done ++ Some job ∷ [])) q)) (suc (length done)) (record i { frozen = p })) (map keep_line (jobs_from (length (done ++ Some job ∷ [])) q)) (Pools o.form i o.size.nodes))
          (append_assoc done (Some job ∷ []) (empty_plan (length q))) a)),
    )

-- from behind the last task on
pub frozen_reached : (form : DossierForm) (z : Size) (i : Instance) → IsInstance i → FitsForm form i
    → Reaches (tasks_done form z (record i { frozen = empty_plan (length i.tasks) })) (frozen_lines form i.frozen) (Pools form i z.nodes)
frozen_reached One z i w fits = ap (λ p. Pools One (record i { frozen = p }) z.nodes) (sym fits)
frozen_reached Two z i w fits =
    let o : Opening = record { form = Two; size = z } in
    let count : ℕ = length (jobs_from 0 i.frozen) in
    let all = jobs_count 0 i.frozen in
    let few : count ≤ length i.tasks = omega (arith, w.frozen.whole) in (
      keeps_due o count 0 (record i { frozen = empty_plan (length i.tasks) }),
      Holds (_, refl, refl) (Spelled count few refl (On refl)),
      subst (λ n. Reaches (keeps_due o count 0 (record i { frozen = empty_plan n })) (map keep_line (jobs_from 0 i.frozen)) (Pools Two i z.nodes)) w.frozen.whole
          (keeps_reached o i w [] i.frozen 0 refl (omega arith)),
    )
