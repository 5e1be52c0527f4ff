-- schedules to which tasks are added
use Rattle.std.proofs.Common.{◌≡◌, ◌≤◌, ◌<◌, ◌+◌, ◌⊎◌, inl, inr, ℕ, List, length, get_or, None, arith, refl, sym, subst, ap, ◌∙◌}
use Rattle.std.specs.Prelude.{All, ◌↔◌}
use Rattle.std.proofs.lemmas.Bool.{cases_lt}
use Rattle.std.proofs.lemmas.List.Elements.{Contains-get_or}
use Rattle.crew_terms.specs.Instance.{Instance, task_of}
use Rattle.crew_terms.specs.Legal.{IsPacked}
use Rattle.crew_terms.specs.Minutes.{IsListOf}
use Rattle.crew_terms.specs.Plan.{Plan, Job, job_of, unassigned_count}
use Rattle.team_days.specs.Adding.{AreFree, FitsNowhere, IsAddition, Keeps, with_job}
use Rattle.team_days.specs.Free.{IsFreeFor}
use Rattle.plan_builder.specs.Schedules.{Schedule, Begins, Extends, HasRoomAt, IsFilled, IsPackedFrom, IsChoiceOf}
use Rattle.plan_builder.proofs.Listed.{no_longer}

pub extends_self : (s : Schedule) → Extends s s
extends_self s = record { instance = refl; keeps = λ j job e. e; fewer = omega arith }

pub extends_more : (a b c : Schedule) → Extends a b → Extends b c → Extends a c
extends_more a b c first second = record {
  instance = second.instance ∙ first.instance;
  keeps = λ j job e. second.keeps j job (first.keeps j job e);
  fewer = let x = first.fewer in let y = second.fewer in omega arith;
}

-- nothing is done where the tasks that are tried fit nowhere
pub filled_none : (s : Schedule) (Tried : ℕ → Type 0) → ((j : ℕ) → Tried j → FitsNowhere s.instance s.plan j) → IsFilled s s Tried
filled_none s Tried nowhere = record { extends = extends_self s; same = λ _. refl; nowhere = λ _. nowhere }

pub filled_more : (a b c : Schedule) (T U V : ℕ → Type 0) → ((j : ℕ) → V j → T j ⊎ U j) → IsFilled a b T → IsFilled b c U → IsFilled a c V
filled_more a b c T U V split first second = record {
  extends = extends_more a b c first.extends second.extends;
  same = λ e. second.same (later e) ∙ first.same (earlier e);
  nowhere = λ e j v. by e j (split j v);
}
  where
    earlier : unassigned_count c.plan ≡ unassigned_count a.plan → unassigned_count b.plan ≡ unassigned_count a.plan
    earlier e = let x = first.extends.fewer in let y = second.extends.fewer in omega arith

    later : unassigned_count c.plan ≡ unassigned_count a.plan → unassigned_count c.plan ≡ unassigned_count b.plan
    later e = let x = first.extends.fewer in let y = second.extends.fewer in omega arith

    by : unassigned_count c.plan ≡ unassigned_count a.plan → (j : ℕ) → T j ⊎ U j → FitsNowhere c.instance c.plan j
    by e j (inl t) = subst (λ (s : Schedule). FitsNowhere s.instance s.plan j) (sym (second.same (later e))) (first.nowhere (earlier e) j t)
    by e j (inr u) = second.nowhere (later e) j u

-- a task that is assigned can't be added
pub assigned_fits_nowhere : (i : Instance) (p : Plan) (j : ℕ) → (job_of p j ≡ None → ⊥) → FitsNowhere i p j
assigned_fits_nowhere i p j assigned job addition free = assigned addition.unassigned

-- nor can one that is no task
pub unknown_fits_nowhere : (i : Instance) (p : Plan) (j : ℕ) → length i.tasks ≤ j → FitsNowhere i p j
unknown_fits_nowhere i p j unknown job addition free = let l = addition.task in omega arith

-- a task that begins is one less
pub begun : (a b : Schedule) (j : ℕ) → ((job : Job) → Keeps a.plan (with_job a.plan j job))
    → ((job : Job) → unassigned_count (with_job a.plan j job) + 1 ≡ unassigned_count a.plan) → Begins a b j → IsFilled a b (λ h. h ≡ j)
begun a b j keeps count begins = record {
  extends = record {
    instance = ap (λ (s : Schedule). s.instance) begins.is;
    keeps = subst (λ (s : Schedule). Keeps a.plan s.plan) (sym begins.is) (keeps begins.job);
    fewer = let less = one_less in omega arith;
  };
  same = λ e. absurd (let less = one_less in omega arith);
  nowhere = λ e. absurd (let less = one_less in omega arith);
}
  where
    one_less : unassigned_count b.plan + 1 ≡ unassigned_count a.plan
    one_less = subst (λ (s : Schedule). unassigned_count s.plan + 1 ≡ unassigned_count a.plan) (sym begins.is) (count begins.job)

module _ (s : Schedule) (j : ℕ) where
  -- too few teams are free for the task at minute t
  pub record IsShort (t : ℕ) : Type 0 where
    pub free : List ℕ
    pub are : IsListOf (λ k. IsFreeFor s.instance s.plan k j t) free
    pub few : length free < (task_of s.instance j).teams

  -- one more minute of the window
  pub short_more : (t : ℕ) → ((u : ℕ) → (task_of s.instance j).earliest ≤ u → u < t → IsShort u) → IsShort t
      → (u : ℕ) → (task_of s.instance j).earliest ≤ u → u < t + 1 → IsShort u
  short_more t before here u early l = by (cases_lt u t)
    where
      by : (u < t) ⊎ (t ≤ u) → IsShort u
      by (inl m) = before u early m
      by (inr m) = let e : t ≡ u = omega arith in subst IsShort e here

  pub nowhere_from : (t : ℕ) → (task_of s.instance j).latest < t → ((u : ℕ) → (task_of s.instance j).earliest ≤ u → u < t → IsShort u) → FitsNowhere s.instance s.plan j
  nowhere_from t past short job addition free =
      let early = addition.window.early in
      let late = addition.window.late in
      let at : IsShort job.start = short job.start early (omega arith) in
      let long = no_longer at.free job.teams at.are.rising addition.list.rising (λ k c. (at.are.each k).1 (free k c)) in
      let count = addition.list.count in
      let few = at.few in
      omega arith

  -- a choice of the free teams makes a job that may be added
  module _ (t : ℕ) (free chosen : List ℕ) (room : HasRoomAt s j t free) (choice : IsChoiceOf chosen free) where
    job : Job
    job = record { start = t; teams = chosen }

    pub chosen_addition : j < length s.instance.tasks → job_of s.plan j ≡ None → length chosen ≡ (task_of s.instance j).teams → IsAddition s.instance s.plan j (record { start = t; teams = chosen })
    chosen_addition task none count = record {
      task = task;
      unassigned = none;
      window = record { early = room.early; late = room.late };
      list = record { rising = choice.rising; count = count };
    }

    pub chosen_free : AreFree s.instance s.plan j (record { start = t; teams = chosen })
    chosen_free k c = (room.free.each k).0 (choice.each k c)

-- a pass that changes nothing leaves the plan packed
pub packed_from : (i : Instance) (p : Plan) (a b c : Schedule) → a.instance ≡ i → a.plan ≡ p → Extends a b → IsFilled b c (λ h. h < length b.instance.tasks)
    → unassigned_count c.plan ≡ unassigned_count b.plan → (IsPacked c.instance c.plan ↔ ((j : ℕ) → FitsNowhere c.instance c.plan j)) → IsPackedFrom i p c
packed_from i p a b c of_i of_p first second e law = record {
  instance = second.extends.instance ∙ first.instance ∙ of_i;
  keeps = subst (λ x. Keeps x c.plan) of_p both.keeps;
  fewer = subst (λ x. unassigned_count c.plan ≤ unassigned_count x) of_p both.fewer;
  packed = subst (λ x. IsPacked x c.plan) (second.extends.instance ∙ first.instance ∙ of_i) (law.1 (λ j. at j (cases_lt j (length b.instance.tasks))));
}
  where
    both : Extends a c
    both = extends_more a b c first second.extends

    at : (j : ℕ) → (j < length b.instance.tasks) ⊎ (length b.instance.tasks ≤ j) → FitsNowhere c.instance c.plan j
    at j (inl l) = second.nowhere e j l
    at j (inr l) = unknown_fits_nowhere c.instance c.plan j (let same = ap (λ (x : Instance). length x.tasks) second.extends.instance in omega arith)

-- the teams that have room for a task are teams of the instance
pub teams_known : (s : Schedule) (j t : ℕ) (teams : List ℕ) → HasRoomAt s j t teams → All (λ k. k < length s.instance.teams) teams
teams_known s j t teams room x d l = ((room.free.each (get_or teams x d)).0 (Contains-get_or teams x d l)).known
