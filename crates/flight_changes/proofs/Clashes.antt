-- the tests of the tasks of a team tell which can't follow, and which such is the first
use Rattle.std.proofs.Common.{◌≡◌, ◌≤◌, ◌<◌, ◌+◌, ◌⊎◌, inl, inr, ℕ, true, false, length, ap, refl, sym, subst, ◌∙◌, arith, Option, None, Some}
use Rattle.std.specs.Prelude.{◌&&◌, Contains, not}
use Rattle.std.specs.Bool.{Decides}
use Rattle.std.proofs.lemmas.Bool.{cases_lt}
use Rattle.std.proofs.lemmas.Bool.Decides.{Decides-and, Decides-or, Decides-not, Decides-eqb, Decides-like, Decides-ltb}
use Rattle.crew_terms.specs.Instance.{Instance, task_of, minutes_between, CanFollow}
use Rattle.crew_terms.specs.Plan.{Plan, Job, job_of, Does}
use Rattle.crew_terms.specs.Verdict.{IsBefore, IsNext, IsFirstClash}
use Rattle.crew_terms.specs.Nodes.{task_known}
use Rattle.day_terms.specs.Faulty.{start_of, has, precedes, is_next, can_follow, clashes, is_first_clash}
use Rattle.flight_changes.proofs.FirstOf.{any_decides}
use Rattle.flight_changes.proofs.GoodJobs.{among_decides, le_decides}

-- team k is one of the job's, which begins at minute t
abbrev HasAt : ℕ → Option Job → ℕ → Type 0
HasAt k o t = (job : Job) × (o ≡ Some job) × (job.start ≡ t) × Contains job.teams k

has_decides : (k : ℕ) (o : Option Job) → Decides (has k o) (HasAt k o (start_of o))
has_decides k None = ((λ e. absurd (let f : false ≡ true = e in cc)), (λ h. absurd (let f : None ≡ Some h.0 = h.1 in cc)))
has_decides k (Some job) = ((λ e. (job, refl, refl, (among_decides k job.teams).0 e)), back)
  where
    back : HasAt k (Some job) job.start → has k (Some job) ≡ true
    back (other, is, start, among) = let same : other ≡ job = cc in (among_decides k job.teams).1 (subst (λ (o : Job). Contains o.teams k) same among)

-- when task j is begun, if it is
abbrev pub begun : Plan → ℕ → ℕ
begun p j = start_of (job_of p j)

pub begun_at : (p : Plan) (k j t : ℕ) → Does p k j t → begun p j ≡ t
begun_at p k j t (job, is, start, among) = ap start_of is ∙ start

-- what is done is done when it is begun
does_begun : (p : Plan) (k j t : ℕ) → Does p k j t → Does p k j (begun p j)
does_begun p k j t does = subst (λ m. Does p k j m) (sym (begun_at p k j t does)) does

module _ (p : Plan) (k : ℕ) where
  -- team k does both, and task j first
  abbrev pub Precedes : ℕ → ℕ → Type 0
  Precedes j h = (Does p k j (begun p j) × Does p k h (begun p h)) × IsBefore (begun p j) j (begun p h) h

  precedes_decides : (j h : ℕ) → Decides (precedes p k j h) (Precedes j h)
  precedes_decides j h =
      Decides-and _ _ (Decides-and _ _ (has_decides k (job_of p j)) (has_decides k (job_of p h)))
      (Decides-or _ _ (Decides-ltb (begun p j) (begun p h)) (Decides-and _ _ (Decides-eqb (begun p j) (begun p h)) (Decides-ltb j h)))

  -- task h is the next
  abbrev pub Next : ℕ → ℕ → Type 0
  Next j h = IsNext p k j (begun p j) h (begun p h)

  -- task g is between
  abbrev Between : ℕ → ℕ → ℕ → Type 0
  Between j h g = Precedes j g × Precedes g h

  next_decides : (j h : ℕ) → Decides (is_next p k j h) (Next j h)
  next_decides j h = Decides-like (is_next p k j h) there back
      (Decides-and _ _ (precedes_decides j h)
      (Decides-not _ (any_decides (λ g. precedes p k j g && precedes p k g h) (Between j h) (length p) (λ g. Decides-and _ _ (precedes_decides j g) (precedes_decides g h)))))
    where
      there : Precedes j h × ¬ ((g : ℕ) × (g < length p) × Between j h g) → Next j h
      there (before, none) = record {
        first = before.0.0;
        second = before.0.1;
        order = before.1;
        none_between = λ g m does after ahead.
            let e : m ≡ begun p g = sym (begun_at p k g m does) in
            let d : Does p k g (begun p g) = does_begun p k g m does in
            none (g, task_known p k g m does, (((before.0.0, d), subst (λ x. IsBefore (begun p j) j x g) e after), ((d, before.0.1), subst (λ x. IsBefore x g (begun p h) h) e ahead)));
      }

      back : Next j h → Precedes j h × ¬ ((g : ℕ) × (g < length p) × Between j h g)
      back next = (((next.first, next.second), next.order), λ x. next.none_between x.0 (begun p x.0) x.2.0.0.1 x.2.0.1 x.2.1.1)

-- when a team that begins task j at minute t can begin task h
abbrev pub ready : Instance → ℕ → ℕ → ℕ → ℕ
ready i j t h = t + (task_of i j).minutes + minutes_between i (task_of i j).place (task_of i h).place

module _ (i : Instance) (p : Plan) (k : ℕ) where
  -- team k can't come from task j to its next, which is h, in time
  abbrev pub CantReach : ℕ → ℕ → Type 0
  CantReach j h = Next p k j h × ¬ (CanFollow i j (begun p j) h (begun p h))

  -- there is such a task
  abbrev pub Clashes : ℕ → Type 0
  Clashes j = (h : ℕ) × (h < length p) × CantReach j h

  clashes_decides : (j : ℕ) → Decides (clashes i p k j) (Clashes j)
  clashes_decides j =
      any_decides (λ h. is_next p k j h && not (can_follow i p j h)) (CantReach j) (length p)
      (λ h. Decides-and _ _ (next_decides p k j h)
      (Decides-not _ (le_decides (ready i j (begun p j) h) (begun p h))))

  -- an earlier one
  abbrev pub Earlier : ℕ → ℕ → Type 0
  Earlier j g = Clashes g × Precedes p k g j

  first_decides : (j : ℕ) → Decides (is_first_clash i p k j) (Clashes j × ¬ ((g : ℕ) × (g < length p) × Earlier j g))
  first_decides j =
      Decides-and _ _ (clashes_decides j)
      (Decides-not _ (any_decides (λ g. clashes i p k g && precedes p k g j) (Earlier j) (length p) (λ g. Decides-and _ _ (clashes_decides g) (precedes_decides p k g j))))

  -- a next task at whatever minutes
  as_next : (j t h u : ℕ) → IsNext p k j t h u → Next p k j h
  as_next j t h u next = subst (λ x. IsNext p k j x h (begun p h)) (sym (begun_at p k j t next.first)) (subst (λ x. IsNext p k j t h x) (sym (begun_at p k h u next.second)) next)

  pub clash_from : (j t h u : ℕ) → IsNext p k j t h u → (CanFollow i j t h u → ⊥) → Clashes j
  clash_from j t h u next broken = (
    h,
    task_known p k h u next.second,
    (
      as_next j t h u next,
      λ can. broken (subst (λ x. CanFollow i j x h u) (begun_at p k j t next.first) (subst (λ x. CanFollow i j (begun p j) h x) (begun_at p k h u next.second) can)),
    ),
  )

  -- a first clash is one that has none before it
  none_before : (j h : ℕ) → IsFirstClash i p k j h → (g : ℕ) → Clashes g → IsBefore (begun p g) g (begun p j) j → ⊥
  none_before j h first g (f, l, (next, broken)) before =
      broken (first.earlier g (begun p g) f (begun p f) next (subst (λ x. IsBefore (begun p g) g x j) (begun_at p k j first.start first.next.first) before))

  first_is : (j h : ℕ) → IsFirstClash i p k j h → Clashes j × ¬ ((g : ℕ) × (g < length p) × Earlier j g)
  first_is j h first = (clash_from j first.start h first.next_start first.next first.broken, λ x. none_before j h first x.0 x.2.0 x.2.1.1)

  pub is_first : (j : ℕ) (clash : Clashes j) → ¬ ((g : ℕ) × (g < length p) × Earlier j g) → IsFirstClash i p k j clash.0
  is_first j (h, l, (next, broken)) none = record {
    start = begun p j;
    next_start = begun p h;
    next = next;
    broken = broken;
    earlier = λ g s f r other before. at g s f r other before (cases_lt r (ready i g s f));
  }
    where
      sooner : (g s f r : ℕ) → IsNext p k g s f r → IsBefore s g (begun p j) j → Precedes p k g j
      sooner g s f r other before =
          ((does_begun p k g s other.first, next.first), subst (λ x. IsBefore x g (begun p j) j) (sym (begun_at p k g s other.first)) before)

      at : (g s f r : ℕ) → IsNext p k g s f r → IsBefore s g (begun p j) j → (r < ready i g s f) ⊎ (ready i g s f ≤ r) → CanFollow i g s f r
      at g s f r other before (inl late) =
          absurd (none (g, task_known p k g s other.first, (clash_from g s f r other (λ can. absurd (omega arith)), sooner g s f r other before)))
      at g s f r other before (inr can) = can

  -- the test of a task tells whether it is the first from which the team can't come to the next in time
  pub first_clash_decides : (j : ℕ) → Decides (is_first_clash i p k j) ((h : ℕ) × IsFirstClash i p k j h)
  first_clash_decides j = Decides-like (is_first_clash i p k j) (λ c. (c.0.0, is_first j c.0 c.1)) (λ f. first_is j f.0 f.1) (first_decides j)
