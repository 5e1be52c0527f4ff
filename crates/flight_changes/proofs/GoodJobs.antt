-- the test of a job tells whether it is good
use Rattle.std.proofs.Common.{◌≡◌, ◌≤◌, ◌<◌, ◌+◌, ℕ, zero, suc, Bool, true, false, List, [], ◌∷◌, length, get_or, ap, refl, sym, subst, ◌∙◌, arith, Option, None, Some}
use Rattle.std.specs.Prelude.{◌&&◌, ◌↔◌, nat_eq, nat_le, nat_lt, bit_and, Contains, All}
use Rattle.std.specs.Bool.{Decides}
use Rattle.std.specs.List.{list_all, list_any}
use Rattle.std.specs.List.Sorted.{IsStrictlyIncreasing}
use Rattle.std.proofs.lemmas.Nat.{and_comm}
use Rattle.std.proofs.lemmas.Bool.{leb-true, le-leb, not_from_true, not_from_false, not-false, false_from_ne_true}
use Rattle.std.proofs.lemmas.Bool.Decides.{Decides-and, Decides-eqb, Decides-like, Decides-ltb, Decides-by_and, Decides-by_or}
use Rattle.std.proofs.lemmas.List.Elements.{All-contains, All-from_get_or, Contains-get_or, Decides-contains}
use Rattle.crew_terms.specs.Instance.{Instance, task_of, team_of, minutes_between, IsQualified, IsInShift}
use Rattle.crew_terms.specs.Plan.{Job}
use Rattle.crew_terms.specs.Legal.{IsInWindow, IsFit, IsJob}
use Rattle.crew_terms.specs.Rising.{above_head, rises_tail}
use Rattle.crew_terms.specs.Skills.{bits_had, has_bits}
use Rattle.day_terms.specs.Faulty.{is_rising, is_qualified, is_in_shift, is_fit, is_good, is_bad}

pub le_decides : (a b : ℕ) → Decides (nat_le a b) (a ≤ b)
le_decides a b = (leb-true a b, le-leb a b)

-- each passes: the test tells the fact of each
all_decides : (test : ℕ → Bool) (P : ℕ → Type 0) (xs : List ℕ) → ((x : ℕ) → Decides (test x) (P x)) → Decides (list_all test xs) (All P xs)
all_decides test P xs each = Decides-by_and test P (list_all test) each refl (λ _ _. refl) xs

-- a number that is below each of a rising list, in front of it
rises_more : (k : ℕ) (ks : List ℕ) → All (λ h. k < h) ks → IsStrictlyIncreasing ks → IsStrictlyIncreasing (k ∷ ks)
rises_more k ks below rising zero l =
    let e : suc 0 ≡ 0 + 1 = omega arith in subst (λ h. k < get_or (k ∷ ks) h 0) e (below 0 0 (omega arith))
rises_more k ks below rising (suc h) l =
    let e : suc (h + 1) ≡ suc h + 1 = omega arith in subst (λ g. get_or ks h 0 < get_or (k ∷ ks) g 0) e (rising h (omega arith))

rising_decides : (ks : List ℕ) → Decides (is_rising ks) (IsStrictlyIncreasing ks)
rising_decides [] = ((λ _ k l. absurd (omega arith)), (λ _. refl))
rising_decides (k ∷ ks) =
    Decides-like (list_all (nat_lt k) ks && is_rising ks)
    (λ h. rises_more k ks h.0 h.1)
    (λ rising. (All-from_get_or (λ h. k < h) ks 0 (above_head k ks rising), rises_tail k ks rising))
    (Decides-and (list_all (nat_lt k) ks) (is_rising ks) (all_decides (nat_lt k) (λ h. k < h) ks (Decides-ltb k)) (rising_decides ks))

-- the number is one of the list
pub among_decides : (k : ℕ) (ks : List ℕ) → Decides (list_any (nat_eq k) ks) (Contains ks k)
among_decides k ks =
    Decides-contains ks k (list_any (nat_eq k) ks)
    (Decides-by_or (nat_eq k) (λ h. h ≡ k) (list_any (nat_eq k)) (λ h. Decides-like (nat_eq k h) sym sym (Decides-eqb k h)) refl (λ _ _. refl) ks)

module _ (i : Instance) (j : ℕ) where
  qualified_decides : (k : ℕ) → Decides (is_qualified i k j) (IsQualified i k j)
  qualified_decides k =
      Decides-like (is_qualified i k j)
      (λ e. has_bits (team_of i k).skills (task_of i j).skills (and_comm (team_of i k).skills (task_of i j).skills ∙ e))
      (λ q. and_comm (task_of i j).skills (team_of i k).skills ∙ bits_had (team_of i k).skills (task_of i j).skills q)
      (Decides-eqb (bit_and (task_of i j).skills (team_of i k).skills) (task_of i j).skills)

  shift_decides : (t k : ℕ) → Decides (is_in_shift i k j t) (IsInShift i k j t)
  shift_decides t k =
      Decides-like (is_in_shift i k j t) (λ h. record { comes = h.0; returns = h.1 }) (λ s. (s.comes, s.returns))
      (Decides-and _ _
      (le_decides ((team_of i k).from + minutes_between i (team_of i k).home (task_of i j).place) t)
      (le_decides (t + (task_of i j).minutes + minutes_between i (task_of i j).place (team_of i k).home) (team_of i k).until))

  fit_decides : (t k : ℕ) → Decides (is_fit i j t k) ((k < length i.teams) × IsFit i j t k)
  fit_decides t k =
      Decides-like (is_fit i j t k) (λ h. (h.0.0, record { qualified = h.0.1; in_shift = h.1 })) (λ f. ((f.0, f.1.qualified), f.1.in_shift))
      (Decides-and _ _ (Decides-and _ _ (Decides-ltb k (length i.teams)) (qualified_decides k)) (shift_decides t k))

  module _ (job : Job) where
    window_decides : Decides (nat_le (task_of i j).earliest job.start && nat_le job.start (task_of i j).latest) (IsInWindow i j job)
    window_decides =
        Decides-like _ (λ h. record { early = h.0; late = h.1 }) (λ w. (w.early, w.late))
        (Decides-and _ _ (le_decides (task_of i j).earliest job.start) (le_decides job.start (task_of i j).latest))

    teams_decide : Decides (list_all (is_fit i j job.start) job.teams) (All (λ k. (k < length i.teams) × IsFit i j job.start k) job.teams)
    teams_decide = all_decides (is_fit i j job.start) (λ k. (k < length i.teams) × IsFit i j job.start k) job.teams (fit_decides job.start)

    pub good_decides : Decides (is_good i j job) (IsJob i j job)
    good_decides = Decides-like (is_good i j job)
        (λ h. record {
          window = h.0.0.0;
          list = record { rising = h.0.0.1; count = h.0.1 };
          known = λ k c. (All-contains (λ k. (k < length i.teams) × IsFit i j job.start k) job.teams k h.1 c).0;
          fit = λ k c. (All-contains (λ k. (k < length i.teams) × IsFit i j job.start k) job.teams k h.1 c).1;
        })
        (λ good. (
          ((good.window, good.list.rising), good.list.count),
          λ at d l. let c = Contains-get_or job.teams at d l in (good.known (get_or job.teams at d) c, good.fit (get_or job.teams at d) c),
        ))
        (Decides-and _ _ (Decides-and _ _ (Decides-and _ _ window_decides (rising_decides job.teams))
        (Decides-eqb (length job.teams) (task_of i j).teams)) teams_decide)

module _ (i : Instance) (j : ℕ) (passes : (job : Job) → (is_good i j job ≡ true) ↔ IsJob i j job) where
  -- what is no job, or a good one, is not bad
  pub not_bad : (o : Option Job) → ((job : Job) → o ≡ Some job → IsJob i j job) → is_bad i j o ≡ false
  not_bad None good = refl
  not_bad (Some job) good = not_from_true (is_good i j job) ((passes job).1 (good job refl))

  -- one that is not good is bad
  pub is_bad_job : (o : Option Job) (job : Job) → o ≡ Some job → (IsJob i j job → ⊥) → is_bad i j o ≡ true
  is_bad_job o job e broken =
      ap (is_bad i j) e ∙ not_from_false (is_good i j job) (false_from_ne_true (is_good i j job) (λ f. broken ((passes job).0 f)))

  -- one that is not bad is good
  pub good_from_test : (o : Option Job) (job : Job) → is_bad i j o ≡ false → o ≡ Some job → IsJob i j job
  good_from_test o job test e = (passes job).0 (not-false (is_good i j job) (ap (is_bad i j) (sym e) ∙ test))
