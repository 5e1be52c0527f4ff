-- the small dossier is good
use Rattle.std.proofs.Common.{◌≡◌, ◌≤◌, ℕ, zero, suc, [], ◌∷◌, length, ap, sym, refl, ◌∙◌, subst, arith, None, Some, inl, inr}
use Rattle.std.specs.Prelude.{◌≢◌, codes, All, AllPairs, Contains, slice_index_or}
use Rattle.std.specs.Int.{bit_at}
use Rattle.std.proofs.lemmas.List.Sums.{AllPass-from_list_all}
use Rattle.std.proofs.lemmas.Nat.Bits.{bit_at-pow_other}
use Rattle.std.proofs.lemmas.Bool.{cases_eq}
use Rattle.crew_terms.specs.Name.{IsName, name_byte}
use Rattle.crew_terms.specs.Instance.{IsQualified}
use Rattle.crew_terms.specs.Rules.{IsInstance, IsTeam, IsTask}
use Rattle.crew_terms.specs.Plan.{Job, job_of, Does}
use Rattle.crew_terms.specs.Legal.{IsLegal, IsJob, IsFit}
use Rattle.crew_terms.specs.declared.Team.{Team}
use Rattle.crew_terms.specs.declared.Task.{Task}
use Rattle.crew_terms.specs.declared.TheConstants.{LAST_MINUTE}
use Rattle.dossier_terms.specs.Dossier.{IsGood}
use Rattle.crew_terms.specs.Limits.{Route}
use Rattle.crew_terms.specs.EmptyPlan.{job_none, empty_feasible}
use Rattle.dossier_terms.specs.Lines.{lines_of}
use Rattle.dossier_laws.specs.Sheet.{sheet, sheet_instance, sheet_plan, sheet_lines}
use Rattle.std.proofs.lemmas.List.Elements.{All-from_recursion}

pub sheet_spelled : lines_of sheet ≡ sheet_lines
sheet_spelled = refl

one : {A : Type 0} (P : A → Type 0) (x : A) → P x → All P (x ∷ [])
one P x h = All-from_recursion P (x ∷ []) (h, tt)

two : {A : Type 0} (P : A → Type 0) (x y : A) → P x → P y → All P (x ∷ y ∷ [])
two P x y h k = All-from_recursion P (x ∷ y ∷ []) (h, (k, tt))

pairs_none : {A : Type 0} (R : A → A → Type 0) → AllPairs R []
pairs_none R i j d a l = absurd (omega arith)

pairs_one : {A : Type 0} (R : A → A → Type 0) (x : A) → AllPairs R (x ∷ [])
pairs_one R x i j d a l = absurd (omega arith)

pairs_two : {A : Type 0} (R : A → A → Type 0) (x y : A) → R x y → AllPairs R (x ∷ y ∷ [])
pairs_two R x y h zero zero d a l = absurd (omega arith)
pairs_two R x y h zero (suc zero) d a l = h
pairs_two R x y h zero (suc (suc j)) d a l = absurd (omega arith)
pairs_two R x y h (suc i) j d a l = absurd (omega arith)

base : IsName (codes "BASE")
base = record { some = omega arith; short = omega arith; spelled = AllPass-from_list_all name_byte (codes "BASE") refl }

gate : IsName (codes "G1")
gate = record { some = omega arith; short = omega arith; spelled = AllPass-from_list_all name_byte (codes "G1") refl }

team : IsName (codes "T1")
team = record { some = omega arith; short = omega arith; spelled = AllPass-from_list_all name_byte (codes "T1") refl }

first : IsName (codes "J1")
first = record { some = omega arith; short = omega arith; spelled = AllPass-from_list_all name_byte (codes "J1") refl }

second : IsName (codes "J2")
second = record { some = omega arith; short = omega arith; spelled = AllPass-from_list_all name_byte (codes "J2") refl }

is_instance : IsInstance sheet_instance
is_instance = record {
  parts = record {
    few_places = omega arith;
    few_teams = omega arith;
    few_tasks = omega arith;
    places = two IsName (codes "BASE") (codes "G1") base gate;
    teams = one (IsTeam 2) _ (record { name = team; home = omega arith; shift = record { order = omega arith; day = omega arith }; skills = omega arith });
    tasks = two (IsTask 2) _ _
        (record { name = first; place = omega arith; window = record { order = omega arith; width = omega arith; day = omega arith; some_minutes = omega arith; minutes = omega arith }; teams = record { some = omega arith; few = omega arith }; skills = omega arith })
        (record { name = second; place = omega arith; window = record { order = omega arith; width = omega arith; day = omega arith; some_minutes = omega arith; minutes = omega arith }; teams = record { some = omega arith; few = omega arith }; skills = omega arith });
    place_names = pairs_two (λ a b. a ≢ b) (codes "BASE") (codes "G1") (λ e. let a : 4 ≡ 2 = ap length e in omega arith);
    team_names = pairs_one (λ (a b : Team). a.name ≢ b.name) _;
    task_names = pairs_two (λ (a b : Task). a.name ≢ b.name) _ _ (λ e. let a : 49 ≡ 50 = ap (λ w. slice_index_or w 1 0) e in omega arith);
  };
  times = record {
    rows = refl;
    columns = two (λ row. length row ≡ 2) (0 ∷ 7 ∷ []) (8 ∷ 0 ∷ []) refl refl;
    minutes = two (All (λ t. t ≤ LAST_MINUTE)) (0 ∷ 7 ∷ []) (8 ∷ 0 ∷ [])
        (two (λ t. t ≤ LAST_MINUTE) 0 7 (omega arith) (omega arith)) (two (λ t. t ≤ LAST_MINUTE) 8 0 (omega arith) (omega arith));
  };
  frozen = empty_feasible sheet_instance;
}

-- ---- the plan

abbrev the_job : Job
the_job = record { start = 405; teams = 0 ∷ [] }

-- the only job is the first task's
only_job : (j : ℕ) (job : Job) → job_of sheet_plan j ≡ Some job → (j ≡ 0) × (job ≡ the_job)
only_job zero job e = (refl, let a : Some the_job ≡ Some job = e in cc)
only_job (suc zero) job e = absurd (let a : None ≡ Some job = e in cc)
only_job (suc (suc j)) job e = absurd (let a : None ≡ Some job = e in cc)

only_team : (k : ℕ) → Contains (0 ∷ []) k → k ≡ 0
only_team k (zero, l, e) = sym e
only_team k (suc i, l, e) = absurd (omega arith)

does_so : (k j t : ℕ) → Does sheet_plan k j t → (j ≡ 0) × (t ≡ 405)
does_so k j t (job, e, f, c) = let a = only_job j job e in (a.0, sym f ∙ ap (λ (x : Job). x.start) a.1)

qualified : IsQualified sheet_instance 0 0
qualified s h = elim (cases_eq s 2) [
  | inl e ↦ ap (bit_at 5) e
  | inr e ↦ absurd (let a : bit_at 4 s ≡ 0 = bit_at-pow_other 2 s e in omega arith)
]

is_job : IsJob sheet_instance 0 the_job
is_job = record {
  window = record { early = omega arith; late = omega arith };
  list = record { rising = λ k l. absurd (omega arith); count = refl };
  known = λ k c. let e = only_team k c in omega arith;
  fit = λ k c. subst (IsFit sheet_instance 0 405) (sym (only_team k c)) (record { qualified = qualified; in_shift = record { comes = omega arith; returns = omega arith } });
}

is_legal : IsLegal sheet_instance sheet_plan
is_legal = record {
  feasible = record {
    whole = refl;
    jobs = λ j job e. let a = only_job j job e in subst (λ j. IsJob sheet_instance j job) (sym a.0) (subst (λ job. IsJob sheet_instance 0 job) (sym a.1) is_job);
    apart = λ k j h t u d e other. let a = does_so k j t d in let b = does_so k h u e in absurd (other (a.0 ∙ sym b.0));
    follow = λ k j h t u d e l. let a = does_so k j t d in let b = does_so k h u e in absurd (omega arith);
  };
  frozen = λ j job e. absurd (let a = job_none 2 j in cc);
}

pub sheet_good : IsGood sheet
sheet_good = record {
  instance = is_instance;
  frozen = refl;
  budget = omega arith;
  kept = omega arith;
  pool_length = omega arith;
  pool = λ k d l. absurd (omega arith);
  differ = pairs_none (λ (a b : Route). a ≢ b);
  plan = is_legal;
  bound = omega arith;
  leaves = tt;
  sound = refl;
  causes = tt;
  within = omega arith;
  spent = λ l. refl;
}
