-- late tasks by their names
use Rattle.std.proofs.Common.{◌≡◌, ◌≢◌, ◌≤◌, ◌<◌, ◌+◌, ◌++◌, inl, inr, ℕ, suc, List, [], ◌∷◌, Option, None, Some, IsSome, true, false, length, get_or, map, take, drop, ap, sym, subst, refl, ◌∙◌, arith}
use Rattle.std.specs.List.{All, AllPairs, position_or_len}
use Rattle.std.specs.Prelude.{MatchOption}
use Rattle.std.specs.Str.{bytes_eq}
use Rattle.std.proofs.lemmas.Bool.{cases_lt}
use Rattle.std.proofs.lemmas.List.{get_or-map, get_or_default, get_or_past, length-map, map-append, take_more, take-append-drop, drop_more, length-take-le}
use Rattle.std.proofs.lemmas.List.Elements.{All-map}
use Rattle.std.proofs.lemmas.List.Sums.{passes_at_first, position_or_len_is}
use Rattle.std.proofs.lemmas.Slice.Eq.{bytes_eq-Decides}
use Rattle.crew_terms.specs.Instance.{Instance, no_task, task_of}
use Rattle.crew_terms.specs.Plan.{Plan, Job, job_of}
use Rattle.crew_terms.specs.declared.Task.{Task}
use Rattle.delay_wave.specs.Ends.{AreLates}
use Rattle.delay_wave.specs.declared.lates.Late.{Late}
use Rattle.delay_wave.specs.declared.lates.TheConstants.{LATEST_END}
use Rattle.dossier_terms.specs.declared.Reason.{Reason}
use Rattle.dossier_terms.specs.declared.Reason.TheVariants.{Name}
use Rattle.late_lines.specs.declared.first_line.LateLine.{LateLine}
use Rattle.late_lines.specs.Lines.{AreLateLines}
use Rattle.delay_command.specs.Tasks.{IsDone, IsFirstUndone, late_in, lates_in, task_named}

-- where the tasks are gone through by number
pub found_at : (i : Instance) (name : List ℕ) (j : ℕ) → j < length i.tasks → ((k : ℕ) → k < j → bytes_eq (task_of i k).name name ≡ false) → bytes_eq (task_of i j).name name ≡ true
    → j ≡ task_named i name
found_at i name j below before here = sym (position_or_len_is (λ (t : Task). bytes_eq t.name name) i.tasks j no_task (omega arith) before (λ _. here))

pub found_nowhere : (i : Instance) (name : List ℕ) (n : ℕ) → n ≡ length i.tasks → ((k : ℕ) → k < n → bytes_eq (task_of i k).name name ≡ false) → task_named i name ≡ length i.tasks
found_nowhere i name n all before = position_or_len_is (λ (t : Task). bytes_eq t.name name) i.tasks n no_task (omega arith) before (λ l. absurd (omega arith)) ∙ all

some_line : LateLine
some_line = record { name = []; end = 0 }

module _ (i : Instance) (p : Plan) (whole : length p ≡ length i.tasks) where
  -- a task that is done is one of the instance's, of that name
  known : (line : LateLine) → IsDone i p line → task_named i line.name < length i.tasks
  known line done = elim (cases_lt (task_named i line.name) (length p)) [
    | inl l ↦ omega (arith, l, whole)
    | inr l ↦ absurd (not_none (job_of p (task_named i line.name)) (get_or_past p (task_named i line.name) None l) done)
  ]
    where
      not_none : (o : Option Job) → o ≡ None → IsSome o → ⊥
      not_none None e h = absurd (cc)
      not_none (Some x) e h = absurd (cc)

  pub not_done : (line : LateLine) → task_named i line.name ≡ length i.tasks → IsDone i p line → ⊥
  not_done line e done = let l = known line done in omega (arith, l, e)

  named : (line : LateLine) → IsDone i p line → (task_of i (task_named i line.name)).name ≡ line.name
  named line done =
      (bytes_eq-Decides (task_of i (task_named i line.name)).name line.name).0
      (passes_at_first (λ (t : Task). bytes_eq t.name line.name) i.tasks no_task (known line done))

  pub are_lates : (lines : List LateLine) → AreLateLines lines → All (IsDone i p) lines → AreLates p (lates_in i lines)
  are_lates lines are done = record {
    assigned = All-map (λ (l : Late). IsSome (job_of p l.task)) (late_in i) lines done;
    differ = λ a b d l m. differ a b d l (let n = length-map lines (late_in i) in omega (arith, n, m));
    ends = All-map (λ (l : Late). l.end ≤ LATEST_END) (late_in i) lines (λ k d l. (are.each k d l).end);
  }
    where
      line_at : ℕ → LateLine
      line_at k = get_or lines k some_line

      here : (k : ℕ) (d : Late) → k < length lines → get_or (lates_in i lines) k d ≡ late_in i (get_or lines k some_line)
      here k d l = get_or-map (late_in i) lines k some_line d l

      differ : (a b : ℕ) (d : Late) → a < b → b < length lines → (get_or (lates_in i lines) a d).task ≢ (get_or (lates_in i lines) b d).task
      differ a b d l m e =
          let low : a < length lines = omega arith in
          let x = get_or lines a some_line in
          let y = get_or lines b some_line in
          let same : task_named i x.name ≡ task_named i y.name = sym (ap (λ (t : Late). t.task) (here a d low)) ∙ e ∙ ap (λ (t : Late). t.task) (here b d m) in
          are.differ a b some_line l m (sym (named x (done a some_line low)) ∙ ap (λ k. (task_of i k).name) same ∙ named y (done b some_line m))

  -- the first of the lines whose task is not done
  pub first_undone : (lines : List LateLine) (n : ℕ) (line : LateLine) → n < length lines → (d : LateLine) → line ≡ get_or lines n d → All (IsDone i p) (take n lines)
      → (IsDone i p line → ⊥) → (number : ℕ) → number ≡ n + 1 → IsFirstUndone i p lines number Name
  first_undone lines n line below d here done undone number is = record {
    before = take n lines;
    line = line;
    after = drop (n + 1) lines;
    parts = sym (take-append-drop n lines) ∙ ap (λ x. take n lines ++ x) (drop_more lines n d below ∙ ap (λ x. x ∷ drop (n + 1) lines) (sym here));
    done = done;
    undone = undone;
    is = let l = length-take-le n lines (omega arith) in omega (arith, is, l);
    why = refl;
  }

-- a line whose task is none
pub undone_here : (i : Instance) (p : Plan) (line : LateLine) (o : Option Late) → ((x : Late) → o ≡ Some x → ⊥)
    → MatchOption o (IsDone i p line → ⊥) (λ late. IsDone i p line × late ≡ late_in i line) → IsDone i p line → ⊥
undone_here i p line None none m = m
undone_here i p line (Some x) none m = absurd (none x refl)

-- the late task of one line more
pub told_more : (i : Instance) (lines : List LateLine) (n : ℕ) (line : LateLine) → n < length lines → line ≡ get_or lines n line → (old new : List Late) (late : Late) → new ≡ old ++ late ∷ []
    → old ≡ lates_in i (take n lines) → late ≡ late_in i line → new ≡ lates_in i (take (n + 1) lines)
told_more i lines n line below here old new late is told told_here =
    is ∙ ap (λ x. x ++ late ∷ []) told ∙ ap (λ (x : Late). lates_in i (take n lines) ++ x ∷ []) (told_here ∙ ap (late_in i) here)
    ∙ sym (map-append (late_in i) (take n lines) (get_or lines n line ∷ [])) ∙ ap (lates_in i) (sym (take_more lines n line below))
