-- runs of minutes, and rows of obstacles
use Rattle.std.proofs.Common.{◌≡◌, ◌≤◌, ◌<◌, ◌+◌, ◌-◌, ◌&&◌, ◌++◌, ◌∷◌, [], ◌⊎◌, inl, inr, ℕ, suc, Bool, true, false, not, List, length, map, get_or, Some, arith, refl, sym, ap, subst, ◌∙◌, append-nil, append_assoc, length-append, eqb-true, eq-eqb}
use Rattle.std.specs.Prelude.{find, nat_le, if◌then◌else◌}
use Rattle.std.specs.Bool.{Decides}
use Rattle.std.specs.List.{filter, flat_map, range_with_len}
use Rattle.std.proofs.Math.ListN.{get_or-append}
use Rattle.std.proofs.lemmas.Bool.{cases_lt, leb-true}
use Rattle.std.proofs.lemmas.List.{ext_get_or, get_or_push, length-map, map-append}
use Rattle.std.proofs.lemmas.List.FromFn.{length-range_with_len}
use Rattle.crew_terms.specs.Ranges.{range_from}
use Rattle.crew_terms.specs.Words.{line_text}
use Rattle.crew_terms.specs.Instance.{Instance, task_of}
use Rattle.crew_terms.specs.Plan.{Plan}
use Rattle.crew_instance.specs.Turns.{AreTurns}
use Rattle.crew_instance.specs.declared.turns.Turn.{Turn}
use Rattle.arrayvec.specs.ArrayVec.{ArrayVec}
use Rattle.team_days.specs.Obstacles.{obstacle_of}
use Rattle.team_days.specs.declared.obstacles.Obstacle.{Obstacle}
use Rattle.team_days.specs.declared.obstacles.Obstacle.TheVariants.{Free, Skill, Shift, Busy}
use Rattle.why_not.specs.Days.{AreDays}
use Rattle.why_not.specs.Fits.{obstacles_at}
use Rattle.why_not.specs.Why.{are_same, changes_at, changes_from, ended_run, is_same, run_start, run_words, runs_from}

-- ---- days

pub days_more : (p : Plan) (days : List (ArrayVec Turn)) (k : ℕ) (day : ArrayVec Turn) → length days ≡ k → AreDays p days → AreTurns p k (length p) day.items → AreDays p (days ++ day ∷ [])
days_more p days k day e are turns h d l = by (cases_lt h k)
  where
    by : (h < k) ⊎ (k ≤ h) → AreTurns p h (length p) (get_or (days ++ day ∷ []) h d).items
    by (inl m) =
        let n : h < length days = omega arith in
        let same = get_or-append days (day ∷ []) d h n in
        subst (λ (v : ArrayVec Turn). AreTurns p h (length p) v.items) (sym same) (are h d n)
    by (inr m) =
        let long = length-append days (day ∷ []) in
        let here : h ≡ k = omega arith in
        let same = get_or_push days day d h (e ∙ sym here) in
        subst (λ (v : ArrayVec Turn). AreTurns p h (length p) v.items) (sym same) (subst (λ g. AreTurns p g (length p) day.items) (sym here) turns)

-- ---- rows

pub mapped_length : {A : Type 0} (f : ℕ → A) (k : ℕ) → length (map f (range_with_len 0 k)) ≡ k
mapped_length f k = length-map (range_with_len 0 k) f ∙ length-range_with_len 0 k

pub one_more : {A : Type 0} (f : ℕ → A) (k : ℕ) (xs : List A) (x : A) → xs ≡ map f (range_with_len 0 k) → x ≡ f k → xs ++ x ∷ [] ≡ map f (range_with_len 0 (k + 1))
one_more f k xs x e g =
    let n : 0 + k ≡ k = omega arith in
    ap (λ ys. ys ++ x ∷ []) e
    ∙ ap (λ y. map f (range_with_len 0 k) ++ y ∷ []) (g ∙ ap f (sym n))
    ∙ sym (map-append f (range_with_len 0 k) ((0 + k) ∷ []))
    ∙ ap (map f) (sym (range_from 0 k))

pub all_told : (i : Instance) (p : Plan) (j t k : ℕ) (row : List Obstacle) → row ≡ map (λ h. obstacle_of i p h j t) (range_with_len 0 k) → k ≡ length i.teams → row ≡ obstacles_at i p j t
unfolding obstacles_at
all_told i p j t k row e n = e ∙ ap (λ m. map (λ h. obstacle_of i p h j t) (range_with_len 0 m)) n

pub row_length : (i : Instance) (p : Plan) (j t : ℕ) → length (obstacles_at i p j t) ≡ length i.teams
unfolding obstacles_at
row_length i p j t = mapped_length (λ k. obstacle_of i p k j t) (length i.teams)

-- ---- equal obstacles

busy_of : Obstacle → ℕ
busy_of Free = 0
busy_of Skill = 0
busy_of Shift = 0
busy_of (Busy h) = h

pub same_is : (a b : Obstacle) → is_same a b ≡ true → a ≡ b
same_is Free Free e = refl
same_is Free Skill e = cc
same_is Free Shift e = cc
same_is Free (Busy h) e = cc
same_is Skill Free e = cc
same_is Skill Skill e = refl
same_is Skill Shift e = cc
same_is Skill (Busy h) e = cc
same_is Shift Free e = cc
same_is Shift Skill e = cc
same_is Shift Shift e = refl
same_is Shift (Busy h) e = cc
same_is (Busy g) Free e = cc
same_is (Busy g) Skill e = cc
same_is (Busy g) Shift e = cc
same_is (Busy g) (Busy h) e = ap Busy (eqb-true g h e)

is_itself : (a : Obstacle) → is_same a a ≡ true
is_itself Free = refl
is_itself Skill = refl
is_itself Shift = refl
is_itself (Busy h) = eq-eqb h h refl

pub rows_are : (a b : List Obstacle) → are_same a b ≡ true → a ≡ b
rows_are [] [] e = refl
rows_are [] (y ∷ b) e = cc
rows_are (x ∷ a) [] e = cc
rows_are (x ∷ a) (y ∷ b) e = by (is_same x y) refl (rows_are a b) e
  where
    by : (t : Bool) → is_same x y ≡ t → (are_same a b ≡ true → a ≡ b) → (is_same x y && are_same a b) ≡ true → x ∷ a ≡ y ∷ b
    by true s more f = ap (λ z. z ∷ a) (same_is x y s) ∙ ap (λ zs. y ∷ zs) (more (rw s at f))
    by false s more f = let g : false ≡ true = rw s at f in absurd (cc)

same_as_itself : (a : List Obstacle) → are_same a a ≡ true
same_as_itself [] = refl
same_as_itself (x ∷ a) = rw (is_itself x) (same_as_itself a)

pub rows_decide : (a b : List Obstacle) → Decides (are_same a b) (a ≡ b)
rows_decide a b = (rows_are a b, λ e. subst (λ c. are_same a c ≡ true) e (same_as_itself a))

-- rows that are the same up to a place
abbrev pub AreSameTo : List Obstacle → List Obstacle → ℕ → Type 0
AreSameTo a b n = (x : ℕ) → x < n → get_or a x Free ≡ get_or b x Free

pub same_more : (a b : List Obstacle) (n : ℕ) → AreSameTo a b n → get_or a n Free ≡ get_or b n Free → AreSameTo a b (n + 1)
same_more a b n before here x l = elim (cases_lt x n) [ inl m ↦ before x m | inr m ↦ let e : n ≡ x = omega arith in subst (λ y. get_or a y Free ≡ get_or b y Free) e here ]

pub all_same : (a b : List Obstacle) → length a ≡ length b → AreSameTo a b (length a) → true ≡ are_same a b
all_same a b long same = sym ((rows_decide a b).1 (ext_get_or Free a b long (λ x l. same x l)))

pub other_row : (a b : List Obstacle) (n : ℕ) → is_same (get_or a n Free) (get_or b n Free) ≡ false → false ≡ are_same a b
other_row a b n e = by (are_same a b) refl
  where
    by : (t : Bool) → are_same a b ≡ t → false ≡ are_same a b
    by true s =
        let same = ap (λ r. get_or r n Free) (rows_are a b s) in
        let t : is_same (get_or a n Free) (get_or b n Free) ≡ true = subst (λ o. is_same (get_or a n Free) o ≡ true) same (is_itself (get_or a n Free)) in
        absurd (let x : true ≡ false = sym t ∙ e in cc)
    by false s = sym s

-- ---- minutes one after another

pub not_le : (a b : ℕ) → b < a → nat_le a b ≡ false
not_le a b l = by (nat_le a b) refl
  where
    by : (t : Bool) → nat_le a b ≡ t → nat_le a b ≡ false
    by true e = absurd (let m = leb-true a b e in omega arith)
    by false e = e

pub minutes_more : (t n : ℕ) → t < n → range_with_len t (n - t) ≡ t ∷ range_with_len (t + 1) (n - (t + 1))
minutes_more t n l = let e : n - t ≡ suc (n - (t + 1)) = omega arith in ap (range_with_len t) e

pub minutes_over : (t n : ℕ) → n ≤ t → range_with_len t (n - t) ≡ []
minutes_over t n l = let e : n - t ≡ 0 = omega arith in ap (range_with_len t) e

module _ (test : ℕ → Bool) (t : ℕ) (ts : List ℕ) where
  pub found_here : test t ≡ true → find test (t ∷ ts) ≡ Some t
  found_here e = rw e refl

  pub found_later : test t ≡ false → find test (t ∷ ts) ≡ find test ts
  found_later e = rw e refl

  pub passes_first : test t ≡ true → filter test (t ∷ ts) ≡ t ∷ filter test ts
  passes_first e = rw e refl

  pub fails_first : test t ≡ false → filter test (t ∷ ts) ≡ filter test ts
  fails_first e = rw e refl

-- ---- the runs

module _ (i : Instance) (p : Plan) (j : ℕ) where
  -- the text of the runs from minute `first` on, where the minutes from t on are to come
  abbrev pub rest : ℕ → ℕ → List ℕ
  rest first t = flat_map line_text (runs_from i p j first (changes_from i p j t))

  -- one minute more: a run ends, or goes on
  pub run_step : (first t : ℕ) → t < (task_of i j).latest + 1 → rest first t ≡ ended_run i p j first t ++ rest (run_start i p j first t) (t + 1)
  unfolding runs_from
  run_step first t within = ap (λ ts. flat_map line_text (runs_from i p j first (filter (changes_at i p j) ts))) (minutes_more t ((task_of i j).latest + 1) within) ∙ by (changes_at i p j t) refl
    where
      by : (b : Bool) → changes_at i p j t ≡ b
          → flat_map line_text (runs_from i p j first (filter (changes_at i p j) (t ∷ range_with_len (t + 1) ((task_of i j).latest + 1 - (t + 1)))))
          ≡ ended_run i p j first t ++ rest (run_start i p j first t) (t + 1)
      by true e =
          ap (λ ts. flat_map line_text (runs_from i p j first ts)) (passes_first (changes_at i p j) t (range_with_len (t + 1) ((task_of i j).latest + 1 - (t + 1))) e)
          ∙ sym (ap (λ b. (if b then line_text (run_words i p j first (t - 1)) else []) ++ rest (if b then t else first) (t + 1)) e)
      by false e =
          ap (λ ts. flat_map line_text (runs_from i p j first ts)) (fails_first (changes_at i p j) t (range_with_len (t + 1) ((task_of i j).latest + 1 - (t + 1))) e)
          ∙ sym (ap (λ b. (if b then line_text (run_words i p j first (t - 1)) else []) ++ rest (if b then t else first) (t + 1)) e)

  -- what the rows tell of a minute
  pub change_is : (t : ℕ) (row now : List Obstacle) → row ≡ obstacles_at i p j (t - 1) → now ≡ obstacles_at i p j t → changes_at i p j t ≡ not (are_same row now)
  unfolding changes_at
  change_is t row now row_is now_is = rw (row_is, now_is) refl

  pub run_ends : (first t : ℕ) → changes_at i p j t ≡ true → line_text (run_words i p j first (t - 1)) ≡ ended_run i p j first t
  run_ends first t e = sym (ap (λ b. if b then line_text (run_words i p j first (t - 1)) else []) e)

  pub run_goes_on : (first t : ℕ) → changes_at i p j t ≡ false → [] ≡ ended_run i p j first t
  run_goes_on first t e = sym (ap (λ b. if b then line_text (run_words i p j first (t - 1)) else []) e)

  pub starts_anew : (first t : ℕ) → changes_at i p j t ≡ true → t ≡ run_start i p j first t
  starts_anew first t e = sym (ap (λ b. if b then t else first) e)

  pub start_stays : (first t : ℕ) → changes_at i p j t ≡ false → first ≡ run_start i p j first t
  start_stays first t e = sym (ap (λ b. if b then t else first) e)

  pub start_within : (first t : ℕ) → first ≤ (task_of i j).latest → t ≤ (task_of i j).latest → run_start i p j first t ≤ (task_of i j).latest
  start_within first t a b = by (changes_at i p j t)
    where
      by : (c : Bool) → (if c then t else first) ≤ (task_of i j).latest
      by true = b
      by false = a

  -- the last run
  pub last_run : (first t : ℕ) → (task_of i j).latest + 1 ≤ t → rest first t ≡ line_text (run_words i p j first (task_of i j).latest)
  unfolding runs_from
  last_run first t over =
      ap (λ ts. flat_map line_text (runs_from i p j first (filter (changes_at i p j) ts))) (minutes_over t ((task_of i j).latest + 1) over)
      ∙ append-nil (line_text (run_words i p j first (task_of i j).latest))

-- a front of what is left behind what is done
pub done_more : (done now rest after whole : List ℕ) → done ++ rest ≡ whole → rest ≡ now ++ after → (done ++ now) ++ after ≡ whole
done_more done now rest after whole e f = append_assoc done now after ∙ ap (λ x. done ++ x) (sym f) ∙ e
