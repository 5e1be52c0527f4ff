-- the lines of an instance and of its frozen jobs lead to the line `bound`
use Rattle.std.proofs.Common.{◌≡◌, ◌≢◌, ℕ, List, [], ◌∷◌, ◌++◌, get_or, ap, sym, refl, subst, arith}
use Rattle.std.specs.Prelude.{map, codes}
use Rattle.std.specs.List.{AllByRecursion}
use Rattle.crew_terms.specs.Instance.{Instance}
use Rattle.crew_terms.specs.Words.{Words}
use Rattle.dossier_terms.specs.declared.DossierForm.{DossierForm}
use Rattle.dossier_terms.specs.declared.DossierForm.TheVariants.{Two}
use Rattle.dossier_terms.specs.BodyTable.{pool_row}
use Rattle.dossier_terms.specs.Lines.{place_line, travel_line, team_line, task_line, keep_line, instance_lines, frozen_lines, jobs_from}
use Rattle.dossier_terms.specs.Reading.{Reading, Pools}
use Rattle.dossier_terms.specs.Reading as dossiers
use Rattle.dossier_terms.specs.Rules.{IsShape, Holds, Fails}
use Rattle.dossier_terms.specs.Table.{Says, Reaches}
use Rattle.sheet_terms.specs.Reading.{SheetReading, Head, Bounds, More, head_due}
use Rattle.sheet_terms.specs.Table.{SaysOfSheet, ReachesInSheet}

-- it is no line `pool`
abbrev IsOther : Words → Type 0
IsOther ws = IsShape (codes "pool") 2 ws → ⊥

other : (w : List ℕ) (ws : Words) → w ≢ codes "pool" → IsOther (w ∷ ws)
other w ws differ h = differ (ap (λ xs. get_or xs 0 []) h.1)

-- a word of another letter at a place
letter : (w : List ℕ) (place : ℕ) → (get_or w place 0 ≢ get_or (codes "pool") place 0) → w ≢ codes "pool"
letter w place differ e = differ (ap (λ cs. get_or cs place 0) e)

all_map : {A : Type 0} (f : A → Words) → ((x : A) → IsOther (f x)) → (xs : List A) → AllByRecursion IsOther (map f xs)
all_map f each [] = tt
all_map f each (x ∷ xs) = (each x, all_map f each xs)

all_append : (xs ys : List Words) → AllByRecursion IsOther xs → AllByRecursion IsOther ys → AllByRecursion IsOther (xs ++ ys)
all_append [] ys h k = k
all_append (x ∷ xs) ys h k = (h.0, all_append xs ys h.1 k)

pub others : (i : Instance) (budget : ℕ) → AllByRecursion IsOther (instance_lines i budget ++ frozen_lines Two i.frozen)
others i budget =
    let places = all_map place_line (λ x. other _ _ (letter (codes "place") 1 (λ e. omega arith))) i.places in
    let travels = all_map travel_line (λ x. other _ _ (letter (codes "travel") 0 (λ e. omega arith))) i.travel in
    let teams = all_map team_line (λ x. other _ _ (letter (codes "team") 0 (λ e. omega arith))) i.teams in
    let tasks = all_map task_line (λ x. other _ _ (letter (codes "task") 0 (λ e. omega arith))) i.tasks in
    let keeps = all_map keep_line (λ x. other _ _ (letter (codes "keep") 0 (λ e. omega arith))) (jobs_from 0 i.frozen) in
    all_append (instance_lines i budget) (frozen_lines Two i.frozen) (
      other _ _ (letter (codes "size") 0 (λ e. omega arith)),
      all_append (map place_line i.places ++ map travel_line i.travel ++ map team_line i.teams) (map task_line i.tasks)
          (all_append (map place_line i.places ++ map travel_line i.travel) (map team_line i.teams)
          (all_append (map place_line i.places) (map travel_line i.travel) places travels) teams) tasks,
    )
    (other _ _ (letter (codes "frozen") 0 (λ e. omega arith)), keeps)

-- where such a line goes on, no pool is due
no_pool : (form : DossierForm) (i : Instance) (budget : ℕ) (ws : Words) (next : Reading) → IsOther ws → pool_row form i budget ws (dossiers.More next) → ⊥
no_pool form i budget ws next none (Holds shape rest) = none shape
no_pool form i budget ws next none (Fails broken told) = let e = told in absurd (cc)

is_head : (s : Reading) (ws : Words) (next : Reading) → IsOther ws → Says s ws (dossiers.More next) → head_due s ≡ Head s
is_head (Pools form i budget) ws next none h = absurd (no_pool form i budget ws next none h)
is_head dossiers.Form ws next none h = refl
is_head (dossiers.Sizes form) ws next none h = refl
is_head (dossiers.Places o k i) ws next none h = refl
is_head (dossiers.Travels o k i) ws next none h = refl
is_head (dossiers.Teams o k i) ws next none h = refl
is_head (dossiers.Tasks o k i) ws next none h = refl
is_head (dossiers.Frozens o i) ws next none h = refl
is_head (dossiers.Keeps o k from i) ws next none h = refl
is_head (dossiers.Routes b k) ws next none h = refl
is_head (dossiers.Plans b) ws next none h = refl
is_head (dossiers.Jobs b k from) ws next none h = refl
is_head (dossiers.Trees b) ws next none h = refl
is_head (dossiers.Nodes b c above) ws next none h = refl
is_head (dossiers.Whys p) ws next none h = refl
is_head (dossiers.Parts p now read k from) ws next none h = refl
is_head (dossiers.Spares p now read) ws next none h = refl
is_head (dossiers.Prices a) ws next none h = refl
is_head (dossiers.Extras a leaf j js) ws next none h = refl
is_head (dossiers.Worths a leaf k) ws next none h = refl
is_head (dossiers.Phis a leaf k table j js) ws next none h = refl
is_head (dossiers.Ends b c t) ws next none h = refl

pub head_reaches : (s : Reading) (lines : List Words) (i : Instance) (budget : ℕ) → AllByRecursion IsOther lines → Reaches s lines (Pools Two i budget) → ReachesInSheet (head_due s) lines (Bounds i budget)
head_reaches s [] i budget none h = ap head_due h
head_reaches s (ws ∷ lines) i budget none h = (
  head_due h.0,
  subst (λ r. SaysOfSheet r ws (More (head_due h.0))) (sym (is_head s ws h.0 none.0 h.1)) (dossiers.More h.0, h.1, refl),
  head_reaches h.0 lines i budget none.1 h.2,
)
