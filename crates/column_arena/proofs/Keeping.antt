-- columns and their table, as a column is added
use Rattle.std.proofs.Common.{◌≡◌, ◌≢◌, ◌<◌, ◌≤◌, ◌+◌, inl, inr, ℕ, Bool, true, false, nat_eq, nat_lt, ◌-◌, List, [], ◌∷◌, ◌++◌, length, length-append, get_or, All, sym, ap, subst, refl, ◌∙◌, arith, true≢false}
use Rattle.std.specs.Prelude.{Any}
use Rattle.std.specs.Cmp.{unsigned_Decides}
use Rattle.std.proofs.lemmas.Bool.Decides.{nat_tests}
use Rattle.std.proofs.lemmas.Bool.{cases_lt, cases_Bool, and_parts}
use Rattle.std.proofs.lemmas.List.{get_or_append_left, get_or_push}
use Rattle.std.proofs.lemmas.List.Folds.{Any-from_list_any, list_any-from_Any}
use Rattle.std.proofs.lemmas.List.Elements.{All-push, Contains-get_or}
use Rattle.std.proofs.lemmas.List.Quantifiers.{all_pairs_push}
use Rattle.crew_terms.specs.declared.Visit.{Visit}
use Rattle.crew_terms.specs.Limits.{Route}
use Rattle.crew_terms.specs.declared.TheConstants.{MOST_TEAMS, MOST_TASKS}
use Rattle.column_arena.specs.Kept.{AreKept}
use Rattle.route_terms.specs.Routes.{IsNew}
use Rattle.column_arena.specs.Columns.{AreNumbersWith, FitsColumns, IsUsing, column_of, no_column}
use Rattle.column_arena.specs.Uses.{HaveSameNumbers, Held, IsNoted, held_at, is_at, is_last, place, with_number_if}
use Rattle.column_arena.proofs.Numbers.{numbers_of_none, numbers_same, numbers_push}

pub nothing_kept : AreKept [] []
nothing_kept = record {
  columns = record { each = λ k d l. absurd (omega arith); apart = λ i j d l m. absurd (omega arith) };
  uses = λ k j a b. numbers_of_none (λ i h. let l = h.known in omega arith);
}

-- the table may change where its numbers stay
pub kept_same : (cs : List Route) (old new : List Held) → HaveSameNumbers old new → AreKept cs old → AreKept cs new
kept_same cs old new same kept = record {
  columns = kept.columns;
  uses = λ k j a b. subst (AreNumbersWith (IsUsing cs k j)) (sym (same (place k j))) (kept.uses k j a b);
}

-- what is_at tells of a place
at_from : (k : ℕ) (visits : List Visit) (team j : ℕ) → All (λ (v : Visit). v.task < MOST_TASKS) visits → j < MOST_TASKS → is_at k visits (place team j) ≡ true
    → (team ≡ k) × Any (λ (v : Visit). v.task ≡ j) visits
at_from k visits team j small below h =
    let (m, v, less, is, e) = Any-from_list_any (λ (v : Visit). nat_eq (place k v.task) (place team j)) visits h in
    let same : place k v.task ≡ place team j = (unsigned_Decides _ _).0 e in
    let s : v.task < MOST_TASKS = subst (λ (w : Visit). w.task < 400) is (small m v less) in
    ((omega arith), (m, v, less, is, (omega arith)))

at_of : (k : ℕ) (visits : List Visit) (j : ℕ) → Any (λ (v : Visit). v.task ≡ j) visits → is_at k visits (place k j) ≡ true
at_of k visits j (m, v, less, is, e) =
    list_any-from_Any (λ (v : Visit). nat_eq (place k v.task) (place k j)) visits (m, v, less, is, (unsigned_Decides _ _).1 (ap (place k) e))

module _ (cs : List Route) (c : Route) where
  old_of : (i : ℕ) → i < length cs → column_of (cs ++ c ∷ []) i ≡ column_of cs i
  old_of i l = get_or_append_left cs (c ∷ []) no_column i l

  new_of : column_of (cs ++ c ∷ []) (length cs) ≡ c
  new_of = get_or_push cs c no_column (length cs) refl

  long : length (cs ++ c ∷ []) ≡ length cs + 1
  long = length-append cs (c ∷ [])

  using_more : (k j i : ℕ) → IsUsing cs k j i → IsUsing (cs ++ c ∷ []) k j i
  using_more k j i h = let e = sym (old_of i h.known) in record {
    known = let l = h.known in omega (arith, long);
    team = subst (λ (o : Route). o.team ≡ k) e h.team;
    visits = subst (λ (o : Route). Any (λ (v : Visit). v.task ≡ j) o.visits) e h.visits;
  }

  using_less : (k j i : ℕ) → i < length cs → IsUsing (cs ++ c ∷ []) k j i → IsUsing cs k j i
  using_less k j i l h = let e = old_of i l in record {
    known = l;
    team = subst (λ (o : Route). o.team ≡ k) e h.team;
    visits = subst (λ (o : Route). Any (λ (v : Visit). v.task ≡ j) o.visits) e h.visits;
  }

  using_last : (k j : ℕ) → c.team ≡ k → Any (λ (v : Visit). v.task ≡ j) c.visits → IsUsing (cs ++ c ∷ []) k j (length cs)
  using_last k j team visits = let e = sym new_of in record {
    known = omega (arith, long);
    team = subst (λ (o : Route). o.team ≡ k) e team;
    visits = subst (λ (o : Route). Any (λ (v : Visit). v.task ≡ j) o.visits) e visits;
  }

  last_uses : (k j i : ℕ) → length cs ≤ i → IsUsing (cs ++ c ∷ []) k j i → (length cs ≡ i) × (c.team ≡ k) × Any (λ (v : Visit). v.task ≡ j) c.visits
  last_uses k j i past h =
      let l = h.known in
      let e : i ≡ length cs = omega (arith, long) in
      let o : column_of (cs ++ c ∷ []) i ≡ c = ap (column_of (cs ++ c ∷ [])) e ∙ new_of in
      (sym e, subst (λ (o : Route). o.team ≡ k) o h.team, subst (λ (o : Route). Any (λ (v : Visit). v.task ≡ j) o.visits) o h.visits)

  uses_more : (k j : ℕ) (h : Held) (b : Bool) → is_at c.team c.visits (place k j) ≡ b → All (λ (v : Visit). v.task < MOST_TASKS) c.visits → j < MOST_TASKS
      → AreNumbersWith (IsUsing cs k j) h.ids → AreNumbersWith (IsUsing (cs ++ c ∷ []) k j) (with_number_if b h (length cs)).ids
  uses_more k j h true is small below are =
      let (team, visits) = at_from c.team c.visits k j small below is in
      numbers_push h.ids (length cs) are (λ i u. u.known) (using_more k j) (using_last k j (sym team) visits)
      (λ i u. elim (cases_lt i (length cs)) [ inl l ↦ inl (using_less k j i l u) | inr past ↦ inr (last_uses k j i past u).0 ])
  uses_more k j h false is small below are = numbers_same h.ids are (λ i. (
    using_more k j i,
    (λ u. elim (cases_lt i (length cs)) [
      | inl l ↦ using_less k j i l u
      | inr past ↦ absurd (
          let (e, team, visits) = last_uses k j i past u in
          true≢false (sym (subst (λ t. is_at c.team c.visits (place t j) ≡ true) team (at_of c.team c.visits j visits)) ∙ is))
    ]),
  ))

  pub kept_more : (old new : List Held) → FitsColumns c → IsNew cs c → IsNoted old c.team c.visits (length cs) new → AreKept cs old → AreKept (cs ++ c ∷ []) new
  kept_more old new is fresh noted kept = record {
    columns = record {
      each = All-push FitsColumns cs c kept.columns.each is;
      apart = all_pairs_push (λ a b. a ≢ b) cs c kept.columns.apart fresh;
    };
    uses = λ k j a b. subst (λ (h : Held). AreNumbersWith (IsUsing (cs ++ c ∷ []) k j) h.ids) (sym (noted (place k j)))
        (uses_more k j (held_at old (place k j)) (is_at c.team c.visits (place k j)) refl is.tasks b (kept.uses k j a b));
  }

-- no list of the table ends with the number of the next column
pub next_is_last : (cs : List Route) (table : List Held) (k j : ℕ) → AreKept cs table → k < MOST_TEAMS → j < MOST_TASKS → is_last (held_at table (place k j)).ids (length cs) ≡ false
next_is_last cs table k j kept a b = elim (cases_Bool (is_last ids (length cs))) [
  | inr not ↦ not
  | inl last ↦ absurd (
      let (some, at) = and_parts _ _ last in
      let e : get_or ids (length ids - 1) 0 ≡ length cs = (unsigned_Decides _ _).0 at in
      let l : 0 < length ids = positive (length ids) some in
      let known = ((are.each (get_or ids (length ids - 1) 0)).0 (Contains-get_or ids (length ids - 1) 0 (omega arith))).known in omega arith)
]
  where
    ids : List ℕ
    ids = (held_at table (place k j)).ids

    are : AreNumbersWith (IsUsing cs k j) ids
    are = kept.uses k j a b

    positive : (n : ℕ) → nat_lt 0 n ≡ true → 0 < n
    positive n h = grind (arith, nat_tests)
