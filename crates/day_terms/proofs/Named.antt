-- what stands under a name in a list, and the list with it changed or gone
use Rattle.std.proofs.Common.{◌≡◌, ◌≢◌, ◌<◌, ◌↔◌, ◌++◌, ℕ, zero, suc, Bool, true, false, not, List, [], ◌∷◌, Some, length, map, filter, slice_get, option_map, refl, ap, sym, ◌∙◌, subst, arith, if◌then◌else◌}
use Rattle.std.specs.Prelude.{All, Any, Contains, bytes_eq, slice_index_or}
use Rattle.std.specs.List.{list_any}
use Rattle.std.proofs.lemmas.List.{length-map}
use Rattle.std.proofs.lemmas.List.Elements.{All-head, All-tail, All-filter, All-contains, All-contains_itself, filter_passes}
use Rattle.std.proofs.lemmas.List.Folds.{Any-from_list_any, list_any-from_Any}
use Rattle.std.proofs.lemmas.Option.{slice_get-map}
use Rattle.std.proofs.lemmas.Slice.Eq.{bytes_eq-Decides}
use Rattle.day_terms.specs.ByTest.{by_test}
use Rattle.day_terms.proofs.Times.{Bytes, no_tie}

module _ {X : Type 0} (name : X → Bytes) where
  abbrev has : Bytes → X → Bool
  has k x = bytes_eq k (name x)

  -- it has another name
  abbrev pub IsOther : Bytes → X → Type 0
  IsOther k x = name x ≢ k

  has_it : (k : Bytes) (x : X) → name x ≡ k → has k x ≡ true
  has_it k x named = (bytes_eq-Decides k (name x)).1 (sym named)

  has_other : (k : Bytes) (x : X) → IsOther k x → has k x ≡ false
  has_other k x other = no_tie k (name x) (λ e. other (sym e))

  pub known : (xs : List X) (k : Bytes) → (list_any (has k) xs ≡ true) ↔ Any (λ x. name x ≡ k) xs
  known xs k = (
    (λ h. let a = Any-from_list_any (has k) xs h in (a.0, a.1, a.2, a.3, sym ((bytes_eq-Decides k (name a.1)).0 a.4))),
    (λ a. list_any-from_Any (has k) xs (a.0, a.1, a.2, a.3, has_it k a.1 a.4)),
  )

  -- ---- changed

  abbrev pub changed : List X → Bytes → (X → X) → List X
  changed xs k f = map (λ x. if has k x then f x else x) xs

  pub changed_count : (xs : List X) (k : Bytes) (f : X → X) → length (changed xs k f) ≡ length xs
  changed_count xs k f = length-map xs (λ x. if has k x then f x else x)

  changed_at : (xs : List X) (k : Bytes) (f : X → X) (j : ℕ) (x : X) → slice_get xs j ≡ Some x → slice_get (changed xs k f) j ≡ Some (if has k x then f x else x)
  changed_at xs k f j x at = slice_get-map (λ x. if has k x then f x else x) xs j ∙ ap (option_map (λ x. if has k x then f x else x)) at

  pub changed_named : (xs : List X) (k : Bytes) (f : X → X) (j : ℕ) (x : X) → slice_get xs j ≡ Some x → name x ≡ k → slice_get (changed xs k f) j ≡ Some (f x)
  changed_named xs k f j x at named = changed_at xs k f j x at ∙ ap (λ b. Some (if b then f x else x)) (has_it k x named)

  pub changed_other : (xs : List X) (k : Bytes) (f : X → X) (j : ℕ) (x : X) → slice_get xs j ≡ Some x → IsOther k x → slice_get (changed xs k f) j ≡ Some x
  changed_other xs k f j x at other = changed_at xs k f j x at ∙ ap (λ b. Some (if b then f x else x)) (has_other k x other)

  -- ---- gone

  abbrev pub left : List X → Bytes → List X
  left xs k = filter (λ x. not (has k x)) xs

  left_here : (x : X) (xs : List X) (k : Bytes) → has k x ≡ false → left (x ∷ xs) k ≡ x ∷ left xs k
  left_here x xs k t = rw t refl

  gone_here : (x : X) (xs : List X) (k : Bytes) → has k x ≡ true → left (x ∷ xs) k ≡ left xs k
  gone_here x xs k t = rw t refl

  pub none_gone : (xs : List X) (k : Bytes) → All (IsOther k) xs → left xs k ≡ xs
  none_gone [] k others = refl
  none_gone (x ∷ xs) k others =
      left_here x xs k (has_other k x (All-head (IsOther k) x xs others)) ∙ ap (λ ys. x ∷ ys) (none_gone xs k (All-tail (IsOther k) x xs others))

  pub one_gone : (front back : List X) (x : X) (k : Bytes) → name x ≡ k → All (IsOther k) front → All (IsOther k) back → left (front ++ x ∷ back) k ≡ front ++ back
  one_gone [] back x k named before behind = gone_here x back k (has_it k x named) ∙ none_gone back k behind
  one_gone (y ∷ front) back x k named before behind =
      left_here y (front ++ x ∷ back) k (has_other k y (All-head (IsOther k) y front before))
      ∙ ap (λ ys. y ∷ ys) (one_gone front back x k named (All-tail (IsOther k) y front before) behind)

  left_at : (xs : List X) (k : Bytes) (x : X) (n : ℕ) → IsOther k x → n < length xs → slice_index_or xs n x ≡ x → Contains (left xs k) x
  left_at [] k x n other within at = absurd (omega arith)
  left_at (y ∷ ys) k x zero other within at =
      let t : has k y ≡ false = ap (λ z. has k z) at ∙ has_other k x other in
      subst (λ zs. Contains zs x) (sym (left_here y ys k t)) (0, omega arith, at)
  left_at (y ∷ ys) k x (suc n) other within at =
      let r = left_at ys k x n other (omega arith) at in
      by_test (has k y)
      (λ t. subst (λ zs. Contains zs x) (sym (gone_here y ys k t)) r)
      (λ t. subst (λ zs. Contains zs x) (sym (left_here y ys k t)) (suc r.0, (let w = r.1 in omega arith), r.2))

  was_there : (xs : List X) (k : Bytes) (x : X) → Contains (left xs k) x → Contains xs x × IsOther k x
  was_there xs k x stays =
      let test : X → Bool = λ x. not (has k x) in
      let passes = All-contains (λ x. test x ≡ true) (left xs k) x (filter_passes test xs) stays in (
        All-contains (Contains xs) (left xs k) x (All-filter test (Contains xs) xs (All-contains_itself xs)) stays,
        (λ named. let t = has_it k x named in absurd (let e : not (has k x) ≡ false = ap not t in cc)),
      )

  pub stays : (xs : List X) (k : Bytes) (x : X) → Contains (left xs k) x ↔ (Contains xs x × IsOther k x)
  stays xs k x = (was_there xs k x, λ h. left_at xs k x h.0.0 h.1 h.0.1 h.0.2)
