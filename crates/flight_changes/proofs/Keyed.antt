-- entries under the names of what they hold
use Rattle.std.proofs.Common.{◌≡◌, ◌≢◌, ◌++◌, ℕ, Bool, true, false, not, List, [], ◌∷◌, Option, Some, None, is_some, Bor, MutBor, map, filter, arith, refl, sym, ap, subst, ◌∙◌, if◌then◌else◌}
use Rattle.std.proofs.lemmas.List.Elements.{All-head, All-tail}
use Rattle.std.specs.Prelude.{All, AllPairs, IsSome, bytes_eq, find, option_copied}
use Rattle.std.specs.Option.{option_copied_mut}
use Rattle.std.specs.List.{AllByRecursion, IsDistinct, list_any}
use Rattle.std.specs.Map.{keys_of, values_of, lookup, remove_entry, set_value}
use Rattle.std.proofs.lemmas.List.{get_or-map, length-map, map-append}
use Rattle.indexmap.specs.IndexMap.{insert_entry}
use Rattle.day_terms.specs.ByTest.{by_test}
use Rattle.std.proofs.lemmas.Map.Keys.{IsDistinct-head, IsDistinct-tail}
use Rattle.std.proofs.lemmas.Map.Made.{AllPairs-from_IsDistinct, IsDistinct-from_AllPairs}
use Rattle.std.proofs.lemmas.Slice.Eq.{bytes_eq-Decides}

abbrev pub Bytes : Type 0
Bytes = List ℕ

pub same_bytes : (a b : Bytes) → bytes_eq a b ≡ true → a ≡ b
same_bytes a b h = (bytes_eq-Decides a b).0 h

pub some_copied : {X : Type 0} (o : Option (Bor X)) → is_some (option_copied o) ≡ true → IsSome o
some_copied None e = cc
some_copied (Some x) e = refl

pub some_copied_mut : {X : Type 0} (o : Option (MutBor X)) → is_some (option_copied_mut o) ≡ true → IsSome o
some_copied_mut None e = cc
some_copied_mut (Some x) e = refl

module _ {X : Type 0} (name : X → Bytes) where
  -- each entry stands under the name of its value
  abbrev pub IsNamed : List (Bytes × X) → Type 0
  IsNamed es = keys_of es ≡ map name (values_of es)

  -- whether the value has the name
  abbrev pub has : Bytes → X → Bool
  has k x = bytes_eq k (name x)

  named_head : (e : Bytes × X) (es : List (Bytes × X)) → IsNamed (e ∷ es) → e.0 ≡ name e.1
  named_head e es h = cc

  named_tail : (e : Bytes × X) (es : List (Bytes × X)) → IsNamed (e ∷ es) → IsNamed es
  named_tail e es h = cc

  -- what a name is looked up to is the first value that has it
  pub looked_up : (es : List (Bytes × X)) (k : Bytes) → IsNamed es → lookup (bytes_eq k) es ≡ find (has k) (values_of es)
  looked_up [] k h = refl
  looked_up (e ∷ es) k h =
      let a = named_head e es h in
      let r = looked_up es k (named_tail e es h) in
      cc

  pub is_some_find : (xs : List X) (p : X → Bool) → is_some (find p xs) ≡ list_any p xs
  is_some_find [] p = refl
  is_some_find (x ∷ xs) p = by_test (p x) (λ t. rw t refl) (λ t. rw t (is_some_find xs p))

  -- a name is there exactly where a value has it
  pub is_there : (es : List (Bytes × X)) (k : Bytes) → IsNamed es → is_some (lookup (bytes_eq k) es) ≡ list_any (has k) (values_of es)
  is_there es k h = ap is_some (looked_up es k h) ∙ is_some_find (values_of es) (has k)

  -- no key is the name
  abbrev IsFree : Bytes → List (Bytes × X) → Type 0
  IsFree k es = AllByRecursion (λ y. bytes_eq k y ≡ false) (keys_of es)

  filtered_free : (es : List (Bytes × X)) (k : Bytes) → IsNamed es → IsFree k es → filter (λ x. not (has k x)) (values_of es) ≡ values_of es
  filtered_free [] k h free = refl
  filtered_free (e ∷ es) k h free =
      let a = named_head e es h in
      let f : has k e.1 ≡ false = ap (bytes_eq k) (sym a) ∙ free.0 in
      rw f (ap (λ xs. e.1 ∷ xs) (filtered_free es k (named_tail e es h) free.1))

  mapped_free : (es : List (Bytes × X)) (k : Bytes) (v : X) → IsNamed es → IsFree k es → map (λ x. if has k x then v else x) (values_of es) ≡ values_of es
  mapped_free [] k v h free = refl
  mapped_free (e ∷ es) k v h free =
      let a = named_head e es h in
      let f : has k e.1 ≡ false = ap (bytes_eq k) (sym a) ∙ free.0 in
      rw f (ap (λ xs. e.1 ∷ xs) (mapped_free es k v (named_tail e es h) free.1))

  free_rest : (e : Bytes × X) (es : List (Bytes × X)) (k : Bytes) → bytes_eq k e.0 ≡ true → IsDistinct bytes_eq (keys_of (e ∷ es)) → IsFree k es
  free_rest e es k t d = subst (λ z. IsFree z es) (sym (same_bytes k e.0 t)) (IsDistinct-head bytes_eq e.0 (keys_of es) d)

  -- without the name's entry, the values are those that have another name
  pub removed : (es : List (Bytes × X)) (k : Bytes) → IsNamed es → IsDistinct bytes_eq (keys_of es) → values_of (remove_entry (bytes_eq k) es) ≡ filter (λ x. not (has k x)) (values_of es)
  removed [] k h d = refl
  removed (e ∷ es) k h d =
      let a = named_head e es h in
      let n = named_tail e es h in
      by_test (bytes_eq k e.0) (λ t.
      let u : has k e.1 ≡ true = ap (bytes_eq k) (sym a) ∙ t in
      rw (t, u) (sym (filtered_free es k n (free_rest e es k t d)))) (λ t.
      let u : has k e.1 ≡ false = ap (bytes_eq k) (sym a) ∙ t in
      rw (t, u) (ap (λ xs. e.1 ∷ xs) (removed es k n (IsDistinct-tail bytes_eq e.0 (keys_of es) d))))

  pub named_removed : (es : List (Bytes × X)) (k : Bytes) → IsNamed es → IsNamed (remove_entry (bytes_eq k) es)
  named_removed [] k h = refl
  named_removed (e ∷ es) k h =
      let a = named_head e es h in
      let n = named_tail e es h in
      by_test (bytes_eq k e.0) (λ t. rw t n) (λ t.
      let r = named_removed es k n in
      rw t (ap (λ z. z ∷ keys_of (remove_entry (bytes_eq k) es)) a ∙ ap (λ zs. name e.1 ∷ zs) r))

  -- with a value written to its name's entry, the value that had the name is that one
  pub written : (es : List (Bytes × X)) (v : X) → IsNamed es → IsDistinct bytes_eq (keys_of es) → values_of (set_value (bytes_eq (name v)) es v) ≡ map (λ x. if has (name v) x then v else x) (values_of es)
  written [] v h d = refl
  written (e ∷ es) v h d =
      let a = named_head e es h in
      let n = named_tail e es h in
      by_test (bytes_eq (name v) e.0) (λ t.
      let u : has (name v) e.1 ≡ true = ap (bytes_eq (name v)) (sym a) ∙ t in
      rw (t, u) (ap (λ xs. v ∷ xs) (sym (mapped_free es (name v) v n (free_rest e es (name v) t d))))) (λ t.
      let u : has (name v) e.1 ≡ false = ap (bytes_eq (name v)) (sym a) ∙ t in
      rw (t, u) (ap (λ xs. e.1 ∷ xs) (written es v n (IsDistinct-tail bytes_eq e.0 (keys_of es) d))))

  pub named_written : (es : List (Bytes × X)) (v : X) → IsNamed es → IsNamed (set_value (bytes_eq (name v)) es v)
  named_written [] v h = refl
  named_written (e ∷ es) v h =
      let a = named_head e es h in
      let n = named_tail e es h in
      by_test (bytes_eq (name v) e.0) (λ t.
      let s = same_bytes (name v) e.0 t in
      rw t (ap (λ z. z ∷ keys_of es) (sym s) ∙ ap (λ zs. name v ∷ zs) n)) (λ t.
      let r = named_written es v n in
      rw t (ap (λ z. z ∷ keys_of (set_value (bytes_eq (name v)) es v)) a ∙ ap (λ zs. name e.1 ∷ zs) r))

  pub named_added : (es : List (Bytes × X)) (v : X) → IsNamed es → IsNamed (es ++ (name v, v) ∷ [])
  named_added [] v h = refl
  named_added (e ∷ es) v h =
      let a = named_head e es h in
      let r = named_added es v (named_tail e es h) in
      ap (λ z. z ∷ keys_of (es ++ (name v, v) ∷ [])) a ∙ ap (λ zs. name e.1 ∷ zs) r

  -- no value has the name
  abbrev IsUnused : Bytes → List X → Type 0
  IsUnused k xs = AllByRecursion (λ y. bytes_eq k y ≡ false) (map name xs)

  changed_unused : (xs : List X) (k : Bytes) (f : X → X) → IsUnused k xs → map (λ x. if has k x then f x else x) xs ≡ xs
  changed_unused [] k f free = refl
  changed_unused (x ∷ xs) k f free = rw free.0 (ap (λ ys. x ∷ ys) (changed_unused xs k f free.1))

  -- where one value has the name, it alone is changed
  pub changed_one : (xs : List X) (k : Bytes) (f : X → X) (x : X) → IsDistinct bytes_eq (map name xs) → find (has k) xs ≡ Some x → map (λ y. if has k y then f x else y) xs ≡ map (λ y. if has k y then f y else y) xs
  changed_one [] k f x d found = refl
  changed_one (y ∷ ys) k f x d found =
      by_test (has k y) (λ u.
      let s : Some y ≡ Some x = rw u at found in
      let z : y ≡ x = cc in
      let free : IsUnused k ys = subst (λ w. IsUnused w ys) (sym (same_bytes k (name y) u)) (IsDistinct-head bytes_eq (name y) (map name ys) d) in
      let same = changed_unused ys k (λ _. f x) free ∙ sym (changed_unused ys k f free) in
      rw u (ap (λ w. f w ∷ map (λ y. if has k y then f x else y) ys) (sym z) ∙ ap (λ xs. f y ∷ xs) same)) (λ u.
      let s : find (has k) ys ≡ Some x = rw u at found in
      rw u (ap (λ xs. y ∷ xs) (changed_one ys k f x (IsDistinct-tail bytes_eq (name y) (map name ys) d) s)))

  pub found_has : (xs : List X) (k : Bytes) (x : X) → find (has k) xs ≡ Some x → has k x ≡ true
  found_has [] k x found = cc
  found_has (y ∷ ys) k x found =
      by_test (has k y) (λ u. let s : Some y ≡ Some x = rw u at found in let z : y ≡ x = cc in subst (λ w. has k w ≡ true) z u) (λ u. found_has ys k x (rw u at found))

  pub found_all : (P : X → Type 0) (xs : List X) (k : Bytes) (x : X) → All P xs → find (has k) xs ≡ Some x → P x
  found_all P [] k x all found = cc
  found_all P (y ∷ ys) k x all found =
      by_test (has k y) (λ u. let s : Some y ≡ Some x = rw u at found in let z : y ≡ x = cc in subst P z (All-head P y ys all)) (λ u. found_all P ys k x (All-tail P y ys all) (rw u at found))

  -- the names differ where the keys do, and the other way round
  pub apart : (es : List (Bytes × X)) → IsNamed es → IsDistinct bytes_eq (keys_of es) → AllPairs (λ a b. name a ≢ name b) (values_of es)
  apart es h d i j x less below same =
      let all : AllPairs (λ a b. a ≢ b) (map name (values_of es)) = subst (AllPairs (λ a b. a ≢ b)) h (AllPairs-from_IsDistinct bytes_eq-Decides (keys_of es) d) in
      let l = length-map (values_of es) name in
      let a = get_or-map name (values_of es) i x (name x) (omega arith) in
      let b = get_or-map name (values_of es) j x (name x) below in
      all i j (name x) less (omega arith) (a ∙ same ∙ sym b)

  pub named_pairs : (xs : List X) → AllPairs (λ a b. name a ≢ name b) xs → AllPairs (λ a b. a ≢ b) (map name xs)
  named_pairs [] all i j x less below same = absurd (omega arith)
  named_pairs (y ∷ ys) all i j x less below same =
      let l = length-map (y ∷ ys) name in
      let a = get_or-map name (y ∷ ys) i y x (omega arith) in
      let b = get_or-map name (y ∷ ys) j y x (omega arith) in
      all i j y less (omega arith) (sym a ∙ same ∙ b)

  pub distinct : (es : List (Bytes × X)) → IsNamed es → AllPairs (λ a b. name a ≢ name b) (values_of es) → IsDistinct bytes_eq (keys_of es)
  distinct es h all = IsDistinct-from_AllPairs bytes_eq-Decides (keys_of es) (subst (AllPairs (λ a b. a ≢ b)) (sym h) (named_pairs (values_of es) all))

  inserted_new : (es : List (Bytes × X)) (k : Bytes) (v : X) → lookup (bytes_eq k) es ≡ None → insert_entry bytes_eq es k v ≡ es ++ (k, v) ∷ []
  inserted_new [] k v none = refl
  inserted_new (e ∷ es) k v none =
      by_test (bytes_eq k e.0) (λ t. let f : Some e.1 ≡ None = rw t at none in cc) (λ t. let f : lookup (bytes_eq k) es ≡ None = rw t at none in rw t (ap (λ r. e ∷ r) (inserted_new es k v f)))

  none_by : (o : Option X) → is_some o ≡ false → o ≡ None
  none_by None e = refl
  none_by (Some x) e = cc

  -- entries that hold these values, each under its name, which no other has
  pub record Hold (es : List (Bytes × X)) (xs : List X) : Type 0 where
    pub named : IsNamed es
    pub values : values_of es ≡ xs
    pub apart_names : AllPairs (λ a b. name a ≢ name b) xs

  hold : (es : List (Bytes × X)) (xs : List X) → IsNamed es → IsDistinct bytes_eq (keys_of es) → values_of es ≡ xs → Hold es xs
  hold es xs h d e = record { named = h; values = e; apart_names = subst (AllPairs (λ a b. name a ≢ name b)) e (apart es h d) }

  pub hold_added : (old new : List (Bytes × X)) (v : X) → IsNamed old → list_any (has (name v)) (values_of old) ≡ false → new ≡ insert_entry bytes_eq old (name v) v → IsDistinct bytes_eq (keys_of new) → Hold new (values_of old ++ v ∷ [])
  hold_added old new v h free e d =
      let none = none_by (lookup (bytes_eq (name v)) old) (is_there old (name v) h ∙ free) in
      let f : new ≡ old ++ (name v, v) ∷ [] = e ∙ inserted_new old (name v) v none in
      hold new (values_of old ++ v ∷ []) (subst IsNamed (sym f) (named_added old v h)) d (ap values_of f ∙ map-append (λ p. p.1) old ((name v, v) ∷ []))

  pub hold_removed : (old new : List (Bytes × X)) (k : Bytes) → IsNamed old → AllPairs (λ a b. name a ≢ name b) (values_of old) → new ≡ remove_entry (bytes_eq k) old → IsDistinct bytes_eq (keys_of new) → Hold new (filter (λ x. not (has k x)) (values_of old))
  hold_removed old new k h all e d =
      hold new (filter (λ x. not (has k x)) (values_of old)) (subst IsNamed (sym e) (named_removed old k h)) d (ap values_of e ∙ removed old k h (distinct old h all))

  pub hold_written : (old new : List (Bytes × X)) (v : X) → IsNamed old → AllPairs (λ a b. name a ≢ name b) (values_of old) → new ≡ set_value (bytes_eq (name v)) old v → IsDistinct bytes_eq (keys_of new) → Hold new (map (λ x. if has (name v) x then v else x) (values_of old))
  hold_written old new v h all e d =
      hold new (map (λ x. if has (name v) x then v else x) (values_of old)) (subst IsNamed (sym e) (named_written old v h)) d (ap values_of e ∙ written old v h (distinct old h all))
