-- lists of tasks by the numbers of their parts are a division
use Rattle.std.proofs.Common.{◌≡◌, ◌≢◌, ◌≤◌, ◌<◌, ◌+◌, ◌-◌, ◌++◌, ◌∷◌, ◌∙◌, [], ◌⊎◌, inl, inr, ℕ, suc, List, length, get_or, refl, sym, ap, arith, subst}
use Rattle.std.specs.Prelude.{All, AllPairs, Contains}
use Rattle.std.specs.List.Sorted.{IsStrictlyIncreasing}
use Rattle.std.proofs.lemmas.Bool.{cases_lt}
use Rattle.std.proofs.lemmas.List.{get_or_append_left, get_or-append_right, get_or_default, get_or_push, length-append}
use Rattle.std.proofs.lemmas.List.Concat.{flat_map-cons}
use Rattle.std.proofs.lemmas.List.Elements.{All-push, All-nil, Contains-append_cases, Contains-append_left, Contains-append_right, Contains-get_or}
use Rattle.std.proofs.lemmas.List.Kept.{AllPairs-from_increasing}
use Rattle.crew_terms.specs.Minutes.{IsListOf}
use Rattle.part_cuts.specs.Divided.{AreLists, AreNumbers, HasNumber, IsDivision, all_tasks}

-- each is another one
abbrev Differ : List ℕ → Type 0
Differ ts = AllPairs (λ a b. a ≢ b) ts

differ_rising : (xs : List ℕ) → IsStrictlyIncreasing xs → Differ xs
differ_rising xs rising i j d l m e = let r = AllPairs-from_increasing xs rising i j d l m in absurd (omega arith)

differ_append : (xs ys : List ℕ) → Differ xs → Differ ys → ((x : ℕ) → Contains xs x → Contains ys x → ⊥) → Differ (xs ++ ys)
differ_append xs ys a b apart i j d l m e = by (cases_lt i (length xs)) (cases_lt j (length xs))
  where
    long : length (xs ++ ys) ≡ length xs + length ys
    long = length-append xs ys

    left : (k : ℕ) → k < length xs → get_or (xs ++ ys) k d ≡ get_or xs k d
    left k p = get_or_append_left xs ys d k p

    right : (k : ℕ) → length xs ≤ k → get_or (xs ++ ys) k d ≡ get_or ys (k - length xs) d
    right k p = get_or-append_right xs ys (length xs) k d refl p

    by : (i < length xs) ⊎ (length xs ≤ i) → (j < length xs) ⊎ (length xs ≤ j) → ⊥
    by (inl p) (inl q) = a i j d l q (sym (left i p) ∙ e ∙ left j q)
    by (inl p) (inr q) =
        apart (get_or xs i d) (Contains-get_or xs i d p)
        (subst (Contains ys) (sym (sym (left i p) ∙ e ∙ right j q)) (Contains-get_or ys (j - length xs) d (omega (arith, long))))
    by (inr p) (inl q) = absurd (omega arith)
    by (inr p) (inr q) = b (i - length xs) (j - length xs) d (omega arith) (omega (arith, long)) (sym (right i p) ∙ e ∙ right j q)

module _ (numbers : List ℕ) where
  -- the tasks of the parts from o on
  abbrev Lists : ℕ → List (List ℕ) → Type 0
  Lists o xss = (i : ℕ) → i < length xss → IsListOf (HasNumber numbers (o + i)) (get_or xss i [])

  head : (o : ℕ) (xs : List ℕ) (xss : List (List ℕ)) → Lists o (xs ∷ xss) → IsListOf (HasNumber numbers o) xs
  head o xs xss lists = let e : o + 0 ≡ o = omega arith in subst (λ k. IsListOf (HasNumber numbers k) xs) e (lists 0 (omega arith))

  tail : (o : ℕ) (xs : List ℕ) (xss : List (List ℕ)) → Lists o (xs ∷ xss) → Lists (o + 1) xss
  tail o xs xss lists i l =
      let e : o + suc i ≡ o + 1 + i = omega arith in
      subst (λ k. IsListOf (HasNumber numbers k) (get_or xss i [])) e (lists (suc i) (omega arith))

  from : (o : ℕ) (xss : List (List ℕ)) → Lists o xss → (t : ℕ) → Contains (all_tasks xss) t → (t < length numbers) × (o ≤ get_or numbers t 0)
  from o [] lists t (k, below, e) = absurd (omega arith)
  from o (xs ∷ xss) lists t c = by (Contains-append_cases xs (all_tasks xss) t (subst (λ ts. Contains ts t) (flat_map-cons (λ part. part) xs xss) c)) (from (o + 1) xss (tail o xs xss lists) t)
    where
      by : Contains xs t ⊎ Contains (all_tasks xss) t → (Contains (all_tasks xss) t → (t < length numbers) × (o + 1 ≤ get_or numbers t 0))
          → (t < length numbers) × (o ≤ get_or numbers t 0)
      by (inl d) later = let a = ((head o xs xss lists).each t).0 d in (a.0, let e = a.1 in omega arith)
      by (inr d) later = let a = later d in (a.0, let e = a.1 in omega arith)

  within : (o : ℕ) (xss : List (List ℕ)) → Lists o xss → (t : ℕ) → t < length numbers → o ≤ get_or numbers t 0 → get_or numbers t 0 < o + length xss → Contains (all_tasks xss) t
  within o [] lists t l le m = absurd (omega arith)
  within o (xs ∷ xss) lists t l le m =
      subst (λ ts. Contains ts t) (sym (flat_map-cons (λ part. part) xs xss)) (by (cases_lt o (get_or numbers t 0)) (within (o + 1) xss (tail o xs xss lists) t l))
    where
      by : (o < get_or numbers t 0) ⊎ (get_or numbers t 0 ≤ o) → (o + 1 ≤ get_or numbers t 0 → get_or numbers t 0 < o + 1 + length xss → Contains (all_tasks xss) t)
          → Contains (xs ++ all_tasks xss) t
      by (inl more) later = Contains-append_right xs (all_tasks xss) t (later (omega arith) (omega arith))
      by (inr few) later = Contains-append_left xs (all_tasks xss) t (((head o xs xss lists).each t).1 (l, omega arith))

  once : (o : ℕ) (xss : List (List ℕ)) → Lists o xss → Differ (all_tasks xss)
  once o [] lists = λ i j d l m. absurd (omega arith)
  once o (xs ∷ xss) lists =
      subst Differ (sym (flat_map-cons (λ part. part) xs xss))
      (differ_append xs (all_tasks xss) (differ_rising xs (head o xs xss lists).rising) (once (o + 1) xss (tail o xs xss lists))
      (λ t c d. let a = (((head o xs xss lists).each t).0 c).1 in let b = (from (o + 1) xss (tail o xs xss lists) t d).1 in absurd (omega arith)))

  pub is_division : (tasks last : ℕ) (lists : List (List ℕ)) → AreNumbers tasks last numbers → AreLists numbers (last + 1) lists → IsDivision tasks lists
  is_division tasks last lists are by' = record {
    rising = λ k d l. subst IsStrictlyIncreasing (get_or_default lists k [] d l) (by'.each k (let c = by'.count in omega arith)).rising;
    once = once 0 lists all;
    known = λ t c. let a = (from 0 lists all t c).0 in let n = are.count in omega arith;
    whole = λ t l. within 0 lists all t (let n = are.count in omega arith) (omega arith) (let n = are.count in let c = by'.count in let k = are.known t 0 (omega arith) in omega arith);
  }
    where
      all : Lists 0 lists
      all k l = let e : k ≡ 0 + k = omega arith in subst (λ n. IsListOf (HasNumber numbers n) (get_or lists k [])) e (by'.each k (let c = by'.count in omega arith))

  pub no_lists : (lists : List (List ℕ)) → lists ≡ [] → AreLists numbers 0 lists
  no_lists lists e = record { count = ap length e; each = λ k l. absurd (omega arith) }

  pub lists_more : (k : ℕ) (lists out : List (List ℕ)) (ts : List ℕ) → AreLists numbers k lists → IsListOf (HasNumber numbers k) ts → out ≡ lists ++ ts ∷ [] → AreLists numbers (k + 1) out
  lists_more k lists out ts are is e = subst (AreLists numbers (k + 1)) (sym e) (record {
    count = length-append lists (ts ∷ []) ∙ (let c = are.count in omega arith);
    each = λ i l. by i (cases_lt i k) (omega arith);
  })
    where
      by : (i : ℕ) → (i < k) ⊎ (k ≤ i) → i ≤ k → IsListOf (HasNumber numbers i) (get_or (lists ++ ts ∷ []) i [])
      by i (inl l) le = subst (IsListOf (HasNumber numbers i)) (sym (get_or_append_left lists (ts ∷ []) [] i (let c = are.count in omega arith))) (are.each i l)
      by i (inr l) le =
          let same : k ≡ i = omega arith in
          subst (IsListOf (HasNumber numbers i)) (sym (get_or_push lists ts [] i (are.count ∙ same))) (subst (λ n. IsListOf (HasNumber numbers n) ts) same is)

pub numbers_none : (last : ℕ) (ks : List ℕ) → ks ≡ [] → AreNumbers 0 last ks
numbers_none last ks e = record { count = ap length e; known = subst (All (λ k. k ≤ last)) (sym e) (All-nil (λ k. k ≤ last)) }

pub numbers_more : (tasks last : ℕ) (ks out : List ℕ) (k : ℕ) → AreNumbers tasks last ks → k ≤ last → out ≡ ks ++ k ∷ [] → AreNumbers (tasks + 1) last out
numbers_more tasks last ks out k are le e = subst (AreNumbers (tasks + 1) last) (sym e) (record {
  count = length-append ks (k ∷ []) ∙ (let c = are.count in omega arith);
  known = All-push (λ k. k ≤ last) ks k are.known le;
})
