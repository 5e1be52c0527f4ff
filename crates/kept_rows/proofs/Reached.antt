-- how far columns reach
use Rattle.std.proofs.Common.{◌≡◌, ◌≢◌, ◌<◌, ◌≤◌, ◌*◌, ◌+◌, ◌∙◌, ◌⊎◌, inl, inr, ℕ, suc, List, length, ap, sym, subst, arith, All, slice_index}
use Rattle.std.specs.Prelude.{ℤ, ◌+ℤ◌, ◌*ℤ◌, unsigned_abs, Option, Some, IfSome}
use Rattle.std.proofs.lemmas.Int.{ints, unsigned_abs-mul}
use Rattle.std.proofs.lemmas.Bool.{cases_eq}
use Rattle.search_terms.specs.Rows.{Row, number}
use Rattle.kept_rows.specs.Bounds.{IsFarther, IsGreater, IsReachWith, IsSmall}
use Rattle.kept_rows.specs.Columns.{full}
use Rattle.kept_rows.specs.Replaced.{AllFit, IsMost, IsWithin}
use Rattle.kept_rows.specs.Sums.{sum_to}
use Rattle.kept_rows.specs.declared.bounds.Reach.{Reach}
use Rattle.kept_rows.specs.declared.columns.Column.{Column}
use Rattle.kept_rows.proofs.Entries.{full_at, some_column}
use Rattle.kept_rows.proofs.Steps.{small_steps}

-- no number of the row but that at the place `last` is greater
abbrev pub IsMostBut : ℕ → Row → ℕ → Type 0
IsMostBut last row others = (i : ℕ) → i ≢ last → unsigned_abs (number row i) ≤ others

-- the first h products of the column are within the reach
abbrev pub IsWithinTo : ℕ → Reach → Column → ℕ → Type 0
IsWithinTo last r c h = (row : Row) (others : ℕ) → IsMostBut last row others
    → unsigned_abs (sum_to h row c.at.items c.numbers.items) ≤ r.others * others + r.last * unsigned_abs (number row last)

abs_sum : (x y : ℤ) → unsigned_abs (x +ℤ y) ≤ unsigned_abs x + unsigned_abs y
abs_sum x y = omega (arith, ints)

mul_le_left : (a b m : ℕ) → a ≤ b → a * m ≤ b * m
mul_le_left a b m h = grind arith

add_others : (s a b o l m x y more : ℕ) → s ≤ a * m + l * x → y ≤ m * more → o ≡ a + more → s + y ≤ o * m + l * x
add_others s a b o l m x y more h k e =
    let f : o * m ≡ a * m + m * more = ap (λ q. q * m) e ∙ omega arith in
    omega (arith, f)

add_last : (s a l n m x y more : ℕ) → s ≤ a * m + l * x → y ≤ x * more → n ≡ l + more → s + y ≤ a * m + n * x
add_last s a l n m x y more h k e =
    let f : n * x ≡ l * x + x * more = ap (λ q. q * x) e ∙ omega arith in
    omega (arith, f)

pub within_more : (last : ℕ) (r new : Reach) (c : Column) (h : ℕ) → IsWithinTo last r c h
    → IsFarther r (slice_index c.at.items h) (unsigned_abs (number c.numbers.items h)) last new → IsWithinTo last new c (h + 1)
within_more last r new c h w f = λ row others most. by_place row others most (cases_eq (slice_index c.at.items h) last)
  where
    by_place : (row : Row) (others : ℕ) → IsMostBut last row others → (slice_index c.at.items h ≡ last) ⊎ (slice_index c.at.items h ≢ last)
        → unsigned_abs (sum_to (h + 1) row c.at.items c.numbers.items) ≤ new.others * others + new.last * unsigned_abs (number row last)
    by_place row others most (inl e) =
        let s = sum_to h row c.at.items c.numbers.items in
        let x = number row (slice_index c.at.items h) in
        let y = number c.numbers.items h in
        let z : suc h ≡ h + 1 = omega arith in
        let k : unsigned_abs (x *ℤ y) ≤ unsigned_abs (number row last) * unsigned_abs y =
        let q = unsigned_abs-mul x y ∙ ap (λ i. unsigned_abs (number row i) * unsigned_abs y) e in omega (arith, q) in
        let g = f.here e in
        let a = add_last (unsigned_abs s) r.others r.last new.last others (unsigned_abs (number row last)) (unsigned_abs (x *ℤ y)) (unsigned_abs y) (w row others most) k g.0 in
        let b = subst (λ o. unsigned_abs s + unsigned_abs (x *ℤ y) ≤ o * others + new.last * unsigned_abs (number row last)) (sym g.1) a in
        let t = abs_sum s (x *ℤ y) in
        subst (λ m. unsigned_abs (sum_to m row c.at.items c.numbers.items) ≤ new.others * others + new.last * unsigned_abs (number row last)) z (omega (arith, b, t))
    by_place row others most (inr ne) =
        let s = sum_to h row c.at.items c.numbers.items in
        let x = number row (slice_index c.at.items h) in
        let y = number c.numbers.items h in
        let z : suc h ≡ h + 1 = omega arith in
        let k : unsigned_abs (x *ℤ y) ≤ others * unsigned_abs y =
        let q = unsigned_abs-mul x y in let u = mul_le_left (unsigned_abs x) others (unsigned_abs y) (most (slice_index c.at.items h) ne) in omega (arith, q, u) in
        let g = f.there ne in
        let a = add_others (unsigned_abs s) r.others 0 new.others r.last others (unsigned_abs (number row last)) (unsigned_abs (x *ℤ y)) (unsigned_abs y) (w row others most) k g.0 in
        let b = subst (λ l. unsigned_abs s + unsigned_abs (x *ℤ y) ≤ new.others * others + l * unsigned_abs (number row last)) (sym g.1) a in
        let t = abs_sum s (x *ℤ y) in
        subst (λ m. unsigned_abs (sum_to m row c.at.items c.numbers.items) ≤ new.others * others + new.last * unsigned_abs (number row last)) z (omega (arith, b, t))

pub within_none : (last : ℕ) (r : Reach) (c : Column) → IsWithinTo last r c 0
within_none last r c = λ row others most. omega arith

-- a greater reach holds what the lesser one does
pub within_greater : (last : ℕ) (r s : Reach) (c : Column) → r.others ≤ s.others → r.last ≤ s.last → IsWithin last r c → IsWithin last s c
within_greater last r s c h k w = λ row others most.
    let a = mul_le_left r.others s.others others h in
    let b = mul_le_left r.last s.last (unsigned_abs (number row last)) k in
    let d = w row others most in
    omega (arith, a, b, d)

pub reached : (before : Option Reach) (last : ℕ) (c : Column) (was r : Reach) (more : Reach) → before ≡ Some was → IsWithin last more c → IsGreater was more r → IsReachWith before last c r
reached before last c was r more is w g = record {
  was = was;
  is = is;
  others = g.others.0;
  ending = g.last.0;
  within = within_greater last more r c g.others.1 g.last.1 w;
}

-- the reach of all columns bounds a row's numbers
pub most_is : (columns : List Column) (last : ℕ) (r : Reach) (row : Row) (others ending m : ℕ) → All (IsWithin last r) columns → IsMostBut last row others
    → ending ≡ unsigned_abs (number row last) → m ≡ r.others * others + r.last * ending → (j : ℕ) → j < length columns → unsigned_abs (number (full columns row) j) ≤ m
most_is columns last r row others ending m all most e is j lt =
    let d = some_column columns j lt in
    let w = all j d lt row others most in
    let f = full_at columns row j d lt in
    let g : m ≡ r.others * others + r.last * unsigned_abs (number row last) = is ∙ ap (λ q. r.others * others + r.last * q) e in
    let h = ap unsigned_abs f in
    omega (arith, w, g, h)

-- small numbers fit
pub all_small : (columns : List Column) (pivot row : Row) (p e : ℤ) (most top : Option ℕ) → IsMost columns row most → IsMost columns pivot top → IsSmall p most → IsSmall e top
    → AllFit columns pivot row p e
all_small columns pivot row p e most top hm ht sp se = λ j lt.
    let a = subst (λ o. IfSome o (λ m. (j : ℕ) → j < length columns → unsigned_abs (number (full columns row) j) ≤ m)) sp.1 hm in
    let b = subst (λ o. IfSome o (λ m. (j : ℕ) → j < length columns → unsigned_abs (number (full columns pivot) j) ≤ m)) se.1 ht in
    small_steps p (number (full columns row) j) e (number (full columns pivot) j) sp.0 se.0 (a j lt) (b j lt) sp.2 se.2
