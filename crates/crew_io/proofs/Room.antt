-- bytes that are read behind what is held
use Rattle.std.proofs.Common.{◌≡◌, ◌≤◌, ◌+◌, ◌-◌, ◌++◌, ℕ, List, length, take, drop, Option, None, Some, Result, Ok, Err, ap, sym, refl, ◌∙◌, arith, length-take, append_assoc, append-nil}
use Rattle.std.specs.Prelude.{slice_range, IfOk}
use Rattle.std.proofs.lemmas.List.{drop-take, take-append-le, drop-append-le, take-append-drop, take-take}
use Rattle.std.proofs.Math.Seq.{take-append-add}
use borrow.Rule.Slice.PartMut.{put_mid, post_of}
use Rattle.crew_io.specs.Io.{Gave}
use Rattle.crew_io.specs.Lines.{with_left}

-- what follows from two facts of a value, where there is one
pub both_ok : {X E : Type 0} (r : Result X E) (P Q R : X → Type 0) → IfOk r P → IfOk r Q → ((x : X) → P x → Q x → R x) → IfOk r R
both_ok (Ok x) P Q R p q f = f x p q
both_ok (Err e) P Q R p q f = tt

pub range_is : (xs : List ℕ) (a b : ℕ) → a ≤ b → slice_range xs a b ≡ drop a (take b xs)
range_is xs a b h =
    let e : b ≡ a + (b - a) = omega arith in
    sym (ap (λ k. drop a (take k xs)) e ∙ drop-take a (b - a) xs)

mid_take : (a k : ℕ) (xs ys : List ℕ) (n : ℕ) → a ≤ length xs → n ≤ length ys → take (a + n) (put_mid a k xs ys) ≡ take a xs ++ take n ys
mid_take a k xs ys n h l =
    let e : length (take a xs) ≡ a = rw length-take (omega arith) in
    ap (λ j. take (j + n) (put_mid a k xs ys)) (sym e) ∙ take-append-add (take a xs) (ys ++ post_of a k xs) n ∙ ap (λ zs. take a xs ++ zs) (take-append-le n ys (post_of a k xs) l)

-- what is held is what was held, and the n new bytes
pub range_read : (xs ys : List ℕ) (at end k n : ℕ) → at ≤ end → end ≤ length xs → n ≤ length ys
    → slice_range (put_mid end k xs ys) at (end + n) ≡ slice_range xs at end ++ take n ys
range_read xs ys at end k n order within l =
    let e : length (take end xs) ≡ end = rw length-take (omega arith) in
    range_is (put_mid end k xs ys) at (end + n) (omega arith)
    ∙ ap (drop at) (mid_take end k xs ys n within l)
    ∙ drop-append-le at (take end xs) (take n ys) (omega arith)
    ∙ ap (λ zs. zs ++ take n ys) (sym (range_is xs at end order))

pub range_same : (xs ys : List ℕ) (at end k : ℕ) → at ≤ end → end ≤ length xs → slice_range (put_mid end k xs ys) at end ≡ slice_range xs at end
range_same xs ys at end k order within =
    let e : end + 0 ≡ end = omega arith in
    ap (slice_range (put_mid end k xs ys) at) (sym e) ∙ range_read xs ys at end k 0 order within (omega arith) ∙ append-nil (slice_range xs at end)

pub rest_read : (xs ys before : List ℕ) (at end k n : ℕ) (old new : Option (List ℕ)) → at ≤ end → end ≤ length xs → n ≤ length ys → Gave old new n before ys
    → with_left (slice_range (put_mid end k xs ys) at (end + n)) new ≡ with_left (slice_range xs at end) old
rest_read xs ys before at end k n None new order within l g = rw g refl
rest_read xs ys before at end k n (Some bytes) new order within l (some, left, buf) =
    let e : length (take n bytes) ≡ n = rw length-take (omega arith) in
    let f : take n ys ≡ take n bytes =
    ap (take n) buf ∙ take-append-le n (take n bytes) (drop n before) (omega arith) ∙ take-take n n bytes (omega arith) in
    ap (with_left (slice_range (put_mid end k xs ys) at (end + n))) left
    ∙ ap Some (ap (λ zs. zs ++ drop n bytes) (range_read xs ys at end k n order within l)
    ∙ ap (λ zs. (slice_range xs at end ++ zs) ++ drop n bytes) f
    ∙ append_assoc (slice_range xs at end) (take n bytes) (drop n bytes)
    ∙ ap (λ zs. slice_range xs at end ++ zs) (take-append-drop n bytes))
