-- ranges of a room, and the first LF of what is held there
use Rattle.std.proofs.Common.{◌≡◌, ◌≢◌, ◌≤◌, ◌+◌, ◌-◌, ◌++◌, ℕ, List, length, take, drop, ap, sym, refl, subst, ◌∙◌, arith, length-take, length-drop, length-append, take-add, zero-add}
use Rattle.std.specs.Prelude.{slice_range}
use Rattle.std.proofs.lemmas.List.{drop-take, drop-drop, take-take, get_or-append-add, take-append-le}
use Rattle.std.proofs.Math.Seq.{take-append-add}
use Rattle.std.proofs.lemmas.List.Elements.{All-append, All-same, All-take}
use Rattle.crew_io.specs.Lines.{Reader, NoFeed, IsLineLength, took_line}

pub length_range : (xs : List ℕ) (a b : ℕ) → a ≤ b → b ≤ length xs → length (slice_range xs a b) ≡ b - a
length_range xs a b h l = omega (arith, length-take (b - a) (drop a xs), length-drop a xs)

pub range_take : (xs : List ℕ) (a n b : ℕ) → a + n ≤ b → slice_range xs a (a + n) ≡ take n (slice_range xs a b)
range_take xs a n b h =
    let e : a + n - a ≡ n = omega arith in
    rw e (sym (take-take n (b - a) (drop a xs) (omega arith)))

pub range_drop : (xs : List ℕ) (a n b : ℕ) → a + n ≤ b → slice_range xs (a + n) b ≡ drop n (slice_range xs a b)
range_drop xs a n b h =
    let e : b - a ≡ n + (b - (a + n)) = omega arith in
    sym (ap (λ k. drop n (take k (drop a xs))) e ∙ drop-take n (b - (a + n)) (drop a xs) ∙ ap (take (b - (a + n))) (drop-drop n a xs))

pub range_append : (xs : List ℕ) (a s b : ℕ) → a ≤ s → s ≤ b → slice_range xs a b ≡ slice_range xs a s ++ slice_range xs s b
range_append xs a s b h l =
    let e : b - a ≡ (s - a) + (b - s) = omega arith in
    let f : s - a + a ≡ s = omega arith in
    ap (λ k. take k (drop a xs)) e ∙ take-add (s - a) (b - s) (drop a xs) ∙ ap (λ zs. take (s - a) (drop a xs) ++ take (b - s) zs) (drop-drop (s - a) a xs ∙ ap (λ k. drop k xs) (omega arith))

-- no LF in what was searched before, nor in front of the first one behind it
pub plain_more : (xs : List ℕ) (a s n b : ℕ) → a ≤ s → s + n ≤ b → NoFeed (slice_range xs a s) → NoFeed (take n (slice_range xs s b)) → NoFeed (slice_range xs a (s + n))
plain_more xs a s n b h l p q =
    All-same (λ b. b ≢ 10) (slice_range xs a (s + n)) (slice_range xs a s ++ take n (slice_range xs s b)) (range_append xs a s (s + n) h (omega arith) ∙ ap (λ zs. slice_range xs a s ++ zs) (range_take xs s n b l))
    (All-append (λ b. b ≢ 10) (slice_range xs a s) (take n (slice_range xs s b)) p q)

front_after : (xs bs : List ℕ) (n : ℕ) → NoFeed xs → IsLineLength bs n → IsLineLength (xs ++ bs) (length xs + n)
front_after xs bs n p f = record {
  within = let h = f.within in omega (arith, length-append xs bs);
  plain = All-same (λ b. b ≢ 10) (take (length xs + n) (xs ++ bs)) (xs ++ take n bs) (take-append-add xs bs n) (All-append (λ b. b ≢ 10) xs (take n bs) p f.plain);
  feed = λ h. get_or-append-add xs bs n 0 ∙ f.feed (omega (arith, length-append xs bs));
}

pub front_held : (xs : List ℕ) (a s n b : ℕ) → a ≤ s → s ≤ b → b ≤ length xs → NoFeed (slice_range xs a s) → IsLineLength (slice_range xs s b) n → IsLineLength (slice_range xs a b) (s + n - a)
front_held xs a s n b h l w p f =
    let e : length (slice_range xs a s) + n ≡ s + n - a = omega (arith, length_range xs a s h (omega arith)) in
    subst (λ k. IsLineLength (slice_range xs a b) k) e (subst (λ zs. IsLineLength zs (length (slice_range xs a s) + n)) (sym (range_append xs a s b h l)) (front_after (slice_range xs a s) (slice_range xs s b) n p f))

-- what is held was moved to the front
pub plain_moved : (xs ys : List ℕ) (a s b : ℕ) → a ≤ s → s ≤ b → slice_range ys 0 (b - a) ≡ slice_range xs a b → NoFeed (slice_range xs a s) → NoFeed (slice_range ys 0 (s - a))
plain_moved xs ys a s b h l e p =
    let f : a + (s - a) ≡ s = omega arith in
    All-same (λ b. b ≢ 10) (slice_range ys 0 (s - a)) (slice_range xs a s)
    (ap (slice_range ys 0) (sym (zero-add (s - a))) ∙ range_take ys 0 (s - a) (b - a) (omega arith) ∙ ap (take (s - a)) e ∙ sym (range_take xs a (s - a) b (omega arith)) ∙ ap (slice_range xs a) f) p

-- a line was taken from what is held
pub line_taken : (r : Reader) (xs : List ℕ) (a n b : ℕ) → a + (n + 1) ≤ b → r.held ≡ slice_range xs a b
    → record { limit = r.limit; handed = r.handed + (n + 1); held = slice_range xs (a + (n + 1)) b; line = slice_range xs a (a + n); stopped = r.stopped } ≡ took_line r n
line_taken r xs a n b h e =
    rw (e, range_drop xs a (n + 1) b h, range_take xs a n b (omega arith)) refl

-- no LF among the first bytes, also where more follow
pub plain_front : (xs more : List ℕ) (n k : ℕ) → IsLineLength xs n → k ≤ n → NoFeed (take k (xs ++ more))
plain_front xs more n k f h =
    let w = f.within in
    All-same (λ b. b ≢ 10) (take k (xs ++ more)) (take k (take n xs)) (take-append-le k xs more (omega arith) ∙ sym (take-take k n xs h)) (All-take (λ b. b ≢ 10) k (take n xs) f.plain)
