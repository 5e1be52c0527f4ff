-- the times of a state, where one more is given
use Rattle.std.proofs.Common.{◌≡◌, ◌≢◌, ◌⊎◌, ◌&&◌, inl, inr, ℕ, Bool, true, false, List, [], ◌∷◌, Option, Some, refl, ap, sym, ◌∙◌, subst, subst₂}
use Rattle.std.specs.Prelude.{bytes_eq, find, option_map}
use Rattle.std.proofs.lemmas.Bool.Decides.{not_from_Decides}
use Rattle.std.proofs.lemmas.Slice.Eq.{bytes_eq-Decides}
use Rattle.std.proofs.Math.Bool.{and-false}
use Rattle.day_terms.specs.State.{DayState, Given, is_way, given_time, with_time_between}
use Rattle.day_terms.specs.Instances.{minutes_given}
use Rattle.day_terms.specs.ByTest.{by_test, find_here, find_later}

abbrev pub Bytes : Type 0
Bytes = List ℕ

abbrev found : List Given → Bytes → Bytes → Option ℕ
found gs a b = option_map (λ g. g.minutes) (find (is_way a b) gs)

same : (a : Bytes) → bytes_eq a a ≡ true
same a = (bytes_eq-Decides a a).1 refl

pub no_tie : (a b : Bytes) → a ≢ b → bytes_eq a b ≡ false
no_tie a b other = by_test (bytes_eq a b) (λ t. absurd (other ((bytes_eq-Decides a b).0 t))) (λ t. t)

both : (x y : Bool) → x && y ≡ true → (x ≡ true) × (y ≡ true)
both true true e = (refl, refl)
both true false e = absurd (cc)
both false y e = absurd (cc)

-- names that are not those of a way
apart : (a b from to : Bytes) → (a ≢ from) ⊎ (b ≢ to) → bytes_eq a from && bytes_eq b to ≡ false
apart a b from to (inl other) = rw (no_tie a from other) refl
apart a b from to (inr other) = rw (no_tie b to other) (and-false (bytes_eq a from))

apart_from : (a b from to : Bytes) (g : Given) → (a ≢ from) ⊎ (b ≢ to) → is_way from to g ≡ true → is_way a b g ≡ false
apart_from a b from to g other way =
    let w = both (bytes_eq from g.from) (bytes_eq to g.to) way in
    subst₂ (λ x y. bytes_eq a x && bytes_eq b y ≡ false) ((bytes_eq-Decides from g.from).0 w.0) ((bytes_eq-Decides to g.to).0 w.1) (apart a b from to other)

found_here : (g : Given) (gs : List Given) (a b : Bytes) → is_way a b g ≡ true → found (g ∷ gs) a b ≡ Some g.minutes
found_here g gs a b t = ap (option_map (λ g. g.minutes)) (find_here (is_way a b) g gs t)

found_later : (g : Given) (gs : List Given) (a b : Bytes) → is_way a b g ≡ false → found (g ∷ gs) a b ≡ found gs a b
found_later g gs a b t = ap (option_map (λ g. g.minutes)) (find_later (is_way a b) g gs t)

given_here : (g : Given) (gs : List Given) (from to : Bytes) (minutes : ℕ) → is_way from to g ≡ true → given_time (g ∷ gs) from to minutes ≡ record g { minutes = minutes } ∷ gs
given_here g gs from to minutes t = rw t refl

given_later : (g : Given) (gs : List Given) (from to : Bytes) (minutes : ℕ) → is_way from to g ≡ false → given_time (g ∷ gs) from to minutes ≡ g ∷ given_time gs from to minutes
given_later g gs from to minutes t = rw t refl

new_found : (gs : List Given) (from to : Bytes) (minutes : ℕ) → found (given_time gs from to minutes) from to ≡ Some minutes
new_found [] from to minutes = found_here (record { from = from; to = to; minutes = minutes }) [] from to (rw (same from, same to) refl)
new_found (g ∷ gs) from to minutes =
    by_test (is_way from to g)
    (λ t. ap (λ times. found times from to) (given_here g gs from to minutes t) ∙ found_here (record g { minutes = minutes }) gs from to t)
    (λ t. ap (λ times. found times from to) (given_later g gs from to minutes t) ∙ found_later g (given_time gs from to minutes) from to t ∙ new_found gs from to minutes)

-- a first time that is the same, of lists in which a way has the same time
found_behind : (g : Given) (gs hs : List Given) (a b : Bytes) → found gs a b ≡ found hs a b → found (g ∷ gs) a b ≡ found (g ∷ hs) a b
found_behind g gs hs a b e =
    by_test (is_way a b g)
    (λ t. found_here g gs a b t ∙ sym (found_here g hs a b t))
    (λ t. found_later g gs a b t ∙ e ∙ sym (found_later g hs a b t))

others_found : (gs : List Given) (from to : Bytes) (minutes : ℕ) (a b : Bytes) → (a ≢ from) ⊎ (b ≢ to) → found (given_time gs from to minutes) a b ≡ found gs a b
others_found [] from to minutes a b other = found_later (record { from = from; to = to; minutes = minutes }) [] a b (apart a b from to other)
others_found (g ∷ gs) from to minutes a b other =
    by_test (is_way from to g)
    (λ t.
    let past = apart_from a b from to g other t in
    ap (λ times. found times a b) (given_here g gs from to minutes t) ∙ found_later (record g { minutes = minutes }) gs a b past ∙ sym (found_later g gs a b past))
    (λ t.
    ap (λ times. found times a b) (given_later g gs from to minutes t)
    ∙ found_behind g (given_time gs from to minutes) gs a b (others_found gs from to minutes a b other))

abbrev pub IsGiven : Type 0
IsGiven = (s : DayState) (from to : Bytes) (minutes : ℕ) → minutes_given (with_time_between s from to minutes) from to ≡ Some minutes

abbrev pub LeavesOthers : Type 0
LeavesOthers = (s : DayState) (from to : Bytes) (minutes : ℕ) (a b : Bytes) → (a ≢ from) ⊎ (b ≢ to) → minutes_given (with_time_between s from to minutes) a b ≡ minutes_given s a b

pub given : IsGiven
given s from to minutes = new_found s.times from to minutes

pub others : LeavesOthers
others s from to minutes a b other = others_found s.times from to minutes a b other

-- ---- both ways

pub there : IsGiven → LeavesOthers → (s : DayState) (from to : Bytes) (minutes : ℕ) → minutes_given (with_time_between (with_time_between s from to minutes) to from minutes) from to ≡ Some minutes
there is leaves s from to minutes =
    let first = with_time_between s from to minutes in
    by_test (bytes_eq from to)
    (λ t. subst (λ x. minutes_given (with_time_between first x from minutes) from x ≡ Some minutes) ((bytes_eq-Decides from to).0 t) (is first from from minutes))
    (λ t. leaves first to from minutes from to (inl (not_from_Decides (bytes_eq from to) (bytes_eq-Decides from to) t)) ∙ is s from to minutes)

pub back : IsGiven → (s : DayState) (from to : Bytes) (minutes : ℕ) → minutes_given (with_time_between (with_time_between s from to minutes) to from minutes) to from ≡ Some minutes
back is s from to minutes = is (with_time_between s from to minutes) to from minutes

pub others_twice : LeavesOthers → (s : DayState) (from to : Bytes) (minutes : ℕ) (a b : Bytes) → (a ≢ from) ⊎ (b ≢ to) → (a ≢ to) ⊎ (b ≢ from)
    → minutes_given (with_time_between (with_time_between s from to minutes) to from minutes) a b ≡ minutes_given s a b
others_twice leaves s from to minutes a b one other = leaves (with_time_between s from to minutes) to from minutes a b other ∙ leaves s from to minutes a b one
