-- a table of numbers under the steps of its functions
use Rattle.std.proofs.Common.{◌≡◌, ◌<◌, ◌≤◌, ◌+◌, ◌-◌, ◌||◌, inl, inr, ℕ, zero, suc, Bool, true, false, nat_eq, nat_lt, max, List, [], ◌∷◌, ◌++◌, length, length-append, get_or, set, length-set, take, All, sym, ap, subst, refl, ◌∙◌, arith, true≢false}
use Rattle.std.specs.Cmp.{unsigned_Decides}
use Rattle.std.proofs.Math.Bool.{or-false}
use Rattle.std.proofs.lemmas.Bool.Decides.{nat_tests}
use Rattle.std.proofs.lemmas.Bool.{cases_eq, cases_lt, false_from_ne_true, and_from, or_right}
use Rattle.std.proofs.lemmas.List.{get_or-set_same, get_or-set_other, get_or_push, get_or_past, take_more, take_all}
use Rattle.std.proofs.lemmas.List.Folds.{list_any-append}
use Rattle.std.proofs.lemmas.List.Elements.{All-more, All-weaker}
use Rattle.crew_terms.specs.declared.Visit.{Visit}
use Rattle.column_arena.specs.declared.TheConstants.{LISTS}
use Rattle.column_arena.specs.Uses.{Held, none_held, held_at, place, is_last, with_last, with_number, with_number_if, is_at, HaveSameNumbers}

abbrev pub no_visit : Visit
no_visit = record { task = 0; start = 0 }

-- an empty list at the end of the table changes nothing
pub held_push : (t : List Held) (p : ℕ) → held_at (t ++ none_held ∷ []) p ≡ held_at t p
held_push [] zero = refl
held_push [] (suc p) = refl
held_push (x ∷ t) zero = refl
held_push (x ∷ t) (suc p) = held_push t p

pub in_table : (t : List Held) (p : ℕ) → 0 < (held_at t p).spare → p < length t
in_table t p some = elim (cases_lt p (length t)) [
  | inl l ↦ l
  | inr past ↦ absurd (let e : (held_at t p).spare ≡ 0 = ap (λ (h : Held). h.spare) (get_or_past t p none_held past) in omega arith)
]

-- room at each task that was seen so far, and the numbers as they were
pub record IsRoomSoFar (old new : List Held) (k : ℕ) (visits : List Visit) (i : ℕ) : Type 0 where
  pub same : HaveSameNumbers old new
  pub whole : LISTS ≤ length new
  pub room : All (λ (v : Visit). 0 < (held_at new (place k v.task)).spare) (take i visits)

abbrev roomy : Held → Held
roomy h = record { ids = h.ids; spare = max h.spare 1 }

pub room_more : (old new : List Held) (k : ℕ) (visits : List Visit) (i p : ℕ) → i < length visits → p < length new → p ≡ place k (get_or visits i no_visit).task
    → IsRoomSoFar old new k visits i → IsRoomSoFar old (set new p (record (held_at new p) { spare = max (held_at new p).spare 1 })) k visits (i + 1)
room_more old new k visits i p below within at so = record {
  same = λ q. numbers q ∙ so.same q;
  whole = rw (length-set new p (roomy (held_at new p))) so.whole;
  room = All-more (λ (v : Visit). 0 < (held_at next (place k v.task)).spare) visits i no_visit below
      (All-weaker (λ (v : Visit). 0 < (held_at new (place k v.task)).spare) (λ (v : Visit). 0 < (held_at next (place k v.task)).spare)
      (λ v h. let m = more (place k v.task) in omega arith) (take i visits) so.room)
      (subst (λ q. 0 < (held_at next q).spare) at (let e = ap (λ (h : Held). h.spare) here in omega arith));
}
  where
    next : List Held
    next = set new p (roomy (held_at new p))

    here : held_at next p ≡ roomy (held_at new p)
    here = get_or-set_same new p (roomy (held_at new p)) none_held within

    numbers : (q : ℕ) → (held_at next q).ids ≡ (held_at new q).ids
    numbers q = elim (cases_eq q p) [
      | inl e ↦ subst (λ q. (held_at next q).ids ≡ (held_at new q).ids) (sym e) (ap (λ (h : Held). h.ids) here)
      | inr ne ↦ ap (λ (h : Held). h.ids) (get_or-set_other new p q (roomy (held_at new p)) none_held ne)
    ]

    more : (q : ℕ) → (held_at new q).spare ≤ (held_at next q).spare
    more q = elim (cases_eq q p) [
      | inl e ↦ subst (λ q. (held_at new q).spare ≤ (held_at next q).spare) (sym e) (let e = ap (λ (h : Held). h.spare) here in omega arith)
      | inr ne ↦ let e = ap (λ (h : Held). h.spare) (get_or-set_other new p q (roomy (held_at new p)) none_held ne) in omega arith
    ]

-- the number was put last at each task so far
pub record IsNotedSoFar (old new : List Held) (k : ℕ) (visits : List Visit) (id i : ℕ) : Type 0 where
  pub long : length new ≡ length old
  pub noted : (p : ℕ) → held_at new p ≡ with_number_if (is_at k (take i visits) p) (held_at old p) id

some_last : (ids : List ℕ) (id : ℕ) → nat_lt 0 (length (ids ++ id ∷ [])) ≡ true
some_last ids id = let l = length-append ids (id ∷ []) in grind (arith, nat_tests)

is_last_put : (ids : List ℕ) (id : ℕ) → is_last (ids ++ id ∷ []) id ≡ true
is_last_put ids id =
    let l : length (ids ++ id ∷ []) ≡ length ids + 1 = length-append ids (id ∷ []) in
    let m : length ids ≡ length (ids ++ id ∷ []) - 1 = omega arith in
    let e : get_or (ids ++ id ∷ []) (length (ids ++ id ∷ []) - 1) 0 ≡ id = get_or_push ids id 0 (length (ids ++ id ∷ []) - 1) m in
    and_from _ _ (some_last ids id) ((unsigned_Decides _ _).1 e)

-- put once more, it stands as it stood
put_again : (h : Held) (id : ℕ) (b : Bool) → is_last h.ids id ≡ false → with_last (with_number_if b h id) id ≡ with_number h id
put_again h id true fresh = rw (is_last_put h.ids id) refl
put_again h id false fresh = rw fresh refl

pub room_to_put : (h : Held) (id : ℕ) (b : Bool) → 0 < h.spare → is_last (with_number_if b h id).ids id ≡ false → 0 < (with_number_if b h id).spare
room_to_put h id true room fresh = absurd (true≢false (sym (is_last_put h.ids id) ∙ fresh))
room_to_put h id false room fresh = room

is_at_more : (k : ℕ) (visits : List Visit) (i p : ℕ) → i < length visits
    → is_at k (take (i + 1) visits) p ≡ (is_at k (take i visits) p || nat_eq (place k (get_or visits i no_visit).task) p)
is_at_more k visits i p below =
    let v = get_or visits i no_visit in
    ap (λ vs. is_at k vs p) (take_more visits i no_visit below)
    ∙ list_any-append (λ (v : Visit). nat_eq (place k v.task) p) (take i visits) (v ∷ [])
    ∙ ap (λ b. is_at k (take i visits) p || b) (or-false (nat_eq (place k v.task) p))

pub noted_more : (old new : List Held) (k : ℕ) (visits : List Visit) (id i p : ℕ) → i < length visits → p < length new → p ≡ place k (get_or visits i no_visit).task
    → is_last (held_at old p).ids id ≡ false → IsNotedSoFar old new k visits id i
    → IsNotedSoFar old (set new p (with_last (held_at new p) id)) k visits id (i + 1)
noted_more old new k visits id i p below within at fresh so = record {
  long = length-set new p (with_last (held_at new p) id) ∙ so.long;
  noted = each;
}
  where
    q : ℕ
    q = place k (get_or visits i no_visit).task

    here : held_at (set new p (with_last (held_at new p) id)) p ≡ with_number (held_at old p) id
    here = get_or-set_same new p (with_last (held_at new p) id) none_held within ∙ ap (λ h. with_last h id) (so.noted p) ∙ put_again (held_at old p) id (is_at k (take i visits) p) fresh

    seen : is_at k (take (i + 1) visits) p ≡ true
    seen = is_at_more k visits i p below ∙ or_right _ _ ((unsigned_Decides q p).1 (sym at))

    each : (r : ℕ) → held_at (set new p (with_last (held_at new p) id)) r ≡ with_number_if (is_at k (take (i + 1) visits) r) (held_at old r) id
    each r = elim (cases_eq r p) [
      | inl e ↦ subst (λ r. held_at (set new p (with_last (held_at new p) id)) r ≡ with_number_if (is_at k (take (i + 1) visits) r) (held_at old r) id) (sym e)
          (here ∙ ap (λ b. with_number_if b (held_at old p) id) (sym seen))
      | inr ne ↦
          let none : nat_eq q r ≡ false = false_from_ne_true (nat_eq q r) (λ t. ne (sym ((unsigned_Decides q r).0 t) ∙ sym at)) in
          get_or-set_other new p r (with_last (held_at new p) id) none_held ne ∙ so.noted r
          ∙ ap (λ b. with_number_if b (held_at old r) id) (sym (is_at_more k visits i r below ∙ ap (λ b. is_at k (take i visits) r || b) none ∙ or-false _))
    ]

pub noted_end : (old new : List Held) (k : ℕ) (visits : List Visit) (id i : ℕ) → length visits ≤ i → IsNotedSoFar old new k visits id i
    → (p : ℕ) → held_at new p ≡ with_number_if (is_at k visits p) (held_at old p) id
noted_end old new k visits id i past so p = so.noted p ∙ ap (λ vs. with_number_if (is_at k vs p) (held_at old p) id) (take_all i visits past)
