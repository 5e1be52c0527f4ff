-- laws of calls that write, one after another
use Rattle.std.proofs.Common.{◌≡◌, ◌<◌, ◌≤◌, ◌+◌, ◌++◌, ◌∷◌, [], ℕ, List, length, take, drop, get_or, ap, sym, ◌∙◌, refl, arith, subst, append-nil}
use Rattle.std.specs.Prelude.{Result, Ok, Err, OnOk, OnErr, IsErr}
use Rattle.std.specs.List.{flat_map}
use Rattle.std.proofs.lemmas.List.{take_more, take_all, take-append-drop}
use Rattle.std.proofs.lemmas.List.Concat.{flat_map-append}
use Rattle.std.proofs.lemmas.Result.{on_ok_weaker, on_err_weaker}
use Rattle.crew_io.specs.Io.{Rose, Appended, AppendedPart}
use Rattle.crew_io.specs.Appends.{appended_none, appended_both}
use Rattle.crew_io.specs.Fronts.{IsFront, part_after}
use Rattle.crew_io.specs.Puts.{Puts, TellsWrites}
use Rattle.crew_io.specs.declared.sink.Sink.{Ghosts}

-- an answer that is no fault
abbrev pub fine : Result (Unit {0}) (Unit {0})
fine = Ok tt

-- a text is a front of itself
pub whole_front : (text : List ℕ) → IsFront text text
whole_front text = record { rest = []; is = sym (append-nil text) }

-- the first of two texts is a front of both
pub first_front : (xs ys : List ℕ) → IsFront xs (xs ++ ys)
first_front xs ys = record { rest = ys; is = refl }

module _ {K : Type 0} (sink : Ghosts K) where
  -- before a call nothing is written
  pub puts_nothing : (old : K) → Puts sink [] old old fine
  puts_nothing old = record { all = appended_none (sink.got old); part = tt; later = omega arith; cause = λ h. absurd (cc); told = refl; steady = λ h. (h, λ e. absurd (cc)) }

  -- a text is written, and then another
  pub puts_then : {T E U F : Type 0} (xs ys : List ℕ) (old mid new : K) (x : T) (next : Result U F) → Puts {E = E} sink xs old mid (Ok x) → Puts sink ys mid new next → Puts sink (xs ++ ys) old new next
  puts_then xs ys old mid new x next a b = record {
    all = on_ok_weaker next (λ w. appended_both (sink.got old) (sink.got mid) (sink.got new) xs ys a.all w) b.all;
    part = on_err_weaker next (λ w. part_after (sink.got old) (sink.got mid) (sink.got new) xs ys (xs ++ ys) a.all w (whole_front (xs ++ ys))) b.part;
    later = let p = a.later in let q = b.later in omega (arith, p, q);
    cause = λ h. subst (λ n. Rose n (sink.faults new)) a.told (b.cause h);
    told = on_ok_weaker next (λ e. e ∙ a.told) b.told;
    steady = λ h. b.steady (a.steady h).0;
  }

  -- the same where the answer is no matter: the whole text is written
  pub puts_done : {T E U F : Type 0} (text : List ℕ) (old new : K) (x : T) (y : U) → Puts {E = E} sink text old new (Ok x) → Puts {E = F} sink text old new (Ok y)
  puts_done text old new x y a = record { all = a.all; part = tt; later = a.later; cause = λ h. absurd (cc); told = a.told; steady = λ h. ((a.steady h).0, λ e. absurd (cc)) }

  -- where the front of a text is written and a write fails, a front of the whole is written
  pub puts_front : {T E U F : Type 0} (xs whole : List ℕ) (old new : K) (e : E) (result : Result U F) → IsErr result → Puts {T = T} sink xs old new (Err e) → IsFront xs whole → Puts sink whole old new result
  puts_front xs whole old new e (Ok x) is a front = absurd (cc)
  puts_front xs whole old new e (Err f) is a front = record {
    all = tt;
    part = part_after (sink.got old) (sink.got old) (sink.got new) [] xs whole (appended_none (sink.got old)) a.part front;
    later = a.later;
    cause = λ h. a.cause refl;
    told = tt;
    steady = λ h. ((a.steady h).0, λ w. (a.steady h).1 refl);
  }

  -- another name of the same text
  pub puts_same : {T E : Type 0} (xs ys : List ℕ) (old new : K) (result : Result T E) → xs ≡ ys → Puts sink xs old new result → Puts sink ys old new result
  puts_same xs ys old new result is = subst (λ text. Puts sink text old new result) is

-- the texts of items, written one after another
module _ {K A : Type 0} (sink : Ghosts K) (text : A → List ℕ) (items : List A) (i : ℕ) (d : A) (within : i < length items) where
  texts_more : flat_map text (take (i + 1) items) ≡ flat_map text (take i items) ++ text (get_or items i d)
  texts_more =
      ap (flat_map text) (take_more items i d within)
      ∙ flat_map-append text (take i items) (get_or items i d ∷ [])
      ∙ ap (λ x. flat_map text (take i items) ++ x) (append-nil (text (get_or items i d)))

  texts_front : IsFront (flat_map text (take i items) ++ text (get_or items i d)) (flat_map text items)
  texts_front = record {
    rest = flat_map text (drop (i + 1) items);
    is =
        ap (flat_map text) (sym (take-append-drop (i + 1) items))
        ∙ flat_map-append text (take (i + 1) items) (drop (i + 1) items)
        ∙ ap (λ x. x ++ flat_map text (drop (i + 1) items)) texts_more;
  }

  -- the text of one item more
  pub puts_more : {T E U F : Type 0} (old mid new : K) (x : T) (y : U) → Puts {E = E} sink (flat_map text (take i items)) old mid (Ok x) → Puts {E = F} sink (text (get_or items i d)) mid new (Ok y)
      → Puts sink (flat_map text (take (i + 1) items)) old new fine
  puts_more old mid new x y a b =
      puts_done sink (flat_map text (take (i + 1) items)) old new y tt
      (puts_same sink _ (flat_map text (take (i + 1) items)) old new _ (sym texts_more) (puts_then sink (flat_map text (take i items)) (text (get_or items i d)) old mid new x _ a b))

  -- a front of the text of one item more
  pub puts_more_front : {T E U F V G : Type 0} (old mid new : K) (x : T) (e : F) (result : Result V G) → IsErr result → Puts {E = E} sink (flat_map text (take i items)) old mid (Ok x)
      → Puts {T = U} sink (text (get_or items i d)) mid new (Err e) → Puts sink (flat_map text items) old new result
  puts_more_front old mid new x e result is a b =
      puts_front sink (flat_map text (take i items) ++ text (get_or items i d)) (flat_map text items) old new e result is
      (puts_then sink (flat_map text (take i items)) (text (get_or items i d)) old mid new x _ a b) texts_front

-- the texts of all items
pub puts_all : {K A T E U F : Type 0} (sink : Ghosts K) (text : A → List ℕ) (items : List A) (i : ℕ) (old new : K) (x : T) (y : U) → length items ≤ i
    → Puts {E = E} sink (flat_map text (take i items)) old new (Ok x) → Puts {E = F} sink (flat_map text items) old new (Ok y)
puts_all sink text items i old new x y past a = puts_done sink (flat_map text items) old new x y (puts_same sink _ (flat_map text items) old new _ (ap (flat_map text) (take_all i items past)) a)

-- ---- what is said of write faults

module _ {K : Type 0} (sink : Ghosts K) where
  -- before a call no fault is told
  pub writes_none : (old : K) → TellsWrites sink old old ⊥
  writes_none old = record { cause = λ fault. absurd fault; told = λ _. refl; later = omega arith; steady = λ h. (h, λ fault. absurd fault) }

  -- a call that told no fault, and then another, which tells the fault of both
  pub writes_then : {First Next Fault : Type 0} (old mid new : K) → (First → ⊥) → TellsWrites sink old mid First → TellsWrites sink mid new Next → (Fault → Next) → (Next → Fault)
      → TellsWrites sink old new Fault
  writes_then old mid new none_first a b to from = record {
    cause = λ fault. subst (λ n. Rose n (sink.faults new)) (a.told none_first) (b.cause (to fault));
    told = λ none. b.told (λ fault. none (from fault)) ∙ a.told none_first;
    later = let p = a.later in let q = b.later in omega (arith, p, q);
    steady = λ h. let t = b.steady (a.steady h).0 in (t.0, λ fault. t.1 (to fault));
  }

  -- a call that writes a text tells a fault where it fails
  pub puts_tell : {T E : Type 0} (text : List ℕ) (old new : K) (result : Result T E) → Puts sink text old new result → TellsWrites sink old new (IsErr result)
  puts_tell text old new (Ok x) p = record { cause = p.cause; told = λ _. p.told; later = p.later; steady = p.steady }
  puts_tell text old new (Err e) p = record { cause = p.cause; told = λ none. absurd (none refl); later = p.later; steady = p.steady }
