-- two lists whose elements belong together, place by place
use Rattle.std.proofs.Common.{◌≡◌, ◌↔◌, ℕ, zero, suc, ℤ, List, [], ◌∷◌, Some, Ok, length, slice_get, refl, subst₂, arith}
use Rattle.std.specs.List.{AllZip}
use Rattle.std.proofs.lemmas.Option.{same_Some}
use Rattle.crew_terms.specs.Words.{Words}
use Rattle.field_table.specs.Fields.{Spells}
use Rattle.field_table.specs.declared.fields.Kind.TheVariants.{Number}
use Rattle.day_terms.specs.Fields.{SpellAll}
use Rattle.day_terms.specs.Days.{ReadsRecord, SayEntries}
use Rattle.day_terms.specs.declared.Entry.{Entry}

module _ {A B : Type 0} (R : A → B → Type 0) where
  -- as many of both, and those at each place belong together
  abbrev pub AtPlaces : List A → List B → Type 0
  AtPlaces xs ys = (length xs ≡ length ys) × ((k : ℕ) (x : A) (y : B) → slice_get xs k ≡ Some x → slice_get ys k ≡ Some y → R x y)

  at_first : (x : A) (xs : List A) (y : B) (ys : List B) → R x y → ((k : ℕ) (v : A) (w : B) → slice_get xs k ≡ Some v → slice_get ys k ≡ Some w → R v w)
      → (k : ℕ) (v : A) (w : B) → slice_get (x ∷ xs) k ≡ Some v → slice_get (y ∷ ys) k ≡ Some w → R v w
  at_first x xs y ys r rest zero v w e f = subst₂ R (same_Some x v e) (same_Some y w f) r
  at_first x xs y ys r rest (suc k) v w e f = rest k v w e f

  at_places : (xs : List A) (ys : List B) → AllZip R xs ys → AtPlaces xs ys
  at_places [] [] h = (refl, λ k x y e f. absurd (cc))
  at_places [] (y ∷ ys) h = absurd h
  at_places (x ∷ xs) [] h = absurd h
  at_places (x ∷ xs) (y ∷ ys) h =
      let rest = at_places xs ys h.1 in
      ((let e = rest.0 in omega arith), at_first x xs y ys h.0 rest.1)

  from_places : (xs : List A) (ys : List B) → AtPlaces xs ys → AllZip R xs ys
  from_places [] [] h = tt
  from_places [] (y ∷ ys) h = absurd (let e = h.0 in omega arith)
  from_places (x ∷ xs) [] h = absurd (let e = h.0 in omega arith)
  from_places (x ∷ xs) (y ∷ ys) h = (h.1 0 x y refl refl, from_places xs ys ((let e = h.0 in omega arith), λ k v w e f. h.1 (suc k) v w e f))

  pub by_place : (xs : List A) (ys : List B) → AllZip R xs ys ↔ AtPlaces xs ys
  by_place xs ys = (at_places xs ys, from_places xs ys)

pub words_spell : (words : Words) (numbers : List ℤ) → SpellAll words numbers ↔ AtPlaces (Spells Number) words numbers
words_spell = by_place (Spells Number)

pub records_say : (records : List Words) (entries : List Entry) → SayEntries records entries ↔ AtPlaces (λ fields entry. ReadsRecord fields (Ok entry)) records entries
records_say = by_place (λ fields entry. ReadsRecord fields (Ok entry))
