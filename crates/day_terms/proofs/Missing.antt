-- the first two places of which nothing says the time
use Rattle.std.proofs.Common.{◌≡◌, ℕ, suc, true, false, List, [], ◌∷◌, Option, None, Some, map, take, slice_get, refl, ap, sym, ◌∙◌, subst}
use Rattle.std.specs.Prelude.{All, find, flat_map}
use Rattle.std.specs.Option.{option_or}
use Rattle.std.proofs.lemmas.List.Concat.{flat_map-cons}
use Rattle.std.proofs.lemmas.List.Elements.{All-cons, All-nil}
use Rattle.std.proofs.lemmas.List.Folds.{find-append}
use Rattle.std.proofs.lemmas.Option.{same_Some}
use Rattle.day_terms.specs.State.{DayState}
use Rattle.day_terms.specs.Rounds.{lacks_time, first_missing}
use Rattle.day_terms.specs.Laws.{IsFirstLack}
use Rattle.day_terms.specs.ByTest.{by_test, find_here, find_later}

abbrev Bytes : Type 0
Bytes = List ℕ

-- the pairs of a place with each of these
abbrev row_of : List Bytes → Bytes → List (Bytes × Bytes)
row_of ps from = map (λ to. (from, to)) ps

module _ (s : DayState) where
  abbrev Told : Bytes → Bytes → Type 0
  Told from to = lacks_time s (from, to) ≡ false

  -- in the row of a place
  record InRow (from : Bytes) (ps : List Bytes) (q : Bytes × Bytes) : Type 0 where
    pub b : ℕ
    pub from_is : q.0 ≡ from
    pub to_is : slice_get ps b ≡ Some q.1
    pub lacks : lacks_time s q ≡ true
    pub earlier : All (Told from) (take b ps)

  in_row : (from : Bytes) (ps : List Bytes) (q : Bytes × Bytes) → find (lacks_time s) (row_of ps from) ≡ Some q → InRow from ps q
  in_row from [] q e = absurd (cc)
  in_row from (to ∷ ps) q e =
      by_test (lacks_time s (from, to))
      (λ t.
      let same = same_Some (from, to) q (sym (find_here (lacks_time s) (from, to) (row_of ps from) t) ∙ e) in
      subst (InRow from (to ∷ ps)) same (record { b = 0; from_is = refl; to_is = refl; lacks = t; earlier = All-nil (Told from) }))
      (λ t.
      let r = in_row from ps q (sym (find_later (lacks_time s) (from, to) (row_of ps from) t) ∙ e) in
      record { b = suc r.b; from_is = r.from_is; to_is = r.to_is; lacks = r.lacks; earlier = All-cons (Told from) to (take r.b ps) t r.earlier })

  none_in_row : (from : Bytes) (ps : List Bytes) → find (lacks_time s) (row_of ps from) ≡ None → All (Told from) ps
  none_in_row from [] e = All-nil (Told from)
  none_in_row from (to ∷ ps) e =
      by_test (lacks_time s (from, to))
      (λ t. let f = find_here (lacks_time s) (from, to) (row_of ps from) t in absurd (let g = sym f ∙ e in cc))
      (λ t. All-cons (Told from) to ps t (none_in_row from ps (sym (find_later (lacks_time s) (from, to) (row_of ps from) t) ∙ e)))

  module _ (ps : List Bytes) where
    -- the time to each place is told
    abbrev AllTold : Bytes → Type 0
    AllTold from = All (Told from) ps

    abbrev found : List Bytes → Option (Bytes × Bytes)
    found fs = find (lacks_time s) (flat_map (row_of ps) fs)

    found_by_row : (f : Bytes) (fs : List Bytes) → found (f ∷ fs) ≡ option_or (find (lacks_time s) (row_of ps f)) (found fs)
    found_by_row f fs = ap (find (lacks_time s)) (flat_map-cons (row_of ps) f fs) ∙ find-append (lacks_time s) (row_of ps f) (flat_map (row_of ps) fs)

    -- in the rows of these places
    record InRows (fs : List Bytes) (q : Bytes × Bytes) : Type 0 where
      pub a : ℕ
      pub from_is : slice_get fs a ≡ Some q.0
      pub row : InRow q.0 ps q
      pub earlier : All AllTold (take a fs)

    in_rows : (fs : List Bytes) (q : Bytes × Bytes) → found fs ≡ Some q → InRows fs q
    in_rows [] q e = absurd (cc)
    in_rows (f ∷ fs) q e = by (find (lacks_time s) (row_of ps f)) refl (in_rows fs q)
      where
        by : (o : Option (Bytes × Bytes)) → find (lacks_time s) (row_of ps f) ≡ o → (found fs ≡ Some q → InRows fs q) → InRows (f ∷ fs) q
        by (Some w) h later =
            let same = same_Some w q (sym (ap (λ o. option_or o (found fs)) h) ∙ sym (found_by_row f fs) ∙ e) in
            let r = in_row f ps q (h ∙ ap Some same) in
            record { a = 0; from_is = ap Some (sym r.from_is); row = subst (λ x. InRow x ps q) (sym r.from_is) r; earlier = All-nil AllTold }
        by None h later =
            let r = later (sym (ap (λ o. option_or o (found fs)) h) ∙ sym (found_by_row f fs) ∙ e) in
            record { a = suc r.a; from_is = r.from_is; row = r.row; earlier = All-cons AllTold f (take r.a fs) (none_in_row f ps h) r.earlier }

    none_in_rows : (fs : List Bytes) → found fs ≡ None → All AllTold fs
    none_in_rows [] e = All-nil AllTold
    none_in_rows (f ∷ fs) e = by (find (lacks_time s) (row_of ps f)) refl (none_in_rows fs)
      where
        by : (o : Option (Bytes × Bytes)) → find (lacks_time s) (row_of ps f) ≡ o → (found fs ≡ None → All AllTold fs) → All AllTold (f ∷ fs)
        by (Some w) h later = absurd (let g = sym (ap (λ o. option_or o (found fs)) h) ∙ sym (found_by_row f fs) ∙ e in cc)
        by None h later = All-cons AllTold f fs (none_in_row f ps h) (later (sym (ap (λ o. option_or o (found fs)) h) ∙ sym (found_by_row f fs) ∙ e))

  pub told : (from to : Bytes) → first_missing s ≡ Some (from, to) → IsFirstLack s from to
  told from to e =
      let r = in_rows s.places s.places (from, to) e in
      record { from_number = r.a; to_number = r.row.b; from_is = r.from_is; to_is = r.row.to_is; lacks = r.row.lacks; from_earlier = r.earlier; to_earlier = r.row.earlier }

  pub none : first_missing s ≡ None → All (λ from. All (λ to. lacks_time s (from, to) ≡ false) s.places) s.places
  none e = none_in_rows s.places s.places e
