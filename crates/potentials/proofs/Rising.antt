-- lists of the best potentials at a place
use Rattle.std.proofs.Common.{◌≡◌, ◌≢◌, ◌≤◌, ◌<◌, ◌+◌, ◌-◌, ℕ, zero, suc, ℤ, ◌+ℤ◌, ◌≤ℤ◌, List, length, ◌⊎◌, inl, inr, refl, ap, sym, subst, ◌∙◌, arith, get_or}
use Rattle.std.specs.Prelude.{slice_get, Some}
use Rattle.std.proofs.lemmas.Int.{ints}
use Rattle.std.proofs.lemmas.Bool.{cases_eq, cases_lt}
use Rattle.std.proofs.lemmas.Option.{get_or_from_slice_get, slice_get-get_or, slice_get_within}
use Rattle.potentials.specs.Ahead.{AllowsFall, AllowsFrom, AreRising, Bounds, Rises}
use Rattle.potentials.specs.declared.ahead.Best.{Best}
use Rattle.potentials.specs.declared.records.Record.{Record}

module _ (later earlier : Best) (minute : earlier.minute < later.minute) (order : later.second ≤ℤ later.potential) (best : later.potential ≤ℤ earlier.potential) (second : later.second ≤ℤ earlier.second) where
  pub rises_with_task : later.task ≡ earlier.task → Rises later earlier
  rises_with_task e = record {
    minute = minute;
    keeps = λ h v is. record {
      own = λ o. let k = is.own (o ∙ sym e) in omega (arith, ints);
      other = λ ne. let k = is.other (λ o. ne (o ∙ e)) in omega (arith, ints);
    };
  }

  pub rises_past_task : later.potential ≤ℤ earlier.second → Rises later earlier
  rises_past_task le = record { minute = minute; keeps = keeps }
    where
      keeps : (h : ℕ) (v : ℤ) → Bounds later h v → Bounds earlier h v
      keeps h v is = by (cases_eq h later.task)
        where
          both : v ≤ℤ later.potential → Bounds earlier h v
          both low = record { own = λ o. omega (arith, ints); other = λ ne. omega (arith, ints) }

          by : (h ≡ later.task) ⊎ (h ≡ later.task → ⊥) → Bounds earlier h v
          by (inl e) = both (is.own e)
          by (inr ne) = let k = is.other ne in both (omega (arith, ints))

-- each entry before place m rises
abbrev pub RisingBelow : List Best → ℕ → Type 0
RisingBelow list m = (i : ℕ) (later earlier : Best) → i + 1 < m → slice_get list i ≡ Some later → slice_get list (i + 1) ≡ Some earlier → Rises later earlier

pub rising_more : (list : List Best) (m : ℕ) (d : Best) → RisingBelow list m → 1 ≤ m → Rises (get_or list (m - 1) d) (get_or list m d) → RisingBelow list (m + 1)
rising_more list m d below one here i later earlier lt r s = by (cases_eq (i + 1) m)
  where
    by : (i + 1 ≡ m) ⊎ (i + 1 ≡ m → ⊥) → Rises later earlier
    by (inl e) =
        let f : m - 1 ≡ i = omega arith in
        let a : get_or list (m - 1) d ≡ later = ap (λ k. get_or list k d) f ∙ get_or_from_slice_get list i later d r in
        let b : get_or list m d ≡ earlier = ap (λ k. get_or list k d) (sym e) ∙ get_or_from_slice_get list (i + 1) earlier d s in
        subst (λ x. Rises later x) b (subst (λ x. Rises x (get_or list m d)) a here)
    by (inr ne) = let d : i + 1 ≢ m = ne in below i later earlier (omega arith) r s

-- an entry further on is of no later minute, and bounds as much
record Follows (a b : Best) : Type 0 where
  minute : b.minute ≤ a.minute
  keeps : (h : ℕ) (v : ℤ) → Bounds a h v → Bounds b h v

module _ (list : List Best) (rising : AreRising list) where
  follow : (d i k : ℕ) (a b : Best) → k ≡ i + d → slice_get list i ≡ Some a → slice_get list k ≡ Some b → Follows a b
  follow zero i k a b e r s =
      let f : k ≡ i = omega arith in
      let same : a ≡ b = cc in
      subst (λ x. Follows a x) same (record { minute = omega arith; keeps = λ h v is. is })
  follow (suc d) i k a b e r s =
      let inside = slice_get_within list k b s in
      let f : k ≡ i + d + 1 = omega arith in
      let known : i + d < length list = omega arith in
      let mid = get_or list (i + d) a in
      let read = slice_get-get_or list (i + d) a known in
      let before = follow d i (i + d) a mid refl r read in
      let last = rising (i + d) mid b read (subst (λ x. slice_get list x ≡ Some b) f s) in
      record {
        minute = let p = before.minute in let q = last.minute in omega arith;
        keeps = λ h v is. last.keeps h v (before.keeps h v is);
      }

  -- what the last entry that is not before the minute tells
  pub allows_by : (j : ℕ) (reward : ℤ) (ready : ℕ) (potential : ℤ) (at : ℕ) (best : Best) (most : ℤ) → slice_get list at ≡ Some best
      → ((next : Best) → slice_get list (at + 1) ≡ Some next → next.minute < ready)
      → ((h : ℕ) (v : ℤ) → h ≢ j → Bounds best h v → v ≤ℤ most) → (reward +ℤ most) ≤ℤ potential → AllowsFrom list j reward ready potential
  allows_by j reward ready potential at best most here last but enough h r ne bounded late = by (cases_lt at bounded.0)
    where
      by : (at < bounded.0) ⊎ (bounded.0 ≤ at) → (reward +ℤ r.potential) ≤ℤ potential
      by (inl lt) =
          let inside = slice_get_within list bounded.0 bounded.1 bounded.2 in
          let known : at + 1 < length list = omega arith in
          let next = get_or list (at + 1) best in
          let read = slice_get-get_or list (at + 1) best known in
          let early = last next read in
          let after = follow (bounded.0 - (at + 1)) (at + 1) bounded.0 next bounded.1 (omega arith) read bounded.2 in
          let m = after.minute in
          let f = bounded.3 in
          absurd (omega arith)
      by (inr le) =
          let after = follow (at - bounded.0) bounded.0 at bounded.1 best (omega arith) bounded.2 here in
          let low = but h r.potential ne (after.keeps h r.potential bounded.4) in
          omega (arith, ints)

-- a list without entries bounds no record
pub allows_none : (list : List Best) (j : ℕ) (reward : ℤ) (ready : ℕ) (potential : ℤ) → length list ≡ 0 → AllowsFrom list j reward ready potential
allows_none list j reward ready potential none h r ne bounded late =
    let inside = slice_get_within list bounded.0 bounded.1 bounded.2 in
    absurd (omega arith)

pub allows_sooner : (list : List Best) (j : ℕ) (reward : ℤ) (ready away : ℕ) (f : Record) → ready ≤ f.minute + away → AllowsFrom list j reward ready f.potential → AllowsFall list j reward away f
allows_sooner list j reward ready away f le from h r ne bounded late = from h r ne bounded (omega arith)
