-- the ends that are told, one by one
use Rattle.std.proofs.Common.{◌≡◌, ◌≢◌, ◌<◌, ◌≤◌, ◌+◌, ◌++◌, ◌⊎◌, inl, inr, ℕ, List, [], ◌∷◌, Bool, true, false, cond, Option, Some, None, length, get_or, set, take, eqb, arith, refl, sym, ap, subst, ◌∙◌}
use Rattle.std.specs.List.{All, AllPairs, find}
use Rattle.std.specs.Option.{option_map_or}
use Rattle.std.proofs.lemmas.Bool.{eqb-true}
use Rattle.std.proofs.lemmas.Bool.Decides.{eqb_tells}
use Rattle.std.proofs.lemmas.List.{get_or-set_other, get_or-set_same, get_or-take, get_or_default, length-set, length-take-le, take_more}
use Rattle.std.proofs.lemmas.List.Elements.{All-head, All-tail}
use Rattle.delay_wave.specs.declared.lates.Late.{Late}
use Rattle.delay_wave.specs.declared.lates.TheConstants.{LATEST_END}
use Rattle.delay_wave.specs.Ends.{told_end}

end_at : Bool → Late → Option Late → ℕ
end_at b l o = option_map_or (λ (l : Late). l.end) (cond b (Some l) o) 0

first_end : (b : Bool) (l : Late) (o : Option Late) → option_map_or (λ (l : Late). l.end) (cond b (Some l) o) 0 ≡ cond b l.end (option_map_or (λ (l : Late). l.end) o 0)
first_end true l o = refl
first_end false l o = refl

-- of two tests that don't both hold, either may come first
either_first : (a b : Bool) (x y z : ℕ) → (a ≡ true → b ≡ false) → cond a x (cond b y z) ≡ cond b y (cond a x z)
either_first true true x y z h = absurd (let e : true ≡ false = h refl in cc)
either_first true false x y z h = refl
either_first false true x y z h = refl
either_first false false x y z h = refl

-- one more late task, which no earlier one is
pub told_push : (ls : List Late) (l : Late) (j : ℕ) → All (λ (x : Late). x.task ≢ l.task) ls → told_end (ls ++ l ∷ []) j ≡ cond (eqb l.task j) l.end (told_end ls j)
told_push [] l j h = first_end (eqb l.task j) l None
told_push (x ∷ xs) l j h =
    first_end (eqb x.task j) x (find (λ (l : Late). eqb l.task j) (xs ++ l ∷ []))
    ∙ ap (cond (eqb x.task j) x.end) (told_push xs l j (All-tail (λ (x : Late). x.task ≢ l.task) x xs h))
    ∙ either_first (eqb x.task j) (eqb l.task j) x.end l.end (told_end xs j) other
    ∙ ap (cond (eqb l.task j) l.end) (sym (first_end (eqb x.task j) x (find (λ (l : Late). eqb l.task j) xs)))
  where
    other : eqb x.task j ≡ true → eqb l.task j ≡ false
    other e = elim (eqb_tells l.task j) [
      | inl (f, g) ↦ absurd (All-head (λ (x : Late). x.task ≢ l.task) x xs h (eqb-true x.task j e ∙ sym g))
      | inr (f, g) ↦ f
    ]

-- the ends are those of the first n late tasks
pub record AreToldBy (lates : List Late) (n tasks : ℕ) (ends : List ℕ) : Type 0 where
  pub count : length ends ≡ tasks
  pub ends_are : (j : ℕ) → get_or ends j 0 ≡ told_end (take n lates) j

module _ (lates : List Late) (n tasks : ℕ) (l d : Late) (below : n < length lates) (here : get_or lates n d ≡ l)
    (known : l.task < tasks) (differ : AllPairs (λ (a b : Late). a.task ≢ b.task) lates) (ends : List ℕ) (are : AreToldBy lates n tasks ends) where
  new : All (λ (x : Late). x.task ≢ l.task) (take n lates)
  new k e m =
      let len = length-take-le n lates (omega arith) in
      let less : k < n = omega arith in
      let apart = differ k n e less below in
      let same : get_or lates n e ≡ l = get_or_default lates n e d below ∙ here in
      let at = get_or-take n lates k e less in
      subst (λ (x : Late). x.task ≢ l.task) (sym at) (subst (λ (x : Late). (get_or lates k e).task ≢ x.task) same apart)

  told_here : (j : ℕ) → told_end (take (n + 1) lates) j ≡ cond (eqb l.task j) l.end (told_end (take n lates) j)
  told_here j =
      ap (λ ls. told_end ls j) (take_more lates n d below ∙ ap (λ (x : Late). take n lates ++ x ∷ []) here)
      ∙ told_push (take n lates) l j new

  pub told_more : AreToldBy lates (n + 1) tasks (set ends l.task l.end)
  told_more = record { count = length-set ends l.task l.end ∙ are.count; ends_are = λ j. at j (eqb_tells l.task j) }
    where
      at : (j : ℕ) → ((eqb l.task j ≡ true) × (l.task ≡ j)) ⊎ ((eqb l.task j ≡ false) × (l.task ≢ j)) → get_or (set ends l.task l.end) j 0 ≡ told_end (take (n + 1) lates) j
      at j (inl (e, f)) =
          let room : l.task < length ends = let c = are.count in omega arith in
          ap (λ h. get_or (set ends l.task l.end) h 0) (sym f) ∙ get_or-set_same ends l.task l.end 0 room
          ∙ sym (told_here j ∙ ap (λ b. cond b l.end (told_end (take n lates) j)) e)
      at j (inr (e, f)) =
          let ne : j ≢ l.task = λ g. f (sym g) in
          get_or-set_other ends l.task j l.end 0 ne ∙ are.ends_are j
          ∙ sym (told_here j ∙ ap (λ b. cond b l.end (told_end (take n lates) j)) e)

-- no end that is told is later than all may be
pub told_in_range : (ls : List Late) (j : ℕ) → All (λ (l : Late). l.end ≤ LATEST_END) ls → told_end ls j ≤ LATEST_END
told_in_range [] j h = omega arith
told_in_range (x ∷ xs) j h =
    subst (λ n. n ≤ LATEST_END) (sym (first_end (eqb x.task j) x (find (λ (l : Late). eqb l.task j) xs)))
    (either (eqb x.task j) (All-head (λ (l : Late). l.end ≤ LATEST_END) x xs h) (told_in_range xs j (All-tail (λ (l : Late). l.end ≤ LATEST_END) x xs h)))
  where
    either : (b : Bool) → x.end ≤ LATEST_END → told_end xs j ≤ LATEST_END → cond b x.end (told_end xs j) ≤ LATEST_END
    either true l m = l
    either false l m = m
