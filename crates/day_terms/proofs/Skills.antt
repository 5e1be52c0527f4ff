-- the skills of a team, with one more and with one less
use Rattle.std.proofs.Common.{◌≡◌, ◌≢◌, ◌<◌, ◌-◌, ◌^◌, ◌⊎◌, ◌↔◌, inl, inr, ℕ, Some, max, min, slice_get, ap, sym, ◌∙◌, subst, arith}
use Rattle.std.specs.Prelude.{bit_and, bit_or}
use Rattle.std.specs.Int.{bit_at, bit_not, w64}
use Rattle.std.proofs.lemmas.Bool.{cases_eq, cases_lt}
use Rattle.std.proofs.Math.Pow.{pow-lt}
use Rattle.std.proofs.lemmas.Nat.Bits.{bit_at_and, bit_at_or, bit_at_not, bit_at_above, bit_at-lt, bit_at-pow_same, bit_at-pow_other}
use Rattle.std.proofs.lemmas.Option.{same_Some}
use Rattle.crew_terms.specs.declared.Team.{Team}
use Rattle.day_terms.specs.State.{DayState}
use Rattle.day_terms.specs.Entries.{after_entry}
use Rattle.day_terms.specs.declared.Entry.TheVariants.{Skill, Unskill}
use Rattle.day_terms.proofs.Named.{changed_named}
use Rattle.day_terms.proofs.Times.{Bytes}

one_more : (set n m : ℕ) → (bit_at (bit_or set (2 ^ n)) m ≡ 1) ↔ ((m ≡ n) ⊎ (bit_at set m ≡ 1))
one_more set n m =
    let or = bit_at_or set (2 ^ n) m in
    let small = bit_at-lt set m in
    elim (cases_eq m n) [
      | inl e ↦
          let one : bit_at (2 ^ n) m ≡ 1 = ap (bit_at (2 ^ n)) e ∙ bit_at-pow_same n in
          ((λ h. inl e), (λ h. or ∙ ap (max (bit_at set m)) one ∙ max_one (bit_at set m) small))
      | inr ne ↦
          let zero_there : bit_at (2 ^ n) m ≡ 0 = bit_at-pow_other n m ne in
          let as_before : bit_at (bit_or set (2 ^ n)) m ≡ bit_at set m = or ∙ ap (max (bit_at set m)) zero_there ∙ max_zero (bit_at set m) in
          ((λ h. inr (sym as_before ∙ h)), (λ h. elim h [ inl e ↦ absurd (ne e) | inr h ↦ as_before ∙ h ]))
    ]
  where
    max_one : (b : ℕ) → b < 2 → max b 1 ≡ 1
    max_one b small = omega arith

    max_zero : (b : ℕ) → max b 0 ≡ b
    max_zero b = omega arith

one_less : (set n m : ℕ) → n < 64 → set < 2 ^ 64 → (bit_at (bit_and set (bit_not w64 (2 ^ n))) m ≡ 1) ↔ ((m ≢ n) × (bit_at set m ≡ 1))
one_less set n m known small = elim (cases_lt m 64) [
  | inl below ↦ inside below
  | inr above ↦
      let none : bit_at set m ≡ 0 = bit_at_above set 64 m small above in
      let both : bit_at (bit_and set (bit_not w64 (2 ^ n))) m ≡ 0 = bit_at_and set (bit_not w64 (2 ^ n)) m ∙ ap (λ b. min b (bit_at (bit_not w64 (2 ^ n)) m)) none ∙ zero_min (bit_at (bit_not w64 (2 ^ n)) m) in
      ((λ h. absurd (let e : 0 ≡ 1 = sym both ∙ h in cc)), (λ h. absurd (let e : 0 ≡ 1 = sym none ∙ h.1 in cc)))
]
  where
    min_one : (b : ℕ) → b < 2 → min b 1 ≡ b
    min_one b small = omega arith

    min_zero : (b : ℕ) → min b 0 ≡ 0
    min_zero b = omega arith

    zero_min : (b : ℕ) → min 0 b ≡ 0
    zero_min b = omega arith

    inside : m < 64 → (bit_at (bit_and set (bit_not w64 (2 ^ n))) m ≡ 1) ↔ ((m ≢ n) × (bit_at set m ≡ 1))
    inside below =
        let fits : 2 ^ n < 2 ^ 64 = pow-lt known in
        let is : bit_at (bit_and set (bit_not w64 (2 ^ n))) m ≡ min (bit_at set m) (1 - bit_at (2 ^ n) m) =
        bit_at_and set (bit_not w64 (2 ^ n)) m ∙ ap (min (bit_at set m)) (bit_at_not w64 (2 ^ n) m fits below) in
        elim (cases_eq m n) [
          | inl e ↦
              let one : bit_at (2 ^ n) m ≡ 1 = ap (bit_at (2 ^ n)) e ∙ bit_at-pow_same n in
              let gone : bit_at (bit_and set (bit_not w64 (2 ^ n))) m ≡ 0 = is ∙ ap (λ b. min (bit_at set m) (1 - b)) one ∙ min_zero (bit_at set m) in
              ((λ h. absurd (let f : 0 ≡ 1 = sym gone ∙ h in cc)), (λ h. absurd (h.0 e)))
          | inr ne ↦
              let zero_there : bit_at (2 ^ n) m ≡ 0 = bit_at-pow_other n m ne in
              let as_before : bit_at (bit_and set (bit_not w64 (2 ^ n))) m ≡ bit_at set m =
              is ∙ ap (λ b. min (bit_at set m) (1 - b)) zero_there ∙ min_one (bit_at set m) (bit_at-lt set m) in
              ((λ h. (ne, sym as_before ∙ h)), (λ h. as_before ∙ h.1))
        ]

module _ (s : DayState) (team : Bytes) (n k m : ℕ) (before after : Team) (at : slice_get s.teams k ≡ Some before) (named : before.name ≡ team) where
  pub skill : slice_get (after_entry s (Skill team n)).teams k ≡ Some after → (bit_at after.skills m ≡ 1) ↔ ((m ≡ n) ⊎ (bit_at before.skills m ≡ 1))
  skill then =
      let change : Team → Team = λ t. record t { skills = bit_or t.skills (2 ^ n) } in
      let same : change before ≡ after = same_Some (change before) after (sym (changed_named (λ (t : Team). t.name) s.teams team change k before at named) ∙ then) in
      subst (λ (t : Team). (bit_at t.skills m ≡ 1) ↔ ((m ≡ n) ⊎ (bit_at before.skills m ≡ 1))) same (one_more before.skills n m)

  pub unskill : slice_get (after_entry s (Unskill team n)).teams k ≡ Some after → n < 64 → before.skills < 2 ^ 64
      → (bit_at after.skills m ≡ 1) ↔ ((m ≢ n) × (bit_at before.skills m ≡ 1))
  unskill then known small =
      let change : Team → Team = λ t. record t { skills = bit_and t.skills (bit_not w64 (2 ^ n)) } in
      let same : change before ≡ after = same_Some (change before) after (sym (changed_named (λ (t : Team). t.name) s.teams team change k before at named) ∙ then) in
      subst (λ (t : Team). (bit_at t.skills m ≡ 1) ↔ ((m ≢ n) × (bit_at before.skills m ≡ 1))) same (one_less before.skills n m known small)
