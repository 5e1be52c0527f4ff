-- falls of potentials, found from the first place up
use Rattle.std.proofs.Common.{◌≡◌, ◌≤◌, ◌<◌, ◌+◌, ◌++◌, ◌∷◌, [], ℕ, ℤ, ◌≤ℤ◌, List, ◌⊎◌, inl, inr, ap, arith}
use Rattle.std.specs.List.{All, Contains}
use Rattle.std.proofs.lemmas.Int.{ints}
use Rattle.std.proofs.lemmas.Bool.{cases_eq}
use Rattle.std.proofs.lemmas.List.Elements.{All-push, All-contains, Contains-push, Contains-append_left}
use Rattle.potentials.specs.Followers.{potential_at}
use Rattle.potentials.specs.declared.records.Record.{Record}

-- a fall no later and no higher
abbrev pub HasFall : List ℤ → ℕ → List Record → ℕ → Type 0
HasFall potentials opens falls a = (f : Record) × Contains falls f × (f.minute ≤ opens + a) × (f.potential ≤ℤ potential_at potentials a)

-- the falls of the places before `past`
pub record FallsBefore (potentials : List ℤ) (opens past : ℕ) (falls : List Record) : Type 0 where
  pub early : All (λ (f : Record). f.minute ≤ opens + past) falls
  pub all : (a : ℕ) → a < past → HasFall potentials opens falls a

module _ (potentials : List ℤ) (opens past : ℕ) (falls : List Record) (are : FallsBefore potentials opens past falls) where
  pub no_fall : (f : Record) → Contains falls f → f.potential ≤ℤ potential_at potentials past → FallsBefore potentials opens (past + 1) falls
  no_fall f has low = record {
    early = λ k d l. let m = are.early k d l in omega arith;
    all = all;
  }
    where
      all : (a : ℕ) → a < past + 1 → HasFall potentials opens falls a
      all a l = by (cases_eq a past)
        where
          by : (a ≡ past) ⊎ (a ≡ past → ⊥) → HasFall potentials opens falls a
          by (inl e) =
              let early = All-contains (λ (g : Record). g.minute ≤ opens + past) falls f are.early has in
              let s = ap (potential_at potentials) e in
              (f, has, omega arith, omega (arith, ints))
          by (inr ne) = are.all a (let d = ne in omega arith)

  pub one_fall : (f : Record) → f.minute ≡ opens + past → f.potential ≡ potential_at potentials past → FallsBefore potentials opens (past + 1) (falls ++ f ∷ [])
  one_fall f minute potential = record {
    early = All-push (λ (g : Record). g.minute ≤ opens + (past + 1)) falls f (λ k d l. let m = are.early k d l in omega arith) (omega arith);
    all = all;
  }
    where
      all : (a : ℕ) → a < past + 1 → HasFall potentials opens (falls ++ f ∷ []) a
      all a l = by (cases_eq a past)
        where
          by : (a ≡ past) ⊎ (a ≡ past → ⊥) → HasFall potentials opens (falls ++ f ∷ []) a
          by (inl e) = let s = ap (potential_at potentials) e in (f, Contains-push falls f, omega arith, omega (arith, ints))
          by (inr ne) =
              let at = are.all a (let d = ne in omega arith) in
              (at.0, Contains-append_left falls (f ∷ []) at.0 at.1, at.2, at.3)
