-- the rules of a team, judged at its last line
use Rattle.std.proofs.Common.{◌≡◌, ℕ, ℤ, sym, subst, refl}
use Rattle.std.specs.Prelude.{◌≤ℤ◌, ◌+ℤ◌}
use Rattle.crew_terms.specs.Limits.{Limits, tasks_in}
use Rattle.crew_terms.specs.Leaf.{HoldsPotential, HoldsWorth}
use Rattle.dossier_terms.specs.declared.Reason.TheVariants.{Potential, Worth as LowWorth}
use Rattle.potentials.specs.Rules.{IsLocalVerdict}
use Rattle.potentials.specs.declared.rules.LocalVerdict.TheVariants as verdicts
use Rattle.sheet_terms.specs.Rules.{Must, Holds, Fails, MustEach, HoldsOfAll, FailsAt}
use Rattle.sheet_terms.specs.Reading.{SheetAnswer, No as Refuses}

module _ (n : Limits) (k : ℕ) (w : ℕ → ℕ → ℤ) where
  to_potential : (f g : ℕ → ℕ → ℤ) → ((j t : ℕ) → f j t ≡ g j t) → (j : ℕ) → HoldsPotential n k w f j → HoldsPotential n k w g j
  to_potential f g same j h = record {
    alone = λ t v. subst (λ x. w j t ≤ℤ x) (same j t) (h.alone t v);
    step = λ t i u a b s. subst (λ x. (w j t +ℤ x) ≤ℤ g j t) (same i u) (subst (λ x. (w j t +ℤ f i u) ≤ℤ x) (same j t) (h.step t i u a b s));
  }

  to_worth : (f g : ℕ → ℕ → ℤ) → ((j t : ℕ) → f j t ≡ g j t) → (worth : ℤ) → HoldsWorth n k f worth → HoldsWorth n k g worth
  to_worth f g same worth h = record { most = λ j t v. subst (λ x. x ≤ℤ worth) (same j t) (h.most j t v); idle = h.idle }

  module _ (f g : ℕ → ℕ → ℤ) (worth : ℤ) (same : (j t : ℕ) → f j t ≡ g j t) (rest : SheetAnswer → Type 0) where
    back : (j t : ℕ) → g j t ≡ f j t
    back j t = sym (same j t)

    abbrev pub TeamRules : SheetAnswer → Type 0
    TeamRules = MustEach (tasks_in n) (HoldsPotential n k w g) (λ j. Refuses (Potential k j)) (Must (HoldsWorth n k g worth) (Refuses (LowWorth k)) rest)

    pub team_low : (j : ℕ) → IsLocalVerdict n k w f worth (verdicts.Low j) → TeamRules (Refuses (Potential k j))
    team_low j h = FailsAt j h.0 (λ i l. to_potential f g same i (h.1 i l)) (λ b. h.2 (to_potential g f back j b)) refl

    pub team_worth : IsLocalVerdict n k w f worth verdicts.Worth → TeamRules (Refuses (LowWorth k))
    team_worth h = HoldsOfAll (λ j l. to_potential f g same j (h.0 j)) (Fails (λ b. h.1 (to_worth g f back worth b)) refl)

    pub team_holds : IsLocalVerdict n k w f worth verdicts.Holds → (said : SheetAnswer) → rest said → TeamRules said
    team_holds h said others = HoldsOfAll (λ j l. to_potential f g same j (h.tasks j)) (Holds (to_worth f g same worth h.worth_rules) others)
