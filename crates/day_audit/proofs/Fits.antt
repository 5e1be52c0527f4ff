-- what is told of a dossier beside a round, and the round that is due
use Rattle.std.proofs.Common.{◌≡◌, ◌≢◌, ◌∙◌, ℕ, List, Option, None, Some, take, ap, subst, sym}
use Rattle.std.specs.Prelude.{option_map}
use Rattle.crew_terms.specs.Instance.{Instance}
use Rattle.crew_terms.specs.Limits.{Limits, Route, root_limits}
use Rattle.crew_terms.specs.Rules.{IsInstance}
use Rattle.dossier_terms.specs.Dossier.{Dossier, IsGood}
use Rattle.route_terms.specs.Named.{NamedRoute}
use Rattle.route_terms.specs.Kept.{AreKeptIn}
use Rattle.day_terms.specs.Rounds.{Round}
use Rattle.day_terms.specs.State.{DayState}
use Rattle.cert_checker.specs.Checked.{IsWholeAt}
use Rattle.cert_checker.specs.declared.checker.State.{State}
use Rattle.day_audit.specs.Belongs.{BelongsToRound, IsFit, kept_of}
use Rattle.day_audit.specs.Kept.{round_of}
use Rattle.day_audit.specs.declared.audit.Fit.TheVariants as fits

module _ (at : State) (i held : Instance) (handed : List NamedRoute) (nodes budget : ℕ)
    (is_held : (d : Dossier) → IsWholeAt at d → held ≡ d.instance) where
  abbrev round : Round
  round = record { instance = i; nodes = nodes }

  pub other_instance : held ≢ i → (d : Dossier) → IsWholeAt at d → IsFit handed round d fits.Instance
  other_instance other d w = λ e. other (is_held d w ∙ e)

  same_instance : held ≡ i → (d : Dossier) → IsWholeAt at d → d.instance ≡ i
  same_instance e d w = sym (is_held d w) ∙ e

  module _ (is_budget : (d : Dossier) → IsWholeAt at d → budget ≡ d.budget) where
    pub other_nodes : held ≡ i → budget ≢ nodes → (d : Dossier) → IsWholeAt at d → IsFit handed round d fits.Nodes
    other_nodes e other d w = (same_instance e d w, λ same. other (is_budget d w ∙ same))

    module _ (same : held ≡ i) (enough : budget ≡ nodes) (kept : List Route) (are : AreKeptIn (root_limits i) handed kept) where
      pub other_kept : (is : IsInstance i)
          (one : (n : Limits) (carried : List NamedRoute) (xs ys : List Route) → IsInstance n.instance → AreKeptIn n carried xs → AreKeptIn n carried ys → xs ≡ ys)
          (d : Dossier) → (kept_of d ≡ kept → ⊥) → IsWholeAt at d → IsFit handed round d fits.Kept
      other_kept is one d other w =
          (same_instance same d w, sym (is_budget d w) ∙ enough, λ keeps. other (one (root_limits i) handed (kept_of d) kept is keeps are))

      pub all_fit : (d : Dossier) → IsGood d → kept_of d ≡ kept → IsWholeAt at d → IsFit handed round d fits.Fits
      all_fit d good e w = record {
        good = good;
        instance = same_instance same d w;
        budget = sym (is_budget d w) ∙ enough;
        kept = subst (AreKeptIn (root_limits i) handed) (sym e) are;
      }

-- the round that is due has the budget that is kept
pub due_is : (s : DayState) (due : Option ℕ) (nodes : ℕ) (r : Round) → due ≡ Some nodes → option_map (round_of s) due ≡ Some r → round_of s nodes ≡ r
due_is s None nodes r e f = absurd (cc)
due_is s (Some n) nodes r e f =
    let a : n ≡ nodes = cc in
    let b : round_of s n ≡ r = cc in
    subst (λ m. round_of s m ≡ r) a b
