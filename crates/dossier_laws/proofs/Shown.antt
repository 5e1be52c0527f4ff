-- loose causes bound the prices of their nodes
use Rattle.std.proofs.Common.{◌≡◌, ◌≤◌, ◌+◌, ◌-◌, ◌*◌, ℕ, ℤ, pos, List, subst, arith}
use Rattle.std.specs.Prelude.{◌≤ℤ◌}
use Rattle.crew_terms.specs.Limits.{Limits, Route}
use Rattle.crew_terms.specs.Leaf.{Prices, IsValidLeaf, bound_of}
use Rattle.crew_terms.specs.Branches.{LeafNode, SplitNode}
use Rattle.crew_terms.specs.Tree.{child}
use Rattle.crew_terms.specs.declared.Side.TheVariants.{First, Second}
use Rattle.crew_terms.specs.declared.TheConstants.{D}
use Rattle.share_terms.specs.declared.TheConstants.{MARGIN}
use Rattle.share_terms.specs.Shares.{FractionalChoice, IsFractional, IsLoose}
use Rattle.dossier_terms.specs.declared.DossierForm.{DossierForm}
use Rattle.dossier_terms.specs.declared.DossierForm.TheVariants.{One, Two}
use Rattle.dossier_terms.specs.Causes.{Cause, NoCause, Loose, Overflowed, Spent, IsCauseOf, IsCauseIn, choice_of}
use Rattle.dossier_terms.specs.Dossier.{Written, AreCaused}
use Rattle.dossier_laws.specs.Shown.{IsShownBy, EachStaysOpen}

-- what the law of loose choices says
abbrev pub BoundsPrices : Type 0
BoundsPrices = (n : Limits) (prices : Prices) (worths : List ℤ) (phi : ℕ → ℕ → ℕ → ℤ) (c : FractionalChoice) (now : ℕ) → IsValidLeaf n prices worths phi → IsFractional n c → 1 ≤ now
    → IsLoose n c (1000 * (now - 1) + 1) 1000 → bound_of n prices worths ≤ℤ pos ((now - 1) * D + MARGIN)

shown_in : BoundsPrices → (pool : List Route) (n : Limits) (u : ℕ) (cause : Cause) → IsCauseIn pool n u cause → IsShownBy cause n
shown_in law pool n u NoCause h = tt
shown_in law pool n u (Loose now s) h = λ prices worths phi valid.
    let same : (now - 1) * 1000 + 1 ≡ 1000 * (now - 1) + 1 = omega arith in
    law n prices worths phi (choice_of pool s) now valid h.2.choice h.0.some (subst (λ most. IsLoose n (choice_of pool s) most 1000) same h.2.loose)
shown_in law pool n u (Overflowed now fault) h = tt
shown_in law pool n u (Spent now) h = tt

shown_of : BoundsPrices → (form : DossierForm) (pool : List Route) (n : Limits) (u : ℕ) (cause : Cause) → IsCauseOf form pool n u cause → IsShownBy cause n
shown_of law One pool n u NoCause h = tt
shown_of law One pool n u (Loose now s) h = absurd cc
shown_of law One pool n u (Overflowed now fault) h = absurd cc
shown_of law One pool n u (Spent now) h = absurd cc
shown_of law Two pool n u cause h = shown_in law pool n u cause h

pub each_open : BoundsPrices → (form : DossierForm) (pool : List Route) (n : Limits) (u : ℕ) (t : Written) → AreCaused form pool n u t → EachStaysOpen n t
each_open law form pool n u (LeafNode claim) h = tt
each_open law form pool n u (SplitNode split first second) h = (
  shown_of law form pool n u split.cause h.0,
  each_open law form pool (child n split.choice First) u first h.1,
  each_open law form pool (child n split.choice Second) u second h.2,
)
