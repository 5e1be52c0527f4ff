-- the causes of a search may be told of its nodes
use Rattle.std.proofs.Common.{◌≡◌, ◌≤◌, ◌<◌, ◌+◌, ◌-◌, ◌*◌, ◌==◌, ◌<ℤ◌, ◌∙◌, ◌∷◌, [], ℕ, zero, suc, ℤ, pos, negsuc, List, Bool, true, false, All, length, map, drop, refl, ap, sym, subst, arith}
use Rattle.std.specs.Int.{w128}
use Rattle.std.specs.List.{AllByRecursion}
use Rattle.std.specs.Prelude.{FitsSigned, filter, unsigned_abs}
use Rattle.std.proofs.lemmas.Bool.{eq-eqb}
use Rattle.std.proofs.lemmas.Int.{ints}
use Rattle.std.proofs.lemmas.List.{drop-map, length-map}
use Rattle.std.proofs.lemmas.List.Sums.{sum_by-cons}
use Rattle.std.proofs.lemmas.List.Elements.{All-cons, All-drop, All-head, All-nil, All-tail}
use Rattle.branch_tree.specs.Entries.{EachSplitOf}
use Rattle.branch_tree.specs.Trees.{BranchTree}
use Rattle.cert_write.specs.Causes.{part_of}
use Rattle.column_arena.specs.Legal.{IsLegalColumn}
use Rattle.crew_terms.specs.Branches.{LeafNode, SplitNode, splits}
use Rattle.crew_terms.specs.Limits.{Limits, Route, tasks_in, teams_in}
use Rattle.crew_terms.specs.Tree.{child}
use Rattle.crew_terms.specs.declared.Side.TheVariants.{First, Second}
use Rattle.crew_terms.specs.declared.TheConstants.{MOST_NUMBER}
use Rattle.dossier_terms.specs.Causes.{AreShares, IsCauseIn, IsLooseAt, IsNow, IsPartOf, Part, PartsRise, Shares, choice_of, share_of as told_share}
use Rattle.frac_master.specs.declared.shares.Share.{Share}
use Rattle.master_run.specs.Shares.{fractional_of, share_of}
use Rattle.master_run.specs.State.{Rise}
use Rattle.node_solver.specs.declared.step.Why.{Why}
use Rattle.node_solver.specs.declared.step.Why.TheVariants as whys
use Rattle.search_core.specs.Shown.{IsShownCause, IsShownWhy, ShowsLoose}
use Rattle.search_core.specs.declared.causes.Cause.{Cause}
use Rattle.share_terms.specs.Shares.{FractionalChoice, IsFractional, IsLoose, IsRouteIn, Share as RouteShare, parts_of, shares_of}
use Rattle.written_laws.specs.Told.{IsInRange, told_of, told_why}

-- ---- shares

-- the column of a share
abbrev pub column_in : Share → ℕ
column_in s = s.column

some_parts : (z : ℤ) → pos 0 <ℤ z → 1 ≤ unsigned_abs z
some_parts (pos m) less = omega (arith, ints, less)
some_parts (negsuc m) less = absurd (omega (arith, ints, less))

whole_fits : (den : ℤ) → pos 0 <ℤ den → FitsSigned w128 den → unsigned_abs den ≤ 170141183460469231731687303715884105727
whole_fits (pos m) less fits = let f : m < 170141183460469231731687303715884105728 = fits.sfits in omega (arith, f)
whole_fits (negsuc m) less fits = absurd (omega (arith, ints, less))

first_most : (a b m : ℕ) → a + b ≤ m → a ≤ m
first_most a b m less = omega arith

second_most : (a b m : ℕ) → a + b ≤ m → b ≤ m
second_most a b m less = omega arith

kept_sum : (p : RouteShare → Bool) (s : RouteShare) (shares : List RouteShare) → p s ≡ true
    → parts_of (filter p (s ∷ shares)) ≡ s.parts + parts_of (filter p shares)
kept_sum p s shares is = rw is (sum_by-cons (λ (x : RouteShare). x.parts) s (filter p shares))

left_sum : (p : RouteShare → Bool) (s : RouteShare) (shares : List RouteShare) → p s ≡ false
    → parts_of (filter p (s ∷ shares)) ≡ parts_of (filter p shares)
left_sum p s shares is = rw is refl

-- no share is more than a whole, where no team has more
module _ (whole teams : ℕ) where
  share_most : (shares : List RouteShare) → ((k : ℕ) → k < teams → parts_of (shares_of shares k) ≤ whole) → All (λ (s : RouteShare). s.route.team < teams) shares
      → AllByRecursion (λ (s : RouteShare). s.parts ≤ whole) shares
  share_most [] most known = tt
  share_most (s ∷ shares) most known = (
    here (most s.route.team (All-head (λ (s : RouteShare). s.route.team < teams) s shares known)),
    share_most shares (λ k below. later k (k == s.route.team) refl (most k below)) (All-tail (λ (s : RouteShare). s.route.team < teams) s shares known),
  )
    where
      here : parts_of (shares_of (s ∷ shares) s.route.team) ≤ whole → s.parts ≤ whole
      here less =
          let own : s.route.team == s.route.team ≡ true = eq-eqb s.route.team s.route.team refl in
          first_most s.parts (parts_of (shares_of shares s.route.team)) whole
          (subst (λ m. m ≤ whole) (kept_sum (λ (x : RouteShare). s.route.team == x.route.team) s shares own) less)

      later : (k : ℕ) (b : Bool) → k == s.route.team ≡ b → parts_of (shares_of (s ∷ shares) k) ≤ whole → parts_of (shares_of shares k) ≤ whole
      later k true is less =
          second_most s.parts (parts_of (shares_of shares k)) whole
          (subst (λ m. m ≤ whole) (kept_sum (λ (x : RouteShare). k == x.route.team) s shares is) less)
      later k false is less = subst (λ m. m ≤ whole) (left_sum (λ (x : RouteShare). k == x.route.team) s shares is) less

module _ (pool : List Route) (n : Limits) where
  teams_known : (shares : List Share) → All (λ (s : Share). IsLegalColumn n pool s.column) shares
      → All (λ (s : RouteShare). s.route.team < teams_in n) (map (share_of pool) shares)
  teams_known [] legal = All-nil (λ (s : RouteShare). s.route.team < teams_in n)
  teams_known (s ∷ shares) legal =
      All-cons (λ (s : RouteShare). s.route.team < teams_in n) (share_of pool s) (map (share_of pool) shares)
      (All-head (λ (s : Share). IsLegalColumn n pool s.column) s shares legal).route.team
      (teams_known shares (All-tail (λ (s : Share). IsLegalColumn n pool s.column) s shares legal))

  parts_are : (whole : ℕ) (shares : List Share) → All (λ (s : Share). IsLegalColumn n pool s.column) shares → All (λ (s : Share). pos 0 <ℤ s.num) shares
      → AllByRecursion (λ (s : RouteShare). s.parts ≤ whole) (map (share_of pool) shares) → AllByRecursion (IsPartOf (length pool) whole) (map part_of shares)
  parts_are whole [] legal positive most = tt
  parts_are whole (s ∷ shares) legal positive most = (
    record {
      known = (All-head (λ (s : Share). IsLegalColumn n pool s.column) s shares legal).known;
      some = some_parts s.num (All-head (λ (s : Share). pos 0 <ℤ s.num) s shares positive);
      most = most.0;
    },
    parts_are whole shares (All-tail (λ (s : Share). IsLegalColumn n pool s.column) s shares legal)
        (All-tail (λ (s : Share). pos 0 <ℤ s.num) s shares positive) most.1,
  )

  -- rising numbers of columns are no more than there are columns
  few_shares : (from : ℕ) (shares : List Share) → All (λ (s : Share). IsLegalColumn n pool s.column) shares → Rise from (map column_in shares)
      → length shares ≤ length pool - from
  few_shares from [] legal rise = omega arith
  few_shares from (s ∷ shares) legal rise =
      let k = (All-head (λ (s : Share). IsLegalColumn n pool s.column) s shares legal).known in
      let l = rise.0 in
      let r = few_shares (suc s.column) shares (All-tail (λ (s : Share). IsLegalColumn n pool s.column) s shares legal) rise.1 in
      omega (arith, k, l, r)

parts_rise : (from : ℕ) (shares : List Share) → Rise from (map column_in shares) → PartsRise from (map part_of shares)
parts_rise from [] rise = tt
parts_rise from (s ∷ shares) rise = (rise.0, parts_rise (suc s.column) shares rise.1)

pub told_shares : (pool : List Route) (shares : List Share) → map (told_share pool) (map part_of shares) ≡ map (share_of pool) shares
told_shares pool [] = refl
told_shares pool (s ∷ shares) = ap (λ (xs : List RouteShare). share_of pool s ∷ xs) (told_shares pool shares)

-- ---- causes

module _ (pool : List Route) (u : ℕ) (few : length pool ≤ MOST_NUMBER) where
  loose_may : (n : Limits) (now : ℕ) (den : ℤ) (shares : List Share) (left_open : List ℤ) → IsNow n u now → ShowsLoose pool n now den shares left_open
      → FitsSigned w128 den → IsCauseIn pool n u (told_why now (whys.Loose den shares left_open))
  loose_may n now den shares left_open is shown fits =
      let held = shown.held in
      let whole = unsigned_abs den in
      let choice = fractional_of pool den shares left_open in
      let told : Shares = record { whole = whole; parts = map part_of shares; spare = map unsigned_abs left_open } in
      let same : choice_of pool told ≡ choice = ap (λ (xs : List RouteShare). record choice { shares = xs }) (told_shares pool shares) in
      let most = share_most whole (teams_in n) (map (share_of pool) shares) shown.fractional.most (teams_known pool n shares held.legal) in
      let count = length-map shares part_of in
      let less = few_shares pool n 0 shares held.legal held.rise in
      let loose : IsLoose n choice ((now - 1) * 1000 + 1) 1000 =
      subst (λ m. IsLoose n choice m 1000) (let e : 1000 * (now - 1) + 1 ≡ (now - 1) * 1000 + 1 = omega arith in e) shown.loose in (
        is,
        record {
          whole = whole_fits den held.positive.whole fits;
          count = omega (arith, count, less, few);
          parts = parts_are pool n whole shares held.legal held.positive.parts most;
          rise = parts_rise 0 shares held.rise;
        },
        record {
          choice = subst (IsFractional n) (sym same) shown.fractional;
          loose = subst (λ (c : FractionalChoice). IsLoose n c ((now - 1) * 1000 + 1) 1000) (sym same) loose;
        },
      )

  why_may : (n : Limits) (now : ℕ) (why : Why) → IsNow n u now → IsShownWhy pool n now why → IsInRange why → IsCauseIn pool n u (told_why now why)
  why_may n now (whys.Loose den shares left_open) is shown range = loose_may n now den shares left_open is shown range
  why_may n now (whys.Overflow fault) is shown range = (is, record { a = range.0; b = range.1; leaves = shown })
  why_may n now whys.Spent is shown range = is

  -- causes that show in their nodes may be told there
  pub causes_may : (n : Limits) (t : BranchTree) (causes : List Cause) → EachSplitOf (IsShownCause pool u) n t causes
      → All (λ (c : Cause). IsInRange c.why) causes → EachSplitOf (λ m c. IsCauseIn pool m u c) n t (map told_of causes)
  causes_may n (LeafNode leaf) causes shown range = tt
  causes_may n (SplitNode choice first second) [] shown range = absurd shown
  causes_may n (SplitNode choice first second) (c ∷ causes) shown range =
      let behind = All-tail (λ (c : Cause). IsInRange c.why) c causes range in (
        why_may n c.now c.why (record { some = shown.0.some; known = shown.0.known; enough = shown.0.enough }) shown.0.why
            (All-head (λ (c : Cause). IsInRange c.why) c causes range),
        causes_may (child n choice First) first causes shown.1 behind,
        subst (λ cs. EachSplitOf (λ m c. IsCauseIn pool m u c) (child n choice Second) second cs) (sym (drop-map told_of (splits first) causes))
            (causes_may (child n choice Second) second (drop (splits first) causes) shown.2
            (All-drop (λ (c : Cause). IsInRange c.why) (splits first) causes behind)),
      )
