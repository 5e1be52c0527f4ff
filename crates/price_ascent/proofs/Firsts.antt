-- the worths of teams, class by class of those that price alike
use Rattle.std.proofs.Common.{◌≡◌, ◌≢◌, ◌≤◌, ◌<◌, ◌+◌, ◌++◌, ◌∷◌, [], ℕ, ℤ, pos, List, length, set, ◌⊎◌, inl, inr, ap, sym, subst, ◌∙◌, arith, get_or-set_same, get_or-set_other, length-append}
use Rattle.std.proofs.lemmas.Bool.{cases_eq, cases_lt}
use Rattle.std.proofs.lemmas.List.{length-set, get_or_append_left, get_or_push}
use Rattle.crew_terms.specs.Limits.{Limits, teams_in}
use Rattle.crew_terms.specs.Leaf.{Prices, IsWorth, worth_of, earned}
use Rattle.label_pricing.specs.Alike.{AreAlike}
use Rattle.price_ascent.specs.Classes.{AreFirsts, AreKnownBefore, AreKnownUpTo, first_of}

module _ (n : Limits) (p : Prices) (firsts : List ℕ) (are : AreFirsts n firsts) (h : ℕ) where
  -- what holds of the first team of a class, and of each that is alike, holds of each of the class
  pub of_class : (P : ℕ → Type 0) → P h → ((k : ℕ) → AreAlike n h k → P k) → (k : ℕ) → k < teams_in n → first_of firsts k ≡ h → P k
  of_class P here alike k l e = by (cases_eq h k)
    where
      by : (h ≡ k) ⊎ (h ≡ k → ⊥) → P k
      by (inl same) = subst P same here
      by (inr ne) = alike k (subst (λ g. AreAlike n g k) e (are.alike k l (λ same. ne (sym e ∙ same))))

  pub begun : (worths : List ℤ) → AreKnownBefore n p firsts h worths → AreKnownUpTo n p firsts h 0 worths
  begun worths before = record { before = before; each = λ k l. absurd (omega arith) }

  module _ (m : ℕ) (worths : List ℤ) (is : AreKnownUpTo n p firsts h m worths) where
    pub passed : (first_of firsts m ≡ h → ⊥) → AreKnownUpTo n p firsts h (m + 1) worths
    passed ne = record { before = is.before; each = λ k l below e. by k l below e (cases_eq k m) }
      where
        by : (k : ℕ) → k < m + 1 → k < teams_in n → first_of firsts k ≡ h → (k ≡ m) ⊎ (k ≡ m → ⊥) → IsWorth n k (earned p k) (worth_of worths k)
        by k l below e (inl same) = absurd (ne (ap (first_of firsts) (sym same) ∙ e))
        by k l below e (inr other) = is.each k (let d : k ≢ m = other in omega arith) below e

    pub taken : (worth : ℤ) → m < teams_in n → first_of firsts m ≡ h → IsWorth n m (earned p m) worth → AreKnownUpTo n p firsts h (m + 1) (set worths m worth)
    taken worth known e here = record {
      before = record {
        count = length-set worths m worth ∙ is.before.count;
        each = λ k l first. let ne : k ≢ m = (λ same. let a = ap (first_of firsts) same in absurd (omega arith)) in
            subst (IsWorth n k (earned p k)) (sym (get_or-set_other worths m k worth (pos 0) ne)) (is.before.each k l first);
      };
      each = λ k l below f. by k l below f (cases_eq k m);
    }
      where
        by : (k : ℕ) → k < m + 1 → k < teams_in n → first_of firsts k ≡ h → (k ≡ m) ⊎ (k ≡ m → ⊥) → IsWorth n k (earned p k) (worth_of (set worths m worth) k)
        by k l below f (inl same) =
            let inside : m < length worths = let a = is.before.count in omega arith in
            subst (λ g. IsWorth n g (earned p g) (worth_of (set worths m worth) g)) (sym same) (subst (IsWorth n m (earned p m)) (sym (get_or-set_same worths m worth (pos 0) inside)) here)
        by k l below f (inr other) =
            let ne : k ≢ m = other in
            subst (IsWorth n k (earned p k)) (sym (get_or-set_other worths m k worth (pos 0) ne)) (is.each k (omega arith) below f)

    pub all_known : teams_in n ≤ m → AreKnownBefore n p firsts (h + 1) worths
    all_known all = record { count = is.before.count; each = λ k l first. by k l first (cases_eq (first_of firsts k) h) }
      where
        by : (k : ℕ) → k < teams_in n → first_of firsts k < h + 1 → (first_of firsts k ≡ h) ⊎ (first_of firsts k ≡ h → ⊥) → IsWorth n k (earned p k) (worth_of worths k)
        by k l first (inl e) = is.each k (omega arith) l e
        by k l first (inr ne) = is.before.each k l (let d : first_of firsts k ≢ h = ne in omega arith)

  -- a team that is not the first of its class is nobody's first
  pub no_class : (worths : List ℤ) → (first_of firsts h ≡ h → ⊥) → AreKnownBefore n p firsts h worths → AreKnownBefore n p firsts (h + 1) worths
  no_class worths ne before = record { count = before.count; each = λ k l first. by k l first (cases_eq (first_of firsts k) h) }
    where
      by : (k : ℕ) → k < teams_in n → first_of firsts k < h + 1 → (first_of firsts k ≡ h) ⊎ (first_of firsts k ≡ h → ⊥) → IsWorth n k (earned p k) (worth_of worths k)
      by k l first (inl e) = absurd (ne (ap (first_of firsts) (sym e) ∙ are.own k l ∙ e))
      by k l first (inr d) = before.each k l (let x : first_of firsts k ≢ h = d in omega arith)

-- the first teams of the first k teams
pub record AreFirstsBelow (n : Limits) (k : ℕ) (firsts : List ℕ) : Type 0 where
  pub count : length firsts ≡ k
  pub early : (g : ℕ) → g < k → first_of firsts g ≤ g
  pub own : (g : ℕ) → g < k → first_of firsts (first_of firsts g) ≡ first_of firsts g
  pub alike : (g : ℕ) → g < k → first_of firsts g ≢ g → AreAlike n (first_of firsts g) g

-- one more team: a first one before it that is alike, or itself
pub firsts_more : (n : Limits) (k : ℕ) (firsts : List ℕ) (first : ℕ) → AreFirstsBelow n k firsts → first ≤ k → (first < k → first_of firsts first ≡ first) → (first < k → AreAlike n first k)
    → AreFirstsBelow n (k + 1) (firsts ++ first ∷ [])
firsts_more n k firsts first is early own alike = record {
  count = length-append firsts (first ∷ []) ∙ (let a = is.count in omega arith);
  early = λ g l. early_at g (cases_lt g k) l;
  own = λ g l. own_at g (cases_lt g k) l;
  alike = λ g l ne. alike_at g (cases_lt g k) l ne;
}
  where
    old_at : (g : ℕ) → g < k → first_of (firsts ++ first ∷ []) g ≡ first_of firsts g
    old_at g l = get_or_append_left firsts (first ∷ []) 0 g (let a = is.count in omega arith)

    new_at : (g : ℕ) → g ≡ k → first_of (firsts ++ first ∷ []) g ≡ first
    new_at g e = get_or_push firsts first 0 g (is.count ∙ sym e)

    early_at : (g : ℕ) → (g < k) ⊎ (k ≤ g) → g < k + 1 → first_of (firsts ++ first ∷ []) g ≤ g
    early_at g (inl b) l = let a = old_at g b in let c = is.early g b in omega arith
    early_at g (inr ge) l = let a = new_at g (omega arith) in omega arith

    own_of : (g : ℕ) → g ≡ first → (first < k) ⊎ (k ≤ first) → first_of (firsts ++ first ∷ []) g ≡ g
    own_of g e (inl b) = let a = old_at g (omega arith) in let c = own b in ap (first_of (firsts ++ first ∷ [])) e ∙ old_at first b ∙ c ∙ sym e
    own_of g e (inr ge) = new_at g (omega arith) ∙ sym e

    own_at : (g : ℕ) → (g < k) ⊎ (k ≤ g) → g < k + 1 → first_of (firsts ++ first ∷ []) (first_of (firsts ++ first ∷ []) g) ≡ first_of (firsts ++ first ∷ []) g
    own_at g (inl b) l =
        let e = old_at g b in
        let c = is.early g b in
        ap (first_of (firsts ++ first ∷ [])) e ∙ old_at (first_of firsts g) (omega arith) ∙ is.own g b ∙ sym e
    own_at g (inr ge) l = own_of (first_of (firsts ++ first ∷ []) g) (new_at g (omega arith)) (cases_lt first k)

    alike_at : (g : ℕ) → (g < k) ⊎ (k ≤ g) → g < k + 1 → first_of (firsts ++ first ∷ []) g ≢ g → AreAlike n (first_of (firsts ++ first ∷ []) g) g
    alike_at g (inl b) l ne =
        let e = old_at g b in
        subst (λ f. AreAlike n f g) (sym e) (is.alike g b (λ same. ne (e ∙ same)))
    alike_at g (inr ge) l ne =
        let at : g ≡ k = omega arith in
        let e = new_at g at in
        let less : first < k = let d : first_of (firsts ++ first ∷ []) g ≢ g = ne in omega arith in
        subst (λ f. AreAlike n f g) (sym e) (subst (λ t. AreAlike n first t) (sym at) (alike less))
