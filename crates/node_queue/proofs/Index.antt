-- maps that have the keys of a slab's values by what is read of each
use Rattle.std.proofs.Common.{◌≡◌, ◌≢◌, ◌⊎◌, inl, inr, ℕ, Bool, true, false, cond, Option, None, Some, refl, ap, sym, ◌∙◌}
use Rattle.std.specs.Option.{option_map}
use Rattle.std.proofs.lemmas.Bool.{cases_eq}
use Rattle.std.proofs.lemmas.Option.{same_Some}
use Rattle.slab.specs.Slab.{Slab, get, Updates}
use Rattle.node_queue.specs.declared.Entry.{Entry}
use Rattle.node_queue.specs.Kept.{IsIndex}

none_not_some : {X : Type 0} (x : X) (o : Option X) → o ≡ None → o ≡ Some x → ⊥
none_not_some x o n s = cc

module _ {K : Type 0} (of : Entry → K) (s t : Slab Entry) (m n : K → Option ℕ) (is : IsIndex of s m) where
  -- where all is found as before
  pub same : ((k : ℕ) → get t k ≡ get s k) → ((q : K) → n q ≡ m q) → IsIndex of t n
  same gets finds = record {
    has = λ key e at. finds (of e) ∙ is.has key e (sym (gets key) ∙ at);
    all = λ q key at. ap (option_map of) (gets key) ∙ is.all q key (sym (finds q) ∙ at);
  }

  module _ (hit : K → Bool) (key : ℕ) (e : Entry) (tells : (q : K) → hit q ≡ true → of e ≡ q) (itself : hit (of e) ≡ true) where
    -- one more value, at a key and a place of its own
    pub more : get s key ≡ None → m (of e) ≡ None → Updates s t key (Some e) → ((q : K) → n q ≡ cond (hit q) (Some key) (m q)) → IsIndex of t n
    more vacant fresh u finds = record { has = λ k f at. has_by k f at (cases_eq k key); all = λ q k at. all_by q k at (hit q) refl }
      where
        has_by : (k : ℕ) (f : Entry) → get t k ≡ Some f → (k ≡ key) ⊎ (k ≡ key → ⊥) → n (of f) ≡ Some k
        has_by k f at (inl same) =
            let is_e : e ≡ f = same_Some e f (sym u.changed ∙ ap (get t) (sym same) ∙ at) in
            ap (λ g. n (of g)) (sym is_e) ∙ finds (of e) ∙ ap (λ b. cond b (Some key) (m (of e))) itself ∙ ap (λ j. Some j) (sym same)
        has_by k f at (inr differs) =
            let had : m (of f) ≡ Some k = is.has k f (sym (u.others k differs) ∙ at) in
            let by : (b : Bool) → hit (of f) ≡ b → n (of f) ≡ Some k = λ b h.
            elim b as (λ b. hit (of f) ≡ b → n (of f) ≡ Some k) [
              | true ↦ λ h. absurd (none_not_some k (m (of e)) fresh (ap m (tells (of f) h) ∙ had))
              | false ↦ λ h. finds (of f) ∙ ap (λ b. cond b (Some key) (m (of f))) h ∙ had
            ] h in
            by (hit (of f)) refl

        all_by : (q : K) (k : ℕ) → n q ≡ Some k → (b : Bool) → hit q ≡ b → option_map of (get t k) ≡ Some q
        all_by q k at true h =
            let same : key ≡ k = same_Some key k (sym (ap (λ b. cond b (Some key) (m q)) h) ∙ sym (finds q) ∙ at) in
            ap (λ j. option_map of (get t j)) (sym same) ∙ ap (option_map of) u.changed ∙ ap (λ p. Some p) (tells q h)
        all_by q k at false h =
            let had : option_map of (get s k) ≡ Some q = is.all q k (sym (ap (λ b. cond b (Some key) (m q)) h) ∙ sym (finds q) ∙ at) in
            let differs : k ≢ key = λ same. none_not_some q (option_map of (get s k)) (ap (λ j. option_map of (get s j)) same ∙ ap (option_map of) vacant) had in
            ap (option_map of) (u.others k differs) ∙ had

    -- one value less
    pub less : get s key ≡ Some e → Updates s t key None → ((q : K) → n q ≡ cond (hit q) None (m q)) → IsIndex of t n
    less was u finds = record { has = λ k f at. has_by k f at (hit (of f)) refl; all = λ q k at. all_by q k at (hit q) refl }
      where
        other : (k : ℕ) (f : Entry) → get t k ≡ Some f → k ≢ key
        other k f at same = none_not_some f (get t k) (ap (get t) same ∙ u.changed) at

        has_by : (k : ℕ) (f : Entry) → get t k ≡ Some f → (b : Bool) → hit (of f) ≡ b → n (of f) ≡ Some k
        has_by k f at true h =
            let had : m (of f) ≡ Some k = is.has k f (sym (u.others k (other k f at)) ∙ at) in
            let both : Some key ≡ Some k = sym (is.has key e was) ∙ ap m (tells (of f) h) ∙ had in
            absurd (other k f at (sym (same_Some key k both)))
        has_by k f at false h =
            let had : m (of f) ≡ Some k = is.has k f (sym (u.others k (other k f at)) ∙ at) in
            finds (of f) ∙ ap (λ b. cond b None (m (of f))) h ∙ had

        all_by : (q : K) (k : ℕ) → n q ≡ Some k → (b : Bool) → hit q ≡ b → option_map of (get t k) ≡ Some q
        all_by q k at true h = absurd (none_not_some k (n q) (finds q ∙ ap (λ b. cond b None (m q)) h) at)
        all_by q k at false h =
            let had : option_map of (get s k) ≡ Some q = is.all q k (sym (ap (λ b. cond b None (m q)) h) ∙ sym (finds q) ∙ at) in
            let differs : k ≢ key = λ same.
            let its : of e ≡ q = same_Some (of e) q (sym (ap (option_map of) was) ∙ ap (λ j. option_map of (get s j)) (sym same) ∙ had) in
            none_not_some k (n q) (finds q ∙ ap (λ b. cond b None (m q)) (ap hit (sym its) ∙ itself)) at in
            ap (option_map of) (u.others k differs) ∙ had
