-- the fields of a queue as one comes and goes
use Rattle.std.proofs.Common.{◌≡◌, ◌<◌, ◌+◌, ◌++◌, ℕ, ℤ, Bool, true, false, cond, [], ◌∷◌, None, Some, refl, ap, sym, subst, ◌∙◌, arith}
use Rattle.std.specs.Prelude.{All}
use Rattle.std.specs.BTreeMap as tree
use Rattle.std.specs.BTreeMap.{insert_entry, is_at}
use Rattle.std.specs.List.Sorted.{IsStrictlySortedBy}
use Rattle.std.specs.Map.{keys_of, lookup, remove_entry, values_of}
use Rattle.std.specs.Ordering.{nat_cmp}
use Rattle.std.proofs.lemmas.Cmp.{nat_cmp_total}
use Rattle.std.proofs.lemmas.List.Elements.{All-weaker}
use Rattle.std.proofs.lemmas.Map.Lookups.{exact_unsigned}
use Rattle.std.proofs.lemmas.Map.Views.{All-keys-insert_entry, All-map-remove_entry}
use Rattle.slab.specs.Slab.{get, Updates}
use Rattle.node_queue.specs.declared.Entry.{Entry}
use Rattle.node_queue.specs.declared.Queue.TheInside.{Inside}
use Rattle.node_queue.specs.Kept.{IsKept, Rank, age_of, rank_cmp, rank_of, waits, waits_in}
use Rattle.node_queue.specs.Waits.{without}
use Rattle.node_queue.proofs.Index.{less, more, same}
use Rattle.node_queue.proofs.Ages.{are_keys, hits, hits_itself, insert_last, others_left, past_all, rank_past, ranks, ranks_tell}
use Rattle.node_queue.proofs.Keys.{one_more, vacant_out, without_is}

-- the key of an entry comes into both maps
pub record Comes (a b : Inside) (key : ℕ) (e : Entry) : Type 0 where
  pub vacant : get a.entries key ≡ None
  pub entry : Updates a.entries b.entries key (Some e)
  pub age : e.age ≡ a.next_age
  pub ages : (q : ℕ) → tree.get nat_cmp b.ages q ≡ cond (is_at (nat_cmp e.age) q) (Some key) (tree.get nat_cmp a.ages q)
  pub last : b.ages.entries ≡ insert_entry nat_cmp a.ages.entries e.age key
  pub ordered : tree.IsOrdered nat_cmp b.ages
  pub order : (q : Rank) → tree.get rank_cmp b.order q ≡ cond (is_at (rank_cmp (rank_of e)) q) (Some key) (tree.get rank_cmp a.order q)
  pub next : b.next_age ≡ a.next_age + 1

-- the key of an entry goes out of both maps
pub record Goes (a b : Inside) (key : ℕ) (e : Entry) : Type 0 where
  pub was : get a.entries key ≡ Some e
  pub entry : Updates a.entries b.entries key None
  pub ages : (q : ℕ) → tree.get nat_cmp b.ages q ≡ cond (is_at (nat_cmp e.age) q) None (tree.get nat_cmp a.ages q)
  pub left : b.ages.entries ≡ remove_entry (is_at (nat_cmp e.age)) a.ages.entries
  pub ordered : tree.IsOrdered nat_cmp b.ages
  pub order : (q : Rank) → tree.get rank_cmp b.order q ≡ cond (is_at (rank_cmp (rank_of e)) q) None (tree.get rank_cmp a.order q)
  pub next : b.next_age ≡ a.next_age

-- no key has the next age
pub no_age : (a : Inside) → IsKept a → tree.get nat_cmp a.ages a.next_age ≡ None
no_age a kept = past_all a.ages a.next_age kept.past (tree.get nat_cmp a.ages a.next_age) refl

pub no_rank : (a : Inside) (bound : ℤ) → IsKept a → tree.get rank_cmp a.order (bound, a.next_age) ≡ None
no_rank a bound kept =
    rank_past a.entries (tree.get nat_cmp a.ages) (tree.get rank_cmp a.order) (bound, a.next_age) kept.by_age kept.by_rank (no_age a kept) (tree.get rank_cmp a.order (bound, a.next_age)) refl

pub comes_kept : (a b : Inside) (key : ℕ) (e : Entry) → IsKept a → Comes a b key e → IsKept b
comes_kept a b key e kept c =
    let no : tree.get nat_cmp a.ages e.age ≡ None = ap (tree.get nat_cmp a.ages) c.age ∙ no_age a kept in
    let none : tree.get rank_cmp a.order (rank_of e) ≡ None = ap (λ n. tree.get rank_cmp a.order (e.waiting.bound, n)) c.age ∙ no_rank a e.waiting.bound kept in
    let had : All (λ (n : ℕ). n < b.next_age) (tree.keys a.ages) = All-weaker (λ (n : ℕ). n < a.next_age) (λ (n : ℕ). n < b.next_age) (λ n lt. omega (arith, lt, c.next)) (tree.keys a.ages) kept.past in
    let past : All (λ (n : ℕ). n < b.next_age) (keys_of (insert_entry nat_cmp a.ages.entries e.age key)) = All-keys-insert_entry nat_cmp e.age key (λ (n : ℕ). n < b.next_age) a.ages.entries had (omega (arith, c.age, c.next)) in
    record {
      by_age = more age_of a.entries b.entries (tree.get nat_cmp a.ages) (tree.get nat_cmp b.ages) kept.by_age (is_at (nat_cmp e.age)) key e (hits exact_unsigned e.age) (hits_itself nat_cmp_total e.age) c.vacant no c.entry c.ages;
      by_rank = more rank_of a.entries b.entries (tree.get rank_cmp a.order) (tree.get rank_cmp b.order) kept.by_rank (is_at (rank_cmp (rank_of e))) key e (hits ranks_tell (rank_of e)) (hits_itself ranks (rank_of e)) c.vacant none c.entry c.order;
      ordered = c.ordered;
      past = subst (λ es. All (λ (n : ℕ). n < b.next_age) (keys_of es)) (sym c.last) past;
    }

pub comes_last : (a b : Inside) (key : ℕ) (e : Entry) → IsKept a → Comes a b key e → waits b ≡ waits a ++ (key, e.waiting) ∷ []
comes_last a b key e kept c =
    let past : All (λ (n : ℕ). n < e.age) (tree.keys a.ages) = subst (λ m. All (λ (n : ℕ). n < m) (tree.keys a.ages)) (sym c.age) kept.past in
    let out = vacant_out a.entries (tree.values a.ages) key (are_keys a.entries a.ages kept.by_age kept.ordered) c.vacant in
    ap (λ es. waits_in b.entries (values_of es)) c.last
    ∙ ap (waits_in b.entries) (insert_last a.ages.entries e.age key past)
    ∙ one_more a.entries b.entries (tree.values a.ages) key e out c.entry

pub goes_kept : (a b : Inside) (key : ℕ) (e : Entry) → IsKept a → Goes a b key e → IsKept b
goes_kept a b key e kept g =
    let past : All (λ (n : ℕ). n < a.next_age) (keys_of (remove_entry (is_at (nat_cmp e.age)) a.ages.entries)) = All-map-remove_entry (is_at (nat_cmp e.age)) (λ (f : ℕ × ℕ). f.0) (λ (n : ℕ). n < a.next_age) a.ages.entries kept.past in
    record {
      by_age = less age_of a.entries b.entries (tree.get nat_cmp a.ages) (tree.get nat_cmp b.ages) kept.by_age (is_at (nat_cmp e.age)) key e (hits exact_unsigned e.age) (hits_itself nat_cmp_total e.age) g.was g.entry g.ages;
      by_rank = less rank_of a.entries b.entries (tree.get rank_cmp a.order) (tree.get rank_cmp b.order) kept.by_rank (is_at (rank_cmp (rank_of e))) key e (hits ranks_tell (rank_of e)) (hits_itself ranks (rank_of e)) g.was g.entry g.order;
      ordered = g.ordered;
      past = subst (λ m. All (λ (n : ℕ). n < m) (tree.keys b.ages)) (sym g.next) (subst (λ es. All (λ (n : ℕ). n < a.next_age) (keys_of es)) (sym g.left) past);
    }

pub goes_out : (a b : Inside) (key : ℕ) (e : Entry) → IsKept a → Goes a b key e → waits b ≡ without (waits a) key
goes_out a b key e kept g =
    ap (λ es. waits_in b.entries (values_of es)) g.left
    ∙ ap (waits_in b.entries) (others_left a.ages.entries e.age key (are_keys a.entries a.ages kept.by_age kept.ordered).differ (kept.by_age.has key e g.was))
    ∙ without_is a.entries b.entries (tree.values a.ages) key g.entry.others

-- where a rank came and went, and all else is as before
pub undone_kept : (a b : Inside) (key : ℕ) (bound : ℤ) → IsKept a → ((k : ℕ) → get b.entries k ≡ get a.entries k) → b.ages.entries ≡ a.ages.entries
    → ((q : Rank) → tree.get rank_cmp b.order q ≡ cond (is_at (rank_cmp (bound, a.next_age)) q) None (cond (is_at (rank_cmp (bound, a.next_age)) q) (Some key) (tree.get rank_cmp a.order q)))
    → b.next_age ≡ a.next_age → IsKept b
undone_kept a b key bound kept gets ages order next = record {
  by_age = same age_of a.entries b.entries (tree.get nat_cmp a.ages) (tree.get nat_cmp b.ages) kept.by_age gets (λ q. ap (lookup (is_at (nat_cmp q))) ages);
  by_rank = same rank_of a.entries b.entries (tree.get rank_cmp a.order) (tree.get rank_cmp b.order) kept.by_rank gets (λ q. order q ∙ back q (is_at (rank_cmp (bound, a.next_age)) q) refl);
  ordered = subst (λ es. IsStrictlySortedBy nat_cmp (keys_of es)) (sym ages) kept.ordered;
  past = subst (λ es. All (λ (n : ℕ). n < b.next_age) (keys_of es)) (sym ages) (subst (λ m. All (λ (n : ℕ). n < m) (tree.keys a.ages)) (sym next) kept.past);
}
  where
    back : (q : Rank) (b : Bool) → is_at (rank_cmp (bound, a.next_age)) q ≡ b → cond b None (cond b (Some key) (tree.get rank_cmp a.order q)) ≡ tree.get rank_cmp a.order q
    back q true h = sym (ap (tree.get rank_cmp a.order) (sym (hits ranks_tell (bound, a.next_age) q h)) ∙ no_rank a bound kept)
    back q false h = refl
