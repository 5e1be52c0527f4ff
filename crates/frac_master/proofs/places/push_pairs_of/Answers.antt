use Rattle.std.proofs.Common.{◌≡◌, ◌++◌, ◌∷◌, [], ◌∙◌, ◌+◌, ℕ, Bool, true, false, cond, refl, ap, sym, arith, map, filter, append-nil}
use Rattle.std.specs.Prelude.{flat_map}
use Rattle.std.specs.List.{range_with_len}
use Rattle.std.proofs.lemmas.List.{map-append}
use Rattle.std.proofs.lemmas.Grind.{flat_map-append}
use Rattle.crew_terms.specs.Limits.{is_required, pair_of}
use Rattle.search_terms.specs.declared.Place.TheVariants.{Missed, Repeated}
use Rattle.frac_master.specs.Places.{both_of_pair}
use Rattle.frac_master.proofs.Ranges.{filter_range_more, grown_twice, longer_by_one}
use Rattle.frac_master.proofs.places.push_pairs_of.Goals as goal
use Rattle.frac_master.proofs.places.push_pairs_of.Goals.{then-is_required+in_ok-push+in_ok-push-2, else-is_required}

pairs_more : (test : ℕ → Bool) (j k : ℕ) (b : Bool) → test k ≡ b
    → flat_map both_of_pair (map (λ k. (k, j)) (filter test (range_with_len 0 (k + 1))))
    ≡ flat_map both_of_pair (map (λ k. (k, j)) (filter test (range_with_len 0 k))) ++ cond b (Missed k j ∷ Repeated k j ∷ []) []
pairs_more test j k b e =
    let f : ℕ → ℕ × ℕ = λ k. (k, j) in
    let front = filter test (range_with_len 0 k) in
    ap (λ l. flat_map both_of_pair (map f l)) (filter_range_more test k)
    ∙ ap (flat_map both_of_pair) (map-append f front (cond (test k) (k ∷ []) []))
    ∙ flat_map-append both_of_pair (map f front) (map f (cond (test k) (k ∷ []) []))
    ∙ ap (λ l. flat_map both_of_pair (map f front) ++ l) (ap (λ t. flat_map both_of_pair (map f (cond t (k ∷ []) []))) e ∙ by_case b)
  where
    by_case : (b : Bool) → flat_map both_of_pair (map (λ k. (k, j)) (cond b (k ∷ []) [])) ≡ cond b (Missed k j ∷ Repeated k j ∷ []) []
    by_case true = refl
    by_case false = refl

pub loop-k-preserved : goal.loop-k-preserved
loop-k-preserved c =
    let k = c.loop-k.k in
    let j = c.args.j in
    let n = c.args.limits.now.limits in
    let test : ℕ → Bool = λ k. is_required (pair_of n k j) in
    let old = c.args.places.now.items in
    let front = c.loop-k.places.items in
    let all = flat_map both_of_pair (map (λ k. (k, j)) (filter test (range_with_len 0 k))) in
    let few = c.loop-k.invariant.few in
    elim c.if-is_required.branch [
      | then-is_required+in_ok-push+in_ok-push-2 w ↦
          let e = w.in_ok-push.ensures.items in
          let f = w.in_ok-push-2.ensures.items in
          let t = ap is_required (sym c.pair.ensures) ∙ sym c.is_required.ensures ∙ w.if-is_required.true in
          let l = longer_by_one front w.push.new.self.items (Missed k j) e in
          let m = longer_by_one w.push.new.self.items w.push-then-is_required.new.self.items (Repeated k j) f in
          rw w.places-is (record {
            places = grown_twice old front w.push.new.self.items w.push-then-is_required.new.self.items (Missed k j) (Repeated k j) all c.loop-k.invariant.places e f
                ∙ ap (λ l. old ++ l) (sym (pairs_more test j k true t));
            few = omega arith;
          })
      | else-is_required w ↦
          let t = ap is_required (sym c.pair.ensures) ∙ sym c.is_required.ensures ∙ w.if-is_required.false in
          rw w.places-is (record {
            places = c.loop-k.invariant.places ∙ ap (λ l. old ++ l) (sym (pairs_more test j k false t ∙ append-nil all));
            few = omega arith;
          })
    ]
