-- the bounds of the parts of a good bundle add up to one of the day
use Rattle.std.proofs.Common.{◌≡◌, ◌≤◌, ◌+◌, ℕ, suc, List, [], ◌∷◌, ap, sym, subst, arith}
use Rattle.std.specs.Prelude.{All, max, flat_map}
use Rattle.std.specs.List.{sum_by}
use Rattle.std.proofs.Math.Nat.{max-le}
use Rattle.std.proofs.lemmas.List.Sums.{sum_by-cons}
use Rattle.crew_terms.specs.Instance.{Instance}
use Rattle.crew_terms.specs.Legal.{IsLegal}
use Rattle.crew_terms.specs.Plan.{Plan, unassigned_count}
use Rattle.crew_terms.specs.Rules.{IsInstance}
use Rattle.dossier_terms.specs.Dossier.{Dossier, IsGood}
use Rattle.part_terms.specs.Parts.{AreDisjointParts, Part, Restricts, cut_down}
use Rattle.part_texts.specs.Bundle.{Bundle, IsGoodBundle, IsTrueBundle, bound_of, instances_in, instances_of, sum_of_bounds}

-- how many tasks of a part the plan leaves unassigned
abbrev left_in : Plan → Part → ℕ
left_in p part = unassigned_count (cut_down p part.tasks)

module _ (bounds : (d : Dossier) (p : Plan) → IsGood d → IsLegal d.instance p → d.bound ≤ unassigned_count p)
    (legal_in : (i j : Instance) (tasks : List ℕ) (p : Plan) → IsInstance i → Restricts i j tasks → IsLegal i p → IsLegal j (cut_down p tasks)) where
  -- each part leaves its bound
  each_leaves : (i : Instance) (p : Plan) → IsInstance i → IsLegal i p → (ds : List Dossier) (parts : List Part) → instances_of ds ≡ instances_in parts → All IsGood ds
      → All (λ (part : Part). Restricts i part.instance part.tasks) parts → sum_of_bounds ds ≤ sum_by (left_in p) parts
  each_leaves i p is legal [] [] e good each = omega arith
  each_leaves i p is legal [] (part ∷ parts) e good each = absurd (cc)
  each_leaves i p is legal (d ∷ ds) [] e good each = absurd (cc)
  each_leaves i p is legal (d ∷ ds) (part ∷ parts) e good each =
      let same : part.instance ≡ d.instance = cc in
      let others : instances_of ds ≡ instances_in parts = cc in
      let there : IsLegal part.instance (cut_down p part.tasks) = legal_in i part.instance part.tasks p is (each 0 part (omega arith)) legal in
      let first : d.bound ≤ left_in p part = bounds d (cut_down p part.tasks) (good 0 d (omega arith)) (subst (λ j. IsLegal j (cut_down p part.tasks)) same there) in
      let rest = each_leaves i p is legal ds parts others (λ m x l. good (suc m) x (omega arith)) (λ m x l. each (suc m) x (omega arith)) in
      let a = sum_by-cons (λ (d : Dossier). d.bound) d ds in
      let b = sum_by-cons (left_in p) part parts in
      omega arith

  pub bundle_is_true : ((i : Instance) (parts : List Part) (p : Plan) → AreDisjointParts i parts → IsLegal i p → sum_by (left_in p) parts ≤ unassigned_count p)
      → (b : Bundle) → IsGoodBundle b → IsTrueBundle b
  bundle_is_true adds b good = record {
    good = good;
    legal = good.day.plan;
    bound = λ p legal.
        let h = good.divided.1 in
        let least = each_leaves b.day.instance p good.day.instance legal b.parts h.parts h.instances good.good h.disjoint.each in
        let most = adds b.day.instance h.parts p h.disjoint legal in
        max-le (bounds b.day p good.day legal) (omega arith);
  }
