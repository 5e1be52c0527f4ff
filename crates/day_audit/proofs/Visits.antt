-- equal lists of visits
use Rattle.std.proofs.Common.{◌≡◌, true, ℕ, List, ap, subst, ◌∙◌}
use Rattle.std.specs.Bool.{Decides}
use Rattle.std.specs.Cmp.{IsEquivalence, on_equiv, and_equiv, nat_eq_equiv, unsigned_Decides, first_so, second_so}
use Rattle.std.specs.Cmp.Lexicographic.{pointwise, pointwise_decides}
use Rattle.std.specs.Prelude.{nat_eq}
use Rattle.crew_terms.specs.declared.Visit.{Visit}
use Rattle.route_terms.specs.Keys.{same_visit}
use Rattle.route_terms.specs.KeyLaws.{visit_at}

same_visit_equiv : IsEquivalence same_visit
same_visit_equiv = and_equiv (on_equiv (λ (v : Visit). v.task) nat_eq_equiv) (on_equiv (λ (v : Visit). v.start) nat_eq_equiv)

same_visit_decides : (a b : Visit) → Decides (same_visit a b) (a ≡ b)
same_visit_decides a b = (
  λ h.
      let j : a.task ≡ b.task = (unsigned_Decides a.task b.task).0 (first_so (nat_eq a.task b.task) (nat_eq a.start b.start) h) in
      let t : a.start ≡ b.start = (unsigned_Decides a.start b.start).0 (second_so (nat_eq a.task b.task) (nat_eq a.start b.start) h) in
      ap (λ m. visit_at m a.start) j ∙ ap (visit_at b.task) t,
  λ e. subst (λ c. same_visit a c ≡ true) e (same_visit_equiv.refl a),
)

pub visits_decide : (xs ys : List Visit) → Decides (pointwise same_visit xs ys) (xs ≡ ys)
visits_decide = pointwise_decides same_visit_decides
