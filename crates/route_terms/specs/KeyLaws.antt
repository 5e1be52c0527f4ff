-- routes that are equal as keys are equal, and hashed alike
use Rattle.std.proofs.Common.{◌≡◌, true, ℕ, ap, subst, ◌∙◌}
use Rattle.std.specs.Bool.{Decides}
use Rattle.std.specs.Cmp.{IsEquivalence, IsPartialEquivalence, partial_equiv_from_equiv, and_equiv, on_equiv, nat_eq_equiv, unsigned_Decides, first_so, second_so}
use Rattle.std.specs.Cmp.Lexicographic.{pointwise, pointwise_decides, lists_equiv}
use Rattle.std.specs.Prelude.{nat_eq}
use Rattle.crew_terms.specs.declared.Visit.{Visit}
use Rattle.crew_terms.specs.Limits.{Route}
use Rattle.route_terms.specs.Keys.{same_visit, same_route, route_input}
use Rattle.route_terms.specs.Routes.{route_of}

same_visit_equiv : IsEquivalence same_visit
same_visit_equiv = and_equiv (on_equiv (λ (v : Visit). v.task) nat_eq_equiv) (on_equiv (λ (v : Visit). v.start) nat_eq_equiv)

pub same_route_equiv : IsEquivalence same_route
same_route_equiv = and_equiv (on_equiv (λ (r : Route). r.team) nat_eq_equiv) (on_equiv (λ (r : Route). r.visits) (lists_equiv same_visit_equiv))

pub same_route_per : IsPartialEquivalence same_route
same_route_per = partial_equiv_from_equiv same_route_equiv

abbrev pub visit_at : ℕ → ℕ → Visit
visit_at task start = record { task = task; start = start }

same_visit_decides : (a b : Visit) → Decides (same_visit a b) (a ≡ b)
same_visit_decides a b = (
  λ h.
      let j : a.task ≡ b.task = (unsigned_Decides a.task b.task).0 (first_so (nat_eq a.task b.task) (nat_eq a.start b.start) h) in
      let t : a.start ≡ b.start = (unsigned_Decides a.start b.start).0 (second_so (nat_eq a.task b.task) (nat_eq a.start b.start) h) in
      ap (λ m. visit_at m a.start) j ∙ ap (visit_at b.task) t,
  λ e. subst (λ c. same_visit a c ≡ true) e (same_visit_equiv.refl a),
)

pub same_route_decides : (a b : Route) → Decides (same_route a b) (a ≡ b)
same_route_decides a b = (
  λ h.
      let k : a.team ≡ b.team = (unsigned_Decides a.team b.team).0 (first_so (nat_eq a.team b.team) (pointwise same_visit a.visits b.visits) h) in
      let vs : a.visits ≡ b.visits = (pointwise_decides same_visit_decides a.visits b.visits).0 (second_so (nat_eq a.team b.team) (pointwise same_visit a.visits b.visits) h) in
      ap (λ t. route_of t a.visits) k ∙ ap (route_of b.team) vs,
  λ e. subst (λ c. same_route a c ≡ true) e (same_route_equiv.refl a),
)

pub same_route_fed : (a b : Route) → same_route a b ≡ true → route_input a ≡ route_input b
same_route_fed a b h = ap route_input ((same_route_decides a b).0 h)
