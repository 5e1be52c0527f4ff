use Rattle.std.proofs.Common.{◌≡◌, ◌≢◌, ◌++◌, ◌∷◌, [], sym, subst, ap, ◌∙◌, if◌then◌else◌}
use Rattle.std.specs.Prelude.{AllPairs}
use Rattle.std.proofs.lemmas.Map.Made.{AllPairs-from_IsDistinct}
use Rattle.std.proofs.lemmas.Slice.Eq.{bytes_eq-Decides}
use Rattle.day_terms.specs.Refusal.{refusal_by_lists}
use Rattle.day_terms.specs.declared.Entry.TheVariants.{Place}
use Rattle.flight_changes.specs.Kept.{kept}
use Rattle.flight_changes.specs.Limits.{IsState}
use Rattle.flight_changes.proofs.Accepted.{place_accepted}
use Rattle.flight_changes.proofs.States.{place_more}
use Rattle.flight_changes.proofs.lists.Lists.add_place.Goals as goal

pub invariant_of-self-2 : goal.invariant_of-self-2
invariant_of-self-2 c =
    let s = kept c.self.inside in
    let e : (kept c.self.inside) ≡ c.args.self.now = c.self.view_is in
    let ok = place_accepted s c.args.name (ap (λ s. refusal_by_lists s (Place c.args.name)) e ∙ c.requires) in
    let grows : c.insert.new.self.keys ≡ c.self.inside.places.keys ++ c.args.name ∷ [] =
    c.in_ok-insert.ensures.keys ∙ ap (λ b. if b then c.self.inside.places.keys else c.self.inside.places.keys ++ c.args.name ∷ []) ok.1 in
    let apart = subst (AllPairs (λ a b. a ≢ b)) grows (AllPairs-from_IsDistinct bytes_eq-Decides c.insert.new.self.keys c.in_ok-insert.ensures.unique) in
    record {
      teams_by_name = c.self.invariant.teams_by_name;
      tasks_by_name = c.self.invariant.tasks_by_name;
      state = subst (λ ps. IsState (record s { places = ps })) (sym grows) (place_more s c.self.invariant.state c.args.name ok.0 c.bytes.ensures.name apart);
    }
