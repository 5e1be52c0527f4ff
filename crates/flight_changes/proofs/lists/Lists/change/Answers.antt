use Rattle.std.proofs.Common.{◌≡◌, inl, inr, refl, subst}
use Rattle.day_terms.specs.Entries.{after_entry}
use Rattle.day_terms.specs.State.{DayState}
use Rattle.day_terms.specs.declared.Entry.{Entry}
use Rattle.day_terms.specs.declared.Entry.TheVariants.{Now, Plan, Thaw}
use Rattle.flight_changes.specs.Kept.{kept}
use Rattle.flight_changes.proofs.lists.Lists.change.Goals as goal

stays : DayState → Entry → Type 0
stays s e = s ≡ after_entry s e

pub returns-in-Plan-clause-ok : goal.returns-in-Plan-clause-ok
unfolding stays
returns-in-Plan-clause-ok c =
    let s = kept c.self.inside in
    let all : (e : Entry) → s ≡ after_entry s e → c.args.self.now ≡ after_entry c.args.self.now e = λ e same. subst (λ s. stays s e) c.self.view_is same in
    elim c.in-Plan.is [
      | inl plan ↦ rw plan.1 (all (Plan plan.0) refl)
      | inr rest ↦ elim rest [ inl now ↦ rw now.1 (all (Now now.0) refl) | inr thaw ↦ rw thaw.1 (all (Thaw thaw.0) refl) ]
    ]
