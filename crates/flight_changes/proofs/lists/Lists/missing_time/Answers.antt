use Rattle.std.proofs.Common.{sym, ap, subst, ◌∙◌}
use Rattle.flight_changes.specs.Limits.{IsState}
use Rattle.flight_changes.proofs.ByNumber.{found_missing, none_missing, pair_read}
use Rattle.flight_changes.proofs.lists.Lists.missing_time.Goals as goal

pub returns-in_err-from : goal.returns-in_err-from
returns-in_err-from c =
    let s = c.args.self.now in
    let names = (subst IsState c.self.view_is c.self.invariant.state).parts.place_names in
    c.from_residual.ensures ∙ sym (none_missing s names c.in_err-from.ensures.none)

pub returns : goal.returns
returns c =
    let s = c.args.self.now in
    let names = (subst IsState c.self.view_is c.self.invariant.state).parts.place_names in
    let places = c.as_slice-places.ensures.keys ∙ ap (λ s. s.places) c.self.view_is in
    let first = c.in_ok-from.ensures.found in
    pair_read s c.as_slice-places.result.now c.in_ok-from.from c.in_ok-from.to c.index-places-from.result c.index-places-to.result places c.index-places-from.is c.index-places-to.is first.missing.from first.missing.to
    ∙ sym (found_missing s names c.in_ok-from.from c.in_ok-from.to first)
