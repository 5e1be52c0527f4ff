use Rattle.std.proofs.Common.{◌≡◌, ◌+◌, ◌++◌, suc, [], ◌∷◌, ap, refl, subst, sym, ◌∙◌, arith}
use Rattle.std.specs.Prelude.{List, slice_index_or}
use Rattle.std.specs.Box.{with_value}
use Rattle.crew_terms.specs.Limits.{Route, root_limits}
use Rattle.share_terms.specs.Shares.{IsRouteIn, Share as ShareOf}
use Rattle.dossier_terms.specs.Causes.{Part, Shares, column_of}
use Rattle.dossier_terms.specs.Reading.{limits_below, parts_due}
use Rattle.dossier_terms.specs.Rules.{Holds, On}
use Rattle.share_check.specs.Summed.{IsSharesOf}
use Rattle.cert_checker.specs.Due.{Awaits, IsInLoose, loose_site, shares_in}
use Rattle.cert_checker.specs.declared.due.BegunDossier.{BegunDossier}
use Rattle.cert_checker.specs.declared.due.TreeDraft.{TreeDraft}
use Rattle.cert_checker.proofs.NodeRows.{limits_at, taken_woke}
use Rattle.cert_checker.proofs.CauseRows.{column_is, share_read, summed_back}
use Rattle.cert_checker.proofs.cause.take_share.Goals as goal

pub returns : goal.returns
returns c = λ fs read h.
    let tree = c.args.tree.value in
    let loose = c.args.tree.value.loose in
    let column = c.args.column in
    let parts = c.args.parts in
    let part : Part = record { column = column; parts = parts } in
    let held = c.deref_mut-held.result.now in
    let draft = c.deref_mut-draft.result.now in
    let same : held ≡ tree = c.deref_mut-held.ensures.value in
    let t = c.wake-limits.result in
    let woke = taken_woke tree held draft c.take.result t same c.deref_mut-draft.ensures.value c.take.ensures.taken c.wake-limits.ensures in
    let n = limits_below (root_limits tree.draft.value.base.instance) fs in
    let at : t.limits ≡ n = limits_at tree t fs woke h.may.node in
    let of_draft : draft ≡ tree.draft.value = c.deref_mut-draft.ensures.value ∙ ap (λ (x : TreeDraft). x.draft.value) same in
    let pool = tree.draft.value.pool in
    let route : Route = c.route-route.result.now in
    let is : route ≡ column_of pool column = column_is pool column route c.requires.column (subst (λ (d : BegunDossier). route ≡ slice_index_or d.pool column route) of_draft c.route-route.ensures) in
    let legal : IsRouteIn n route = subst (λ m. IsRouteIn m route) at (c.is_route_in.ensures.0 c.if-not-is_route_in.false) in
    let had : IsSharesOf n held.loose.whole (shares_in pool read) held.sums = subst (λ (x : TreeDraft). IsSharesOf n x.loose.whole (shares_in pool read) x.sums) (sym same) h.sums in
    let new = c.add.new.self in
    let added : List ShareOf = shares_in pool read ++ record { route = route; parts = parts } ∷ [] in
    let sums : IsSharesOf n loose.whole added new = subst (λ (x : TreeDraft). IsSharesOf n x.loose.whole added new) same (c.add.ensures.sums n (shares_in pool read) had) in
    let after = share_read tree t c.rest.result woke c.rest.ensures.same c.rest.ensures.over read fs h c.add.new.self column parts route is legal sums in
    let more : Shares = record read { parts = read.parts ++ part ∷ [] } in
    let back = summed_back tree held draft c.rest.result c.add.new.self same c.deref_mut-draft.ensures.value in
    let written : TreeDraft = record held { draft = with_value held.draft (record draft { limits = c.rest.result }); sums = c.add.new.self } in
    let here : IsInLoose written more fs = subst (λ (x : TreeDraft). IsInLoose x more fs) (sym back) after in
    let next : column + 1 ≡ suc column = omega arith in
    let p = loose_site tree fs in (
      parts_due p loose.now more c.args.more (suc column),
      Holds (subst (IsRouteIn n) is legal) (On refl),
      subst (λ (x : TreeDraft). Awaits c.due_shares.result (parts_due (loose_site x fs) x.loose.now more c.args.more (suc column))) back
          (subst (λ k. Awaits c.due_shares.result (parts_due (loose_site written fs) written.loose.now more c.args.more k)) next (c.due_shares.ensures fs more here)),
    )
