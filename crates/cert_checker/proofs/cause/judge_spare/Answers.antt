use Rattle.std.proofs.Common.{◌≡◌, All, ap, refl, subst, sym, ◌∙◌}
use Rattle.std.specs.Box.{with_value}
use Rattle.crew_terms.specs.Limits.{root_limits}
use Rattle.share_terms.specs.Shares.{Share, IsRouteIn}
use Rattle.dossier_terms.specs.Causes.{Loose, Shares, choice_of}
use Rattle.dossier_terms.specs.Reading.{cause_done, limits_below, split_done}
use Rattle.dossier_terms.specs.Rules.{Holds, Fails, On}
use Rattle.share_check.specs.Summed.{IsSharesOf, IsLooseChoice}
use Rattle.cert_checker.specs.Due.{Awaits, IsAtNode, draft_of, shares_in, split_site}
use Rattle.cert_checker.specs.declared.due.LooseDraft.{LooseDraft}
use Rattle.cert_checker.specs.declared.due.TreeDraft.{TreeDraft}
use Rattle.cert_checker.proofs.NodeRows.{limits_at, taken_woke}
use Rattle.cert_checker.proofs.LeafRows.{rested_back}
use Rattle.cert_checker.proofs.CauseRows.{loose_at, may_rested, not_loose_at}
use Rattle.cert_checker.proofs.cause.judge_spare.Goals as goal

pub returns-then-not-is_loose : goal.returns-then-not-is_loose
returns-then-not-is_loose c = λ fs read h.
    let tree = c.args.tree.value in
    let loose = c.args.tree.value.loose in
    let held = c.deref_mut-held.result.now in
    let draft = c.deref_mut-draft.result.now in
    let same : held ≡ tree = c.deref_mut-held.ensures.value in
    let t = c.wake-limits.result in
    let woke = taken_woke tree held draft c.take.result t same c.deref_mut-draft.ensures.value c.take.ensures.taken c.wake-limits.ensures in
    let n = limits_below (root_limits tree.draft.value.base.instance) fs in
    let at : t.limits ≡ n = limits_at tree t fs woke h.may.node in
    let pool = tree.draft.value.pool in
    let s : Shares = record read { spare = c.args.shares.now } in
    let routes = subst (λ m. All (λ (x : Share). IsRouteIn m x.route) (shares_in pool read)) (sym at) h.routes in
    let sums = subst (λ m. IsSharesOf m held.loose.whole (shares_in pool read) held.sums) (sym at) (subst (λ (x : TreeDraft). IsSharesOf n x.loose.whole (shares_in pool read) x.sums) (sym same) h.sums) in
    let whole : read.whole ≡ held.loose.whole = h.whole ∙ ap (λ (x : TreeDraft). x.loose.whole) (sym same) in
    let broken = c.if-not-is_loose.ensures (choice_of pool s) whole refl routes sums in
    Fails (not_loose_at pool n loose.now s (subst (λ (x : TreeDraft). IsLooseChoice n (choice_of pool s) x.loose.now → ⊥) same (subst (λ m. IsLooseChoice m (choice_of pool s) held.loose.now → ⊥) at broken))) refl

pub returns : goal.returns
returns c = λ fs read h.
    let tree = c.args.tree.value in
    let loose = c.args.tree.value.loose in
    let held = c.deref_mut-held.result.now in
    let draft = c.deref_mut-draft.result.now in
    let same : held ≡ tree = c.deref_mut-held.ensures.value in
    let t = c.wake-limits.result in
    let woke = taken_woke tree held draft c.take.result t same c.deref_mut-draft.ensures.value c.take.ensures.taken c.wake-limits.ensures in
    let n = limits_below (root_limits tree.draft.value.base.instance) fs in
    let at : t.limits ≡ n = limits_at tree t fs woke h.may.node in
    let pool = tree.draft.value.pool in
    let s : Shares = record read { spare = c.args.shares.now } in
    let cause = Loose loose.now s in
    let routes = subst (λ m. All (λ (x : Share). IsRouteIn m x.route) (shares_in pool read)) (sym at) h.routes in
    let sums = subst (λ m. IsSharesOf m held.loose.whole (shares_in pool read) held.sums) (sym at) (subst (λ (x : TreeDraft). IsSharesOf n x.loose.whole (shares_in pool read) x.sums) (sym same) h.sums) in
    let whole : read.whole ≡ held.loose.whole = h.whole ∙ ap (λ (x : TreeDraft). x.loose.whole) (sym same) in
    let is = loose_at pool n loose.now s (subst (λ (x : TreeDraft). IsLooseChoice n (choice_of pool s) x.loose.now) same (subst (λ m. IsLooseChoice m (choice_of pool s) held.loose.now) at (c.if-not-is_loose.ensures (choice_of pool s) whole refl routes sums))) in
    let back = rested_back tree held draft c.rest.result same c.deref_mut-draft.ensures.value in
    let written : TreeDraft = record held { draft = with_value held.draft (record draft { limits = c.rest.result }) } in
    let of_tree : held.loose ≡ loose = ap (λ (x : TreeDraft). x.loose) same in
    let here : IsAtNode written fs = subst (λ (x : TreeDraft). IsAtNode x fs) (sym back) (may_rested tree t c.rest.result woke c.rest.ensures.same c.rest.ensures.over read fs h).node in (
      cause_done (split_site tree fs loose.choice) cause,
      Holds is (On refl),
      subst (λ (x : TreeDraft). Awaits c.first_child.result (split_done (draft_of x.draft.value) x.claimed fs (record { choice = loose.choice; cause = cause }))) back (subst (λ (l : LooseDraft). Awaits c.first_child.result (split_done (draft_of written.draft.value) written.claimed fs (record { choice = l.choice; cause = cause }))) of_tree (c.first_child.ensures fs cause here refl)),
    )
