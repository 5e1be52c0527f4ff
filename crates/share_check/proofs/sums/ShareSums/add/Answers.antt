use Rattle.std.proofs.Common.{◌≡◌, ◌<◌, ◌++◌, ◌∷◌, [], ℕ, length, set, get_or, sym, ◌∙◌, subst, arith}
use Rattle.std.proofs.lemmas.List.{length-set}
use Rattle.crew_terms.specs.Limits.{tasks_in, teams_in}
use Rattle.share_terms.specs.Shares.{Share, shares_of}
use Rattle.share_check.specs.declared.sums.Sums.{Sums}
use Rattle.share_check.specs.Summed.{IsSumsOf}
use Rattle.share_check.proofs.Routes.{known_at, teams_put}
use Rattle.share_check.proofs.sums.ShareSums.add.Goals as goal

pub add-requires-clause-known : goal.add-requires-clause-known
add-requires-clause-known c = λ i l.
    let s = c.requires.sums in
    let a = known_at s.0 c.args.route.now.team c.args.route.now.visits c.visits.result.now c.visits.ensures s.3.route i l in
    let b = s.2.all.count in
    omega arith

pub add-requires-2-clause-known : goal.add-requires-2-clause-known
add-requires-2-clause-known c = λ i l.
    let s = c.requires.sums in
    let a = known_at s.0 c.args.route.now.team c.args.route.now.visits c.visits-2.result.now c.visits-2.ensures s.3.route i l in
    let team : c.team.result < teams_in s.0 = subst (λ (k : ℕ). k < teams_in s.0) (sym c.team.ensures) s.3.team in
    let row = subst (λ (r : Sums). length r.visits.items ≡ tasks_in s.0) (sym c.index_mut.ensures.value) (s.2.teams c.team.result c.index_mut.result.now team).count in
    omega arith

pub returns : goal.returns
returns c = record {
  sums = λ n shares h.
      let r : Share = record { route = c.args.route.now; parts = c.args.parts } in
      let s = c.requires.sums in
      let same : teams_in n ≡ teams_in s.0 = sym h.count ∙ s.2.count in
      let known : r.route.team < teams_in n = subst (λ (m : ℕ). r.route.team < m) (sym same) s.3.team in
      let team : c.team.result < teams_in n = subst (λ (k : ℕ). k < teams_in n) (sym c.team.ensures) known in
      let old = subst (λ (t : Sums). IsSumsOf (tasks_in n) c.args.whole (shares_of shares c.team.result) t) (sym c.index_mut.ensures.value) (h.teams c.team.result c.index_mut.result.now team) in
      let one = c.add-2.ensures.sums (tasks_in n) (shares_of shares c.team.result) r old (sym c.visits-2.ensures) c.share_of-share.ensures.value in
      let own = subst (λ (k : ℕ). IsSumsOf (tasks_in n) c.args.whole (shares_of shares k ++ r ∷ []) c.add-2.new.self) c.team.ensures one in
      let put = teams_put n c.args.whole shares r c.args.self.now.teams.items c.add-2.new.self h.count known h.teams own in
      record {
        all = c.add.ensures.sums (tasks_in n) shares r h.all (sym c.visits.ensures) c.share_of-share.ensures.value;
        count = length-set c.args.self.now.teams.items c.team.result c.add-2.new.self ∙ h.count;
        teams = subst (λ (i : ℕ). (k : ℕ) (d : Sums) → k < teams_in n → IsSumsOf (tasks_in n) c.args.whole (shares_of (shares ++ r ∷ []) k) (get_or (set c.args.self.now.teams.items i c.add-2.new.self) k d))
            (sym c.team.ensures) put;
      };
}
