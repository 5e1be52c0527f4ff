use Rattle.std.proofs.Common.{◌≡◌, ◌<◌, ℕ, List, [], length, set, get_or, ap, sym, ◌∙◌, subst, arith, inl, inr}
use Rattle.std.proofs.lemmas.Bool.{cases_eq}
use Rattle.std.proofs.lemmas.List.{get_or-set_same, get_or-set_other, get_or_default, length-set}
use Rattle.crew_terms.specs.Limits.{tasks_in}
use Rattle.share_check.specs.declared.sums.Sums.{Sums}
use Rattle.share_check.specs.Summed.{IsSumsOf}
use Rattle.share_check.proofs.sums.ShareSums.begin.Goals as goal

-- the room of what stands at a place, whatever stands past the list
moved : (before : List Sums) (k i n : ℕ) (d e : Sums) → k ≡ i → i < length before → length (get_or before k d).visits.items ≡ n → length (get_or before i e).visits.items ≡ n
moved before k i n d e same within h = ap (λ (s : Sums). length s.visits.items) (get_or_default before i e d within ∙ ap (λ j. get_or before j d) (sym same)) ∙ h

pub loop-k-preserved : goal.loop-k-preserved
loop-k-preserved c =
    let teams = c.loop-k.self.teams.items in
    let i = c.loop-k.k in
    let new = c.clear-in-loop-k.new.self in
    let within = c.loop-k-test.true in
    let end = c.len-k-end.ensures in
    let inv = c.loop-k.invariant in
    let count = inv.0 in (
      length-set teams i new ∙ inv.0,
      inv.1,
      λ k d later. get_or-set_other teams i k new d (λ e. omega arith) ∙ inv.2 k d (omega arith),
      λ n whole k d some less below e. elim (cases_eq k i) [
        | inl same ↦ (
            let old = inv.2 i c.index_mut.result.now (omega arith) in
            let row : length c.index_mut.result.now.visits.items ≡ n = ap (λ (s : Sums). length s.visits.items) (c.index_mut.ensures.value ∙ old) ∙ moved c.args.self.now.teams.items k i n d c.index_mut.result.now same (omega arith) e in
            let is = c.clear-in-loop-k.ensures.none n whole some row in
            subst (λ (s : Sums). IsSumsOf n whole [] s) (sym (ap (λ j. get_or (set teams i new) j d) same ∙ get_or-set_same teams i new d (omega (arith, length-set teams i new)))) is
            )
        | inr other ↦ subst (λ (s : Sums). IsSumsOf n whole [] s) (sym (get_or-set_other teams i k new d other)) (inv.3 n whole k d some (omega arith) (omega (arith, length-set teams i new)) e)
      ],
    )

pub returns : goal.returns
returns c = record {
  none = λ n whole some room.
      let inv = c.loop-k.invariant in
      let stop = c.loop-k-test.false in
      let end = c.len-k-end.ensures in
      let count = inv.0 in
      let all = room.count in
      record {
        all = subst (λ (s : Sums). IsSumsOf (tasks_in n) whole [] s) (sym inv.1) (c.clear.ensures.none (tasks_in n) whole some room.all);
        count = inv.0 ∙ room.count;
        teams = λ k d l. inv.3 (tasks_in n) whole k d some (omega arith) (omega arith) (room.teams k d l);
      };
}
