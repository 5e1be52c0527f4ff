use Rattle.std.proofs.Common.{arith, subst, sym}
use Rattle.search_terms.specs.Search.{IsKeepable}
use Rattle.search_laws.proofs.Steps.{run_stands, search_run}
use Rattle.search_laws.proofs.Sound.{handed_counts}
use Rattle.search_laws.proofs.searched_outcomes.Goals as goal

pub returns : goal.returns
returns c = record {
  plan = λ i budget kept o s h. subst (IsKeepable i) (sym h.plan) (run_stands i budget s (search_run i budget kept o.pool s h.run)).plan;
  count = λ i budget kept o s h.
      let a = (run_stands i budget s (search_run i budget kept o.pool s h.run)).count in
      let b = handed_counts s o.tree h.tree in
      omega arith;
}
