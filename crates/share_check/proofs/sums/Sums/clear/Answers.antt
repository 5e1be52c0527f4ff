use Rattle.std.proofs.Common.{List, length, ap, sym, ◌∙◌, subst}
use Rattle.std.proofs.lemmas.List.{with_items_is}
use Rattle.crew_num.specs.declared.Mixed.{Mixed}
use Rattle.share_check.specs.CellSums.{AreSums}
use Rattle.share_check.proofs.Added.{nothing_is}
use Rattle.share_check.proofs.sums.Sums.clear.Goals as goal

pub returns : goal.returns
returns c = record {
  none = λ n whole some e.
      let now = with_items_is c.args.self.now.visits c.clear.new.sums (c.clear.ensures.count ∙ c.deref_mut.ensures.len) in
      record {
        count = ap length now ∙ c.clear.ensures.count ∙ ap length c.deref_mut.ensures.value ∙ e;
        share = nothing_is whole some;
        visits = subst (λ (sums : List Mixed). AreSums whole sums (λ j. 0)) (sym now) (c.clear.ensures.none whole some);
      };
}
