use Rattle.std.proofs.Common.{◌+◌, ◌*◌, ◌++◌, ◌∷◌, [], List, length, ap, sym, ◌∙◌, subst}
use Rattle.std.proofs.lemmas.List.{with_items_is}
use Rattle.std.proofs.lemmas.List.Sums.{sum_by_push}
use Rattle.crew_num.specs.declared.Mixed.{Mixed}
use Rattle.share_terms.specs.Shares.{Share, parts_of, visits_to, weighed_visits}
use Rattle.share_check.specs.CellSums.{AreSums, IsSum}
use Rattle.share_check.proofs.Added.{sums_same}
use Rattle.share_check.proofs.sums.Sums.add.Goals as goal

pub add_visits-requires-clause-sums : goal.add_visits-requires-clause-sums
add_visits-requires-clause-sums c =
    let s = c.requires.sums in
    (weighed_visits s.1, subst (λ (sums : List Mixed). AreSums c.args.whole sums (weighed_visits s.1)) (sym c.deref_mut.ensures.value) s.2.visits)

pub returns : goal.returns
returns c = record {
  sums = λ n shares r h same e.
      let whole = c.args.whole in
      let now = with_items_is c.args.self.now.visits c.add_visits.new.sums (c.add_visits.ensures.count ∙ c.deref_mut.ensures.len) in
      let moved = subst (λ (sums : List Mixed). AreSums whole sums (weighed_visits shares)) (sym c.deref_mut.ensures.value) h.visits in
      let more = sums_same whole c.add_visits.new.sums (λ j. weighed_visits shares j + r.parts * visits_to j c.args.visits.now) (weighed_visits (shares ++ r ∷ []))
      (λ j. ap (λ vs. weighed_visits shares j + r.parts * visits_to j vs) (sym same) ∙ sym (sum_by_push (λ (s : Share). s.parts * visits_to j s.route.visits) shares r))
      (c.add_visits.ensures.sums (weighed_visits shares) r.parts moved e) in
      record {
        count = ap length now ∙ c.add_visits.ensures.count ∙ ap length c.deref_mut.ensures.value ∙ h.count;
        share = subst (IsSum whole c.with_share-self.result) (sym (sum_by_push (λ (s : Share). s.parts) shares r)) (c.with_share-self.ensures (parts_of shares) r.parts h.share e);
        visits = subst (λ (sums : List Mixed). AreSums whole sums (weighed_visits (shares ++ r ∷ []))) (sym now) more;
      };
}
