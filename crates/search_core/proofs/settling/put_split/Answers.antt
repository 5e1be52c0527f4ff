use Rattle.std.proofs.Common.{◌≡◌, ◌∙◌, ◌++◌, ℕ, List, length, arith, ap, subst, rules}
use Rattle.std.proofs.lemmas.Grind.{common_steps}
use Rattle.crew_terms.specs.Leaf.{Prices}
use Rattle.search_tree.specs.Keyed.{IsTurned}
use Rattle.search_core.specs.Settled.{number_of, option_items}
use Rattle.search_core.proofs.settling.put_split.Goals as goal

pub returns-clause-put : goal.returns-clause-put
returns-clause-put c = λ n bound w.
    let prices : c.len.result ≡ length c.args.prices.now.items = grind (arith, common_steps, c.in_ok-reserve-2.ensures.items) in
    let causes : c.len-2.result ≡ length c.args.causes.now.items = grind (arith, common_steps, c.in_ok-reserve.ensures.items) in
    let number : c.number_of-number.result ≡ number_of c.args.own (length c.args.prices.now.items) c.args.handed.prices =
    c.number_of-number.ensures ∙ ap (λ k. number_of c.args.own k c.args.handed.prices) prices in
    record {
      turned = subst (λ (k : ℕ). IsTurned c.args.keyed.now c.split.new.self c.args.key n c.args.choice k
          (number_of c.args.own (length c.args.prices.now.items) c.args.handed.prices) c.args.handed.bounds) causes
          (subst (λ (k : ℕ). IsTurned c.args.keyed.now c.split.new.self c.args.key n c.args.choice c.len-2.result k c.args.handed.bounds) number
          (c.in_ok-split.ensures.ok n bound w));
      put = c.push_some.ensures ∙ ap (λ (ps : List Prices). ps ++ option_items c.args.handed.prices) c.in_ok-reserve-2.ensures.items;
      cause_put = first_of (search rules, grind (arith, common_steps, c.in_ok-reserve.ensures.items));
    }
