use Rattle.std.proofs.Common.{◌≡◌, ℕ, length, arith, subst}
use Rattle.std.proofs.lemmas.Grind.{common_steps}
use Rattle.search_tree.specs.Keyed.{IsTaken}
use Rattle.search_core.proofs.settling.put_closed.Goals as goal

pub returns-clause-put : goal.returns-clause-put
returns-clause-put c = λ n bound w.
    let number : c.len-number.result ≡ length c.args.prices.now.items = grind (arith, common_steps) in
    record {
      taken = subst (λ (k : ℕ). IsTaken c.args.keyed.now c.close.new.self c.args.key n k) number (c.close.ensures n bound w);
      put = c.in_ok-push.ensures.items;
    }
