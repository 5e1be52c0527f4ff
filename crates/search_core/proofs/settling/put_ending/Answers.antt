use Rattle.std.proofs.Common.{refl, sym, subst}
use Rattle.std.specs.Prelude.{OnOk}
use Rattle.std.proofs.lemmas.Result.{on_ok_weaker}
use Rattle.search_core.specs.Settled.{IsPut}
use Rattle.search_core.specs.declared.finding.Ending.{Ending}
use Rattle.search_core.proofs.settling.put_ending.Goals as goal

pub returns-in-Closed-clause-put : goal.returns-in-Closed-clause-put
returns-in-Closed-clause-put c = λ n bound w.
    subst (λ (e : Ending). OnOk c.put_closed.result (IsPut c.args.keyed.now c.put_closed.new.keyed c.args.prices.now.items
    c.put_closed.new.prices.items c.args.causes.now.items c.args.causes.now.items c.args.key n c.args.own c.args.now e)) (sym c.in-Closed.is)
    (on_ok_weaker c.put_closed.result (λ p. (p, refl)) (c.put_closed.ensures.put n bound w))
