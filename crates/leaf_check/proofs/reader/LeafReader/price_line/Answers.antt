use Rattle.std.proofs.Common.{◌≡◌, [], length, ap, sym, subst, refl, ◌∙◌}
use Rattle.crew_terms.specs.Limits.{has_required, tasks_in}
use Rattle.crew_terms.specs.Leaf.{IsPrice}
use Rattle.cert_format.specs.Lines.{IsFaultOf}
use Rattle.cert_format.specs.declared.kinds.Expect.TheVariants as expected
use Rattle.crew_terms.specs.Minutes.{priced}
use Rattle.dossier_terms.specs.Reading.{limits_of, Prices}
use Rattle.dossier_terms.specs.Ranges.{AreNumbers}
use Rattle.dossier_terms.specs.LeafTable.{after_extra, price_row}
use Rattle.leaf_check.specs.Reader.{HasReadLeaf, LeafTells, priced_leaf}
use Rattle.leaf_check.specs.declared.reader.LeafReader.{LeafReader}
use Rattle.leaf_check.proofs.Listed.{left_first}
use Rattle.leaf_check.proofs.Lines.{price_read}
use Rattle.leaf_check.proofs.Read.{first_prices}
use Rattle.leaf_check.proofs.Told.{tells_fault, tells_rest}
use Rattle.leaf_check.proofs.reader.LeafReader.price_line.Goals as goal

pub returns-in_err-prices-clause-tells : goal.returns-in_err-prices-clause-tells
returns-in_err-prices-clause-tells c = λ a g.
    let up : c.tasks-tasks.result ≡ tasks_in (limits_of a) = c.tasks-tasks.ensures.count ∙ ap (λ i. length i.tasks) c.instance.ensures.instance ∙ ap tasks_in (sym g.limits) in
    tells_fault a (Prices a) c.args.words c.in_err-prices.field-0.0 c.from_residual.result c.args.self.now c.fault_is_refused.ensures c.from_residual.ensures.1
    (subst (λ m. IsFaultOf (expected.Price m) c.args.words c.in_err-prices.field-0.0) up c.in_err-prices.ensures)

pub returns-clause-tells : goal.returns-clause-tells
returns-clause-tells c = λ a g.
    let n = c.args.limits.now.limits in
    let vs = c.in_ok-prices.prices in
    let h = c.in_ok-prices.ensures in
    let up : c.tasks-tasks.result ≡ tasks_in (limits_of a) = c.tasks-tasks.ensures.count ∙ ap (λ i. length i.tasks) c.instance.ensures.instance ∙ ap tasks_in (sym g.limits) in
    let fits : AreNumbers IsPrice (tasks_in (limits_of a)) vs = subst (λ m. AreNumbers IsPrice m vs) up h.0 in
    let r : LeafReader = record c.args.self.now { prices = c.set_prices.new.prices } in
    let set = c.set_prices.ensures in
    let read : HasReadLeaf n r (priced_leaf vs []) = record { prices = first_prices n c.set_prices.new.prices vs set.prices set.tasks set.pairs; worths = refl } in
    tells_rest a (after_extra a (priced_leaf vs []) (priced (limits_of a))) (price_row a c.args.words) c.after_extra.result c.after_extra.new.self
    (λ said others. price_read a c.args.words vs said fits h.1 others)
    (subst (λ m. LeafTells a (after_extra a (priced_leaf vs []) (priced m)) c.after_extra.result c.after_extra.new.self) (sym g.limits)
    (c.after_extra.ensures.tells a vs [] (priced n) g read (left_first (has_required n) (tasks_in n) c.next_priced.result c.next_priced.ensures)))
