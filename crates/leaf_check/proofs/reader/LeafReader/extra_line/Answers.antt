use Rattle.std.proofs.Common.{◌≡◌, ◌++◌, suc, [], ◌∷◌, length, ap, sym, subst, refl, ◌∙◌, add-one}
use Rattle.crew_terms.specs.Limits.{has_required, tasks_in}
use Rattle.crew_terms.specs.Leaf.{IsPrice}
use Rattle.cert_format.specs.Lines.{IsFaultOf}
use Rattle.cert_format.specs.declared.kinds.Expect.TheVariants as expected
use Rattle.crew_terms.specs.Minutes.{required_teams}
use Rattle.dossier_terms.specs.Reading.{limits_of, Extras}
use Rattle.dossier_terms.specs.Ranges.{AreNumbers}
use Rattle.dossier_terms.specs.LeafTable.{after_extra, extra_row}
use Rattle.leaf_check.specs.Keys.{IsNextKey}
use Rattle.leaf_check.specs.Reader.{HasReadLeaf, priced_leaf}
use Rattle.leaf_check.specs.declared.reader.LeafReader.{LeafReader}
use Rattle.leaf_check.proofs.Listed.{left_after}
use Rattle.leaf_check.proofs.Lines.{extra_read}
use Rattle.leaf_check.proofs.Read.{more_prices}
use Rattle.leaf_check.proofs.Told.{tells_fault, tells_rest}
use Rattle.leaf_check.proofs.reader.LeafReader.extra_line.Goals as goal

pub returns-in_err-prices-clause-tells : goal.returns-in_err-prices-clause-tells
returns-in_err-prices-clause-tells c = λ a prices rows js g read row.
    let up : c.required_count-count.result ≡ length (required_teams (limits_of a) c.args.task) = c.required_count-count.ensures ∙ ap (λ m. length (required_teams m c.args.task)) (sym g.limits) in
    tells_fault a (Extras a (priced_leaf prices rows) c.args.task js) c.args.words c.in_err-prices.field-0.0 c.from_residual.result c.args.self.now c.fault_is_refused.ensures c.from_residual.ensures.1
    (subst (λ m. IsFaultOf (expected.Extra c.args.task m) c.args.words c.in_err-prices.field-0.0) up c.in_err-prices.ensures)

pub returns-clause-tells : goal.returns-clause-tells
returns-clause-tells c = λ a prices rows js g read row.
    let n = c.args.limits.now.limits in
    let task = c.args.task in
    let vs = c.in_ok-prices.prices in
    let h = c.in_ok-prices.ensures in
    let up : c.required_count-count.result ≡ length (required_teams (limits_of a) task) = c.required_count-count.ensures ∙ ap (λ m. length (required_teams m task)) (sym g.limits) in
    let fits : AreNumbers IsPrice (length (required_teams (limits_of a) task)) vs = subst (λ m. AreNumbers IsPrice m vs) up h.1 in
    let r : LeafReader = record c.args.self.now { prices = c.set_extras.new.prices } in
    let set = c.set_extras.ensures in
    let more : HasReadLeaf n r (priced_leaf prices (rows ++ vs ∷ [])) = record {
      prices = more_prices n c.args.self.now.prices c.set_extras.new.prices prices rows task js vs read.prices row set.prices set.others set.given;
      worths = refl;
    } in
    let next : IsNextKey (has_required n) (tasks_in n) (suc task) c.next_priced.result = subst (λ m. IsNextKey (has_required n) (tasks_in n) m c.next_priced.result) (add-one task) c.next_priced.ensures in
    tells_rest a (after_extra a (priced_leaf prices (rows ++ vs ∷ [])) js) (extra_row a (priced_leaf prices rows) task js c.args.words) c.after_extra.result c.after_extra.new.self
    (λ said others. extra_read a prices rows task js c.args.words vs said fits h.2 others)
    (c.after_extra.ensures.tells a prices (rows ++ vs ∷ []) js g more (left_after (has_required n) (tasks_in n) rows task js row vs c.next_priced.result next))
