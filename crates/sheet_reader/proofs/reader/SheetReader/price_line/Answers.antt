use Rattle.std.proofs.Common.{◌++◌, ◌∷◌, [], length, ap, sym, subst, ◌∙◌, arith}
use Rattle.std.specs.Prelude.{Ok, Err}
use Rattle.line_in.specs.Faults.{reason_for}
use Rattle.sheet_terms.specs.Reading.{No as Refuses}
use Rattle.sheet_terms.specs.Table.{SaysOfSheet}
use Rattle.sheet_reader.specs.Reader.{IsAt, SheetTells}
use Rattle.sheet_reader.proofs.Priced.{ReadsPrices, has_more, price_fault, price_read, with_prices}
use Rattle.sheet_reader.proofs.Told.{tells_fault}
use Rattle.sheet_reader.proofs.reader.SheetReader.price_line.Goals as goal

pub read_minutes-requires : goal.read_minutes-requires
read_minutes-requires c =
    let i = c.args.limits.now.limits.instance in
    let a = c.requires.awaited in
    let here = subst (λ d. IsAt i a.0 c.args.self.now d a.1) c.requires.due a.2 in
    let all = here.tasks in
    let size = ap (λ i. length i.tasks) c.instance.ensures.instance in
    omega arith

pub returns-in_err-prices : goal.returns-in_err-prices
returns-in_err-prices c = λ budget s at.
    let i = c.args.limits.now.limits.instance in
    let words = c.args.words in
    let fault = c.in_err-prices.field-0.0 in
    let here = subst (λ d. IsAt i budget c.args.self.now d s) c.requires.due at in
    tells_fault i budget (SaysOfSheet s words) fault c.from_residual.result c.args.self.now c.from_residual.ensures.1
    (subst (λ r. SaysOfSheet r words (Refuses (reason_for fault))) (sym here.is)
    (price_fault i budget c.args.self.now c.args.task here.left words here.has.count fault
    (subst (λ h. ReadsPrices h c.args.task words (Err fault)) c.instance.ensures.instance c.in_err-prices.ensures)))

pub after_price-requires : goal.after_price-requires
after_price-requires c =
    let i = c.args.limits.now.limits.instance in
    let a = c.requires.awaited in
    let here = subst (λ d. IsAt i a.0 c.args.self.now d a.1) c.requires.due a.2 in
    let all = here.tasks in
    let read = subst (λ h. ReadsPrices h c.args.task c.args.words (Ok c.in_ok-prices.prices)) c.instance.ensures.instance c.in_ok-prices.ensures in
    let more = c.in_ok-push.ensures.ok ∙ ap (λ vs. c.args.self.now.prices ++ vs ∷ []) c.in_ok-row.ensures in
    record {
      prices = has_more c.prices_are_read_in_turn.ensures.more i c.args.self.now (record c.args.self.now { prices = c.push.new.self }) c.args.task c.in_ok-prices.prices here.has (omega arith) read.1
          (ap (λ p. with_prices c.args.self.now p) more);
    }

pub returns : goal.returns
returns c = λ budget s at.
    let i = c.args.limits.now.limits.instance in
    let words = c.args.words in
    let here = subst (λ d. IsAt i budget c.args.self.now d s) c.requires.due at in
    let all = here.tasks in
    let read = subst (λ h. ReadsPrices h c.args.task words (Ok c.in_ok-prices.prices)) c.instance.ensures.instance c.in_ok-prices.ensures in
    let more = c.in_ok-push.ensures.ok ∙ ap (λ vs. c.args.self.now.prices ++ vs ∷ []) c.in_ok-row.ensures in
    subst (λ r. SheetTells i budget (SaysOfSheet r words) c.after_price.result c.after_price.new.self) (sym here.is)
    (price_read i budget c.args.self.now c.args.task here.left words here.has.count c.in_ok-prices.prices c.push.new.self c.after_price.result c.after_price.new.self read more
    (c.after_price.ensures budget here.left (omega arith)))
