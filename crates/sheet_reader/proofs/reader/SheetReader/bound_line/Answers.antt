use Rattle.std.proofs.Common.{◌≡◌, length, ap, sym, subst, ◌∙◌, arith}
use Rattle.line_in.specs.Faults.{reason_for}
use Rattle.sheet_terms.specs.Reading.{No as Refuses}
use Rattle.sheet_terms.specs.Table.{SaysOfSheet}
use Rattle.sheet_reader.specs.Reader.{IsAt, SheetTells}
use Rattle.sheet_reader.proofs.Priced.{bound_fault, bound_read}
use Rattle.sheet_reader.proofs.Told.{tells_fault}
use Rattle.sheet_reader.proofs.reader.SheetReader.bound_line.Goals as goal

pub returns-in_err-bound : goal.returns-in_err-bound
returns-in_err-bound c = λ budget s at.
    let i = c.args.limits.now.limits.instance in
    let words = c.args.words in
    let fault = c.in_err-bound.field-0.0 in
    let here = subst (λ d. IsAt i budget c.args.self.now d s) c.requires.due at in
    let all : c.tasks-tasks.result ≡ length i.tasks = c.tasks-tasks.ensures.count ∙ ap (λ i. length i.tasks) c.instance.ensures.instance in
    tells_fault i budget (SaysOfSheet s words) fault c.from_residual.result c.args.self.now c.from_residual.ensures.1
    (subst (λ r. SaysOfSheet r words (Refuses (reason_for fault))) (sym here.1) (bound_fault i budget c.tasks-tasks.result words fault all c.in_err-bound.ensures))

pub after_price-requires : goal.after_price-requires
after_price-requires c =
    let i = c.args.limits.now.limits.instance in
    let a = c.requires.awaited in
    let here = subst (λ d. IsAt i a.0 c.args.self.now d a.1) c.requires.due a.2 in
    let has = here.0 in
    record { prices = record { roomy = record { room = has.roomy.room; possible = has.roomy.possible }; prices = has.prices; count = has.count; few = has.few; none = has.none } }

pub returns : goal.returns
returns c = λ budget s at.
    let i = c.args.limits.now.limits.instance in
    let words = c.args.words in
    let here = subst (λ d. IsAt i budget c.args.self.now d s) c.requires.due at in
    let all : c.tasks-tasks.result ≡ length i.tasks = c.tasks-tasks.ensures.count ∙ ap (λ i. length i.tasks) c.instance.ensures.instance in
    subst (λ r. SheetTells i budget (SaysOfSheet r words) c.after_price.result c.after_price.new.self) (sym here.1)
    (bound_read i budget c.tasks-tasks.result c.in_ok-bound.bound c.args.self.now.prices words c.after_price.result c.after_price.new.self all c.in_ok-bound.ensures here.0.count
    (c.after_price.ensures budget (length i.tasks) (omega arith)))
