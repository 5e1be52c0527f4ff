use Rattle.std.proofs.Common.{◌≡◌, suc, None, Some, arith, ap, sym, ◌∙◌}
use Rattle.std.proofs.lemmas.Int.{ints}
use Rattle.field_table.proofs.LongDigits.{empty_wide, minus_value}
use Rattle.field_table.proofs.wide.value_of.Goals as goal

pub returns-then-is_empty : goal.returns-then-is_empty
returns-then-is_empty c = λ z f is. absurd (empty_wide c.args.bytes.now (grind arith) z f is)

pub returns-in_err-n : goal.returns-in_err-n
returns-in_err-n c =
    minus_value c.args.bytes.now None _ (grind arith) c.if-bytes-ne45.false
    (λ n le is. let e : c.value_up_to-2.result ≡ Some n = c.value_up_to-2.ensures.is n le is in sym c.in_err-n.was ∙ e)
    (λ n e. let x : None ≡ Some (suc n) = e in cc)

pub returns-then-n-eq0 : goal.returns-then-n-eq0
returns-then-n-eq0 c =
    minus_value c.args.bytes.now (Some c.in_ok-n.n) None (grind arith) c.if-bytes-ne45.false c.in_ok-n.ensures.is
    (λ n e. let zero = c.if-n-eq0.true in let x : Some c.in_ok-n.n ≡ Some (suc n) = e in let same : c.in_ok-n.n ≡ suc n = cc x in absurd (omega arith))

pub returns : goal.returns
returns c =
    minus_value c.args.bytes.now (Some c.in_ok-n.n) _ (grind arith) c.if-bytes-ne45.false c.in_ok-n.ensures.is
    (λ n e. let small = c.in_ok-n.ensures.small in let some = c.if-n-eq0.false in
    let x : Some c.in_ok-n.n ≡ Some (suc n) = e in let same : c.in_ok-n.n ≡ suc n = cc x in ap Some (omega (arith, ints)))
