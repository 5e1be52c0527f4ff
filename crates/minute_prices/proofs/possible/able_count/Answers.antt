use Rattle.std.proofs.Common.{◌≡◌, ◌+◌, ◌∙◌, ◌⊎◌, inl, inr, ℕ, Bool, true, false, ap, sym, arith}
use Rattle.std.proofs.lemmas.Bool.{cases_Bool, both_ways}
use Rattle.squeeze_terms.specs.Possible.{may_begin}
use Rattle.minute_prices.proofs.Kept.{counted_yes, counted_no}
use Rattle.minute_prices.proofs.possible.able_count.Goals.{then-is_permitted, else-is_permitted}
use Rattle.minute_prices.proofs.possible.able_count.Goals as goal

pub loop-k-preserved : goal.loop-k-preserved
loop-k-preserved c =
    let n = c.args.limits.now.limits in
    let k = c.loop-k.k in
    let test = λ (h : ℕ). may_begin n h c.args.j c.args.t in
    let told = c.able_teams_may_begin.ensures n k c.args.j c.args.t c.requires.task in
    let is = c.loop-k.invariant.count in
    let few = c.loop-k.invariant.few in
    elim c.if-is_permitted.branch [
      | then-is_permitted w ↦
          let yes : test k ≡ true = told.1 (c.is_permitted.ensures.0 w.if-is_permitted.true) in
          let new = w.count-is in
          record { few = omega arith; count = new ∙ ap (λ x. x + 1) is ∙ sym (counted_yes test k yes) }
      | else-is_permitted w ↦
          let no : test k ≡ false = elim (cases_Bool (test k)) [
            | inl e ↦ absurd (both_ways c.is_permitted.result w.if-is_permitted.false (c.is_permitted.ensures.1 (told.0 e)))
            | inr e ↦ e
          ] in
          let new = w.count-is in
          record { few = omega arith; count = new ∙ is ∙ sym (counted_no test k no) }
    ]
