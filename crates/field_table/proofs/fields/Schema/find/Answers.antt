use Rattle.std.proofs.Common.{◌≡◌, ap, sym, ◌∙◌, subst, arith, List, ℕ, Some, Bor, map, take}
use Rattle.std.specs.Prelude.{Contains}
use Rattle.std.proofs.lemmas.List.{take_all}
use Rattle.field_table.proofs.Keys.{none_before, not_more, text_at, texts_long, same_text, other_text}
use Rattle.field_table.proofs.fields.Schema.find.Goals as goal

pub loop-i-init : goal.loop-i-init
loop-i-init c = none_before c.args.key.now

pub returns-then-eq : goal.returns-then-eq
returns-then-eq c =
    let own = c.as_bytes.result.now in (
      text_at c.args.self.now.keys.now c.loop-i.i _ c.loop-i-test.true ∙ ap Some (sym c.as_bytes.ensures.value)
          ∙ ap Some (same_text c.eq.result own c.args.key.now c.eq.ensures c.if-eq.true),
      c.loop-i.invariant,
    )

pub loop-i-preserved : goal.loop-i-preserved
loop-i-preserved c =
    let keys = c.args.self.now.keys.now in
    let texts : List (List ℕ) = map (λ (k : Bor (List ℕ)). k.now) keys in
    let own = c.as_bytes.result.now in
    not_more texts c.args.key.now own c.loop-i.i (let l = texts_long keys in let t = c.loop-i-test.true in omega arith)
    (text_at keys c.loop-i.i _ c.loop-i-test.true ∙ ap Some (sym c.as_bytes.ensures.value))
    (other_text c.eq.result own c.args.key.now c.eq.ensures c.if-eq.false) c.loop-i.invariant

pub returns : goal.returns
returns c =
    let keys = c.args.self.now.keys.now in
    let texts : List (List ℕ) = map (λ (k : Bor (List ℕ)). k.now) keys in
    let all : take c.loop-i.i texts ≡ texts = take_all c.loop-i.i texts (let l = texts_long keys in let t = c.loop-i-test.false in omega arith) in
    subst (λ (ks : List (List ℕ)). Contains ks c.args.key.now → ⊥) all c.loop-i.invariant
