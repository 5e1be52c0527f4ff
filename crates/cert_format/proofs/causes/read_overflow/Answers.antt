use Rattle.std.proofs.Common.{◌≡◌, [], ℕ, ℤ, get_or, ap, sym, ◌∙◌, subst, arith}
use Rattle.std.specs.Int.{w128}
use Rattle.std.proofs.lemmas.Int.{to_z-of_z}
use Rattle.crew_num.specs.declared.Op.{Op}
use Rattle.crew_terms.specs.Words.{Words}
use Rattle.dossier_terms.specs.Lines.{overflow_line}
use Rattle.dossier_terms.specs.Ranges.{IsOverflowLine}
use Rattle.cert_format.specs.Lines.{OverflowShape}
use Rattle.line_in.proofs.WideWords.{word_is}
use Rattle.cert_format.proofs.CauseLines.{overflow_shape, overflow_only, overflow_words}
use Rattle.cert_format.proofs.causes.read_overflow.Goals as goal

pub returns-in_default-read_natural : goal.returns-in_default-read_natural
returns-in_default-read_natural c =
    let ws = c.args.words in
    let word = word_is ws 3 c.word.result.now c.word.ensures ∙ c.in-Some.ensures in (
      OverflowShape (overflow_shape ws c.in-Some.op c.requires word),
      tt,
      overflow_only c.args.tasks ws c.requires (λ now fault h e.
          let known = h.now.known in
          c.in_default-read_natural.ensures.1 now h.now.some (omega arith) (ap (λ vs. get_or vs 2 []) e)),
    )

pub returns-in_default-read_signed : goal.returns-in_default-read_signed
returns-in_default-read_signed c =
    let ws = c.args.words in
    let word = word_is ws 3 c.word.result.now c.word.ensures ∙ c.in-Some.ensures in (
      OverflowShape (overflow_shape ws c.in-Some.op c.requires word),
      tt,
      overflow_only c.args.tasks ws c.requires (λ now fault h e. c.in_default-read_signed.ensures.1 fault.a h.a (ap (λ vs. get_or vs 4 []) e)),
    )

pub returns-in_default-read_signed-2 : goal.returns-in_default-read_signed-2
returns-in_default-read_signed-2 c =
    let ws = c.args.words in
    let word = word_is ws 3 c.word.result.now c.word.ensures ∙ c.in-Some.ensures in (
      OverflowShape (overflow_shape ws c.in-Some.op c.requires word),
      tt,
      overflow_only c.args.tasks ws c.requires (λ now fault h e. c.in_default-read_signed-2.ensures.1 fault.b h.b (ap (λ vs. get_or vs 5 []) e)),
    )

-- operands that are given again
carried : (tasks : ℕ) (ws : Words) (now : ℕ) (op : Op) (a b y z : ℤ) → y ≡ a → z ≡ b → IsOverflowLine tasks (now, record { op = op; a = a; b = b }) × (ws ≡ overflow_line now (record { op = op; a = a; b = b }))
    → IsOverflowLine tasks (now, record { op = op; a = y; b = z }) × (ws ≡ overflow_line now (record { op = op; a = y; b = z }))
carried tasks ws now op a b y z e f h =
    subst (λ (x : ℤ). IsOverflowLine tasks (now, record { op = op; a = x; b = z }) × (ws ≡ overflow_line now (record { op = op; a = x; b = z }))) (sym e)
    (subst (λ (x : ℤ). IsOverflowLine tasks (now, record { op = op; a = a; b = x }) × (ws ≡ overflow_line now (record { op = op; a = a; b = x }))) (sym f) h)

pub returns : goal.returns
returns c =
    let ws = c.args.words in
    let word = word_is ws 3 c.word.result.now c.word.ensures ∙ c.in-Some.ensures in
    let now = c.in-Ok.now in
    let op = c.in-Some.op in
    let a = c.in-Ok-read_signed.a in
    let b = c.in-Ok-read_signed-2.b in
    let is_a = c.in-Ok-read_signed.ensures in
    let is_b = c.in-Ok-read_signed-2.ensures in
    let own_a = to_z-of_z w128 a is_a.0 in
    let own_b = to_z-of_z w128 b is_b.0 in
    let known = c.in-Ok.ensures.1 in
    let both : IsOverflowLine c.args.tasks (now, record { op = op; a = a; b = b }) × (ws ≡ overflow_line now (record { op = op; a = a; b = b })) = (
      record { now = record { some = c.in-Ok.ensures.0; known = omega arith }; a = is_a.0; b = is_b.0 },
      overflow_words ws now op a b c.requires c.in-Ok.ensures.2 word is_a.1 is_b.1,
    ) in
    carried c.args.tasks ws now op a b _ _ own_a own_b both
