use Rattle.std.proofs.Common.{◌≡◌, sym, refl, ◌∙◌, arith}
use Rattle.line_in.proofs.WideWords.{dec_vast}
use Rattle.line_in.proofs.wides.read_natural.Goals as goal
use Rattle.line_in.proofs.wides.read_natural.Goals.{then-k-low-via-then-k-low, then-k-low-via-else-k-low+then-k-past}

pub returns-then-k-low : goal.returns-then-k-low
returns-then-k-low c = (
  refl,
  λ k low below e.
      let found = c.in-Some.k in
      let past = c.requires.past in
      let few = c.in-Some.ensures.0 in
      let same : k ≡ found = dec_vast k found (omega arith) (omega arith) (sym e ∙ c.in-Some.ensures.1) in
      elim c.then-k-low.branch [
        | then-k-low-via-then-k-low w ↦ (let less = w.if-k-low.true in absurd (omega arith))
        | then-k-low-via-else-k-low+then-k-past w ↦ (let more = w.if-k-past.true in absurd (omega arith))
      ],
)
