use Rattle.std.proofs.Common.{◌≡◌, ◌<◌, ◌+◌, ◌++◌, ◌∷◌, [], List, ℕ, suc, length, get_or, ap, sym, ◌∙◌, arith}
use Rattle.line_out.specs.Parts.{part_word}
use Rattle.line_out.specs.declared.Part.{Part}
use Rattle.line_out.proofs.Joined.{joined, gap_later}
use Rattle.line_out.proofs.gather.Goals as goal

-- a part of the others is the next of all parts
next_part : (parts : List Part) (first : Part) (others : List Part) (i : ℕ) (d : Part) → parts ≡ first ∷ others → get_or others i d ≡ get_or parts (i + 1) d
next_part parts first others i d is = ap (λ n. get_or (first ∷ others) n d) (let e : suc i ≡ i + 1 = omega arith in e) ∙ ap (λ ps. get_or ps (i + 1) d) (sym is)

-- a space and a word that are added
two_steps : (old mid new so_far gap word next : List ℕ) → old ≡ so_far → 32 ∷ [] ≡ gap → word ≡ next → mid ≡ old ++ 32 ∷ [] → new ≡ mid ++ word → new ≡ (so_far ++ gap) ++ next
two_steps old mid new so_far gap word next a b c d e = cc

pub loop-part-preserved : goal.loop-part-preserved
loop-part-preserved c =
    let parts = c.args.parts.now in
    let i = c.loop-part.part-index in
    let split = c.in-Some.ensures.cases.0 in
    let below : i + 1 < length parts = (let l = ap length split in let t = c.loop-part-test.true in omega arith) in
    record {
      within = c.in_ok-at-3.ensures.within;
      so_far =
          two_steps _ _ _ _ _ _ _ c.loop-part.invariant.so_far (gap_later part_word parts i (omega arith)) (ap part_word (next_part parts _ _ i _ split)) c.in_ok-at-2.ensures.added c.in_ok-at-3.ensures.added
          ∙ sym (joined part_word parts (i + 1) _ below);
    }
