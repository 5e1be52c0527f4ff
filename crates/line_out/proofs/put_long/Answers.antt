use Rattle.std.proofs.Common.{◌≡◌, ◌<◌, ◌+◌, ◌++◌, ◌∷◌, [], ◌∙◌, List, ℕ, length, take, map, get_or, ap, sym, subst}
use Rattle.std.specs.List.{join_with_byte}
use Rattle.std.proofs.lemmas.List.{take_all}
use Rattle.crew_terms.specs.Words.{line_text}
use Rattle.crew_io.specs.Fronts.{IsFront}
use Rattle.crew_io.specs.Chains.{puts_nothing, puts_then, puts_done, puts_same, puts_front}
use Rattle.line_out.specs.Parts.{part_word}
use Rattle.line_out.specs.declared.Part.{Part}
use Rattle.line_out.specs.declared.Part.TheVariants.{Number}
use Rattle.line_out.proofs.Joined.{gap_after, gap_front, part_front, joined, gap_later}
use Rattle.line_out.proofs.put_long.Goals as goal

-- what is written of the parts before this one, and what stands before it
module _ (parts : List Part) (i : ℕ) (d : Part) (gap : List ℕ) (below : i < length parts) (is : gap ≡ gap_after (map part_word (take i parts))) where
  gap_is_front : IsFront (join_with_byte 32 (map part_word (take i parts)) ++ gap) (line_text (map part_word parts))
  gap_is_front = subst (λ (g : List ℕ). IsFront (join_with_byte 32 (map part_word (take i parts)) ++ g) (line_text (map part_word parts))) (sym is) (gap_front part_word parts i d below)

  part_is_front : IsFront ((join_with_byte 32 (map part_word (take i parts)) ++ gap) ++ part_word (get_or parts i d)) (line_text (map part_word parts))
  part_is_front =
      subst (λ (g : List ℕ). IsFront ((join_with_byte 32 (map part_word (take i parts)) ++ g) ++ part_word (get_or parts i d)) (line_text (map part_word parts))) (sym is)
      (part_front part_word parts i d below)

  one_more : (join_with_byte 32 (map part_word (take i parts)) ++ gap) ++ part_word (get_or parts i d) ≡ join_with_byte 32 (map part_word (take (i + 1) parts))
  one_more = ap (λ (g : List ℕ). (join_with_byte 32 (map part_word (take i parts)) ++ g) ++ part_word (get_or parts i d)) is ∙ sym (joined part_word parts i d below)

pub loop-part-init : goal.loop-part-init
loop-part-init g c = record { so_far = puts_nothing g.K.Sink c.args.out.now; gap = c.as_slice-before.ensures }

pub returns-in_err-put_all : goal.returns-in_err-put_all
returns-in_err-put_all g c =
    let parts = c.args.parts.now in
    let so_far = join_with_byte 32 (map part_word (take c.loop-part.part-index parts)) in
    puts_front g.K.Sink _ _ _ _ _ c.from_residual.result c.from_residual.ensures.0
    (puts_then g.K.Sink so_far c.loop-part.before.now _ _ _ _ _ c.loop-part.invariant.so_far c.in_err-put_all.ensures.puts)
    (gap_is_front parts c.loop-part.part-index (Number 0) c.loop-part.before.now c.loop-part-test.true c.loop-part.invariant.gap)

pub returns-in_err-put_part : goal.returns-in_err-put_part
returns-in_err-put_part g c =
    let parts = c.args.parts.now in
    let so_far = join_with_byte 32 (map part_word (take c.loop-part.part-index parts)) in
    puts_front g.K.Sink _ _ _ _ _ c.from_residual-in_err-put_part.result c.from_residual-in_err-put_part.ensures.0
    (puts_then g.K.Sink (so_far ++ c.loop-part.before.now) _ _ _ _ _ _
    (puts_then g.K.Sink so_far c.loop-part.before.now _ _ _ _ _ c.loop-part.invariant.so_far c.in_ok-put_all.ensures.puts) c.in_err-put_part.ensures)
    (part_is_front parts c.loop-part.part-index _ c.loop-part.before.now c.loop-part-test.true c.loop-part.invariant.gap)

pub loop-part-preserved : goal.loop-part-preserved
loop-part-preserved g c =
    let parts = c.args.parts.now in
    let so_far = join_with_byte 32 (map part_word (take c.loop-part.part-index parts)) in
    record {
      so_far =
          puts_done g.K.Sink _ _ _ _ _
          (puts_same g.K.Sink _ _ _ _ _
          (one_more parts c.loop-part.part-index _ c.loop-part.before.now c.loop-part-test.true c.loop-part.invariant.gap)
          (puts_then g.K.Sink (so_far ++ c.loop-part.before.now) _ _ _ _ _ _
          (puts_then g.K.Sink so_far c.loop-part.before.now _ _ _ _ _ c.loop-part.invariant.so_far c.in_ok-put_all.ensures.puts) c.in_ok-put_part.ensures));
      gap = c.as_slice-before-in-loop-part.ensures ∙ gap_later part_word parts c.loop-part.part-index c.loop-part-test.true;
    }

pub returns : goal.returns
returns g c =
    let parts = c.args.parts.now in
    puts_same g.K.Sink _ _ _ _ _ (ap (λ (ps : List Part). line_text (map part_word ps)) (take_all c.loop-part.part-index parts c.loop-part-test.false))
    (puts_then g.K.Sink (join_with_byte 32 (map part_word (take c.loop-part.part-index parts))) (10 ∷ []) _ _ _ _ _ c.loop-part.invariant.so_far c.put_all-2.ensures.puts)
