use Rattle.std.proofs.Common.{◌≡◌, ◌-◌, ◌++◌, [], ap, append-nil, map, sym, ◌∙◌}
use Rattle.arrayvec.specs.ArrayVec.{ArrayVec}
use Rattle.crew_terms.specs.declared.Task.{Task}
use Rattle.line_out.specs.Parts.{part_word}
use Rattle.line_out.specs.declared.Part.{Part}
use Rattle.delay_wave.specs.Waits.{chain_within}
use Rattle.delay_print.proofs.Words.{chain_free, chain_held, chain_short, named}
use Rattle.delay_print.proofs.+push_chain.Goals as goal
use Rattle.delay_print.proofs.+push_chain.Goals.{then-before-gt0+in-Some, then-before-gt0+in_default, else-before-gt0}

pub returns-clause-names : goal.returns-clause-names
returns-clause-names t c =
    let old = c.args.line.now.items in
    let new = c.push.new.self.items in
    let w = c.args.waits.now in
    elim c.if-before-gt0.branch [
      | then-before-gt0+in-Some v ↦
          named c.args.instance.now old c.if-before-gt0.line.items new _ (chain_within w (c.args.before - 1) v.in-Some.holder) c.args.j _ c.push.ensures.items
          (c.bytes.ensures.bytes ∙ ap (λ (t : Task). t.name) c.task.ensures.task)
          (ap (λ (l : ArrayVec Part). map part_word l.items) v.line-is ∙ v.push_chain.ensures.names)
          (chain_held w c.args.before c.args.j v.in-Some.holder v.if-before-gt0.true (sym v.in-Some.ensures))
      | then-before-gt0+in_default v ↦
          named c.args.instance.now old c.if-before-gt0.line.items new _ [] c.args.j _ c.push.ensures.items
          (c.bytes.ensures.bytes ∙ ap (λ (t : Task). t.name) c.task.ensures.task)
          (ap (λ (l : ArrayVec Part). map part_word l.items) v.line-is ∙ sym (append-nil (map part_word old)))
          (chain_free w c.args.before c.args.j (sym v.in_default.ensures))
      | else-before-gt0 v ↦
          named c.args.instance.now old c.if-before-gt0.line.items new _ [] c.args.j _ c.push.ensures.items
          (c.bytes.ensures.bytes ∙ ap (λ (t : Task). t.name) c.task.ensures.task)
          (ap (λ (l : ArrayVec Part). map part_word l.items) v.line-is ∙ sym (append-nil (map part_word old)))
          (chain_short w c.args.before c.args.j v.if-before-gt0.false)
    ]
