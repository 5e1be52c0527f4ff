use Rattle.std.proofs.Common.{◌++◌, ap, map, ◌∙◌}
use Rattle.crew_terms.specs.Words.{line_text}
use Rattle.crew_terms.specs.declared.Task.{Task}
use Rattle.crew_io.specs.Chains.{puts_same}
use Rattle.line_out.specs.Parts.{part_word}
use Rattle.delay_wave.specs.Waits.{chain_within}
use Rattle.delay_print.specs.Texts.{names_of}
use Rattle.delay_print.proofs.Words.{delay_parts, four_parts}
use Rattle.delay_print.proofs.put_delay.Goals as goal

pub returns : goal.returns
returns g c =
    let i = c.args.instance.now in
    let w = c.args.waits.now in
    let four = four_parts _ _ _ _ _ _ _ _ _ c.new-line.ensures c.push.ensures.items c.push-2.ensures.items c.push-3.ensures.items c.push-4.ensures.items in
    let words =
    ap (map part_word) c.deref.ensures.0 ∙ c.push_chain.ensures.names ∙ ap (λ ws. ws ++ names_of i (chain_within w c.len.result c.args.j)) four in
    puts_same g.K.Sink _ _ _ _ _
    (ap line_text (delay_parts i w c.args.j c.args.starts c.len.result c.bytes.result.now _ c.len.ensures (c.bytes.ensures.bytes ∙ ap (λ (t : Task). t.name) c.task.ensures.task) words)) c.put_line.ensures
