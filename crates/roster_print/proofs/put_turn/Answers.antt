use Rattle.std.proofs.Common.{◌≡◌, ◌≤◌, ◌<◌, ◌+◌, ◌++◌, ℕ, List, length, map, ap, sym, subst, ◌∙◌}
use Rattle.std.specs.Prelude.{All}
use Rattle.crew_io.specs.Chains.{puts_same}
use Rattle.crew_terms.specs.Words.{line_text}
use Rattle.crew_terms.specs.declared.Task.{Task}
use Rattle.crew_terms.specs.declared.TheConstants.{LAST_MINUTE}
use Rattle.crew_instance.specs.Teams.{job_teams}
use Rattle.field_table.specs.Clocks.{clock_text}
use Rattle.line_out.specs.Parts.{part_word}
use Rattle.roster_print.specs.Roster.{turn_line, partner_words}
use Rattle.roster_print.proofs.Words.{job_words, six_parts}
use Rattle.roster_print.proofs.Legal.{ends_in_day, known_teams}
use Rattle.roster_print.proofs.put_turn.Given.{Over}
use Rattle.roster_print.proofs.put_turn.Goals as goal

pub clock-ends-requires : goal.clock-ends-requires
clock-ends-requires g c =
    let ends = ends_in_day c.args.instance.now c.args.plan.now c.args.k c.args.turn.task c.args.turn.start c.requires.limits c.requires.legal c.requires.turn in
    subst (λ (t : Task). c.args.turn.start + t.minutes ≤ LAST_MINUTE) (sym c.task-task.ensures.task) ends

pub push_partners-requires-clause-known : goal.push_partners-requires-clause-known
push_partners-requires-clause-known g c =
    let known = known_teams c.args.instance.now c.args.plan.now c.args.k c.args.turn.task c.args.turn.start c.requires.limits c.requires.legal c.requires.turn in
    let are : c.teams.result.now ≡ c.requires.turn.0.teams = c.teams.ensures ∙ ap job_teams c.requires.turn.1 in
    subst (λ (ks : List ℕ). All (λ n. n < length c.args.instance.now.teams) ks) (sym are) known

-- the words that were gathered are the line of the task
words : (g : Over) (c : goal.After-put_line g) → map part_word c.deref.result.now ≡ turn_line c.args.instance.now c.args.plan.now c.args.k c.args.turn.task
words g c =
    let does = c.requires.turn in
    let t = c.task-task.result.now in
    let are : c.teams.result.now ≡ does.0.teams = c.teams.ensures ∙ ap job_teams does.1 in
    let six = six_parts _ _ _ _ _ _ _ _ _ _ _ _ _ c.new-line.ensures c.push.ensures.items c.push-2.ensures.items c.push-3.ensures.items c.push-4.ensures.items c.push-5.ensures.items c.push-6.ensures.items in
    ap (map part_word) c.deref.ensures.0
    ∙ c.push_partners.ensures
    ∙ ap (λ ws. ws ++ partner_words c.args.instance.now c.args.k c.teams.result.now) six
    ∙ job_words c.args.instance.now c.args.plan.now c.args.k c.args.turn.task does.0 t _ _ _ _ _ does.1 c.task-task.ensures.task
    (c.clock-begins.ensures ∙ ap clock_text (sym does.2)) (c.clock-ends.ensures ∙ ap (λ s. clock_text (s + t.minutes)) (sym does.2))
    c.bytes.ensures.bytes (c.bytes-2.ensures.bytes ∙ c.place.ensures.name) (ap (partner_words c.args.instance.now c.args.k) are)

pub returns : goal.returns
returns g c = puts_same g.K.Sink _ _ _ _ _ (ap line_text (words g c)) c.put_line.ensures
