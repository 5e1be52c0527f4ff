use Rattle.std.proofs.Common.{◌∷◌, ◌++◌, [], length, map, ap, sym, ◌∙◌, append_assoc}
use Rattle.std.specs.Prelude.{codes, count_by}
use Rattle.std.specs.Fmt.{decimal}
use Rattle.std.specs.List.{flat_map, range_with_len}
use Rattle.crew_io.specs.Chains.{puts_front, puts_same, puts_then}
use Rattle.crew_terms.specs.Words.{Words}
use Rattle.line_out.specs.Parts.{next_word}
use Rattle.why_not.specs.Fits.{is_free}
use Rattle.why_not.specs.Why.{team_word}
use Rattle.why_not.proofs.Texts.{head_is, run_is}
use Rattle.why_not.proofs.runs.put_run.Goals as goal

pub returns-in_err-put_words : goal.returns-in_err-put_words
returns-in_err-put_words g c =
    let s = c.args.days.now in
    let free = c.count_free-free.ensures ∙ ap (count_by is_free) (c.deref.ensures.0 ∙ c.row.ensures.row) in
    let head = head_is s.instance s.plan c.args.j c.args.first c.args.last _ _ _ c.clock-begins.ensures c.clock-ends.ensures free in
    let run = run_is s.instance s.plan c.args.j c.args.first c.args.last _ head in
    let ws : Words = [] ∷ c.clock-begins.result ∷ c.clock-ends.result ∷ codes "free" ∷ decimal c.count_free-free.result ∷ [] in
    let teams = flat_map next_word (map (team_word s.instance s.plan c.args.j c.args.first) (range_with_len 0 (length s.instance.teams))) in
    puts_front g.K.Sink _ _ _ _ _ c.from_residual.result c.from_residual.ensures.0 c.in_err-put_words.ensures
    (record { rest = teams ++ 10 ∷ []; is = sym run ∙ append_assoc (flat_map next_word ws) teams (10 ∷ []) })

pub returns-in_err-put_teams : goal.returns-in_err-put_teams
returns-in_err-put_teams g c =
    let s = c.args.days.now in
    let free = c.count_free-free.ensures ∙ ap (count_by is_free) (c.deref.ensures.0 ∙ c.row.ensures.row) in
    let head = head_is s.instance s.plan c.args.j c.args.first c.args.last _ _ _ c.clock-begins.ensures c.clock-ends.ensures free in
    let run = run_is s.instance s.plan c.args.j c.args.first c.args.last _ head in
    puts_front g.K.Sink _ _ _ _ _ c.from_residual-in_err-put_teams.result c.from_residual-in_err-put_teams.ensures.0
    (puts_then g.K.Sink _ _ _ _ _ _ _ c.in_ok-put_words.ensures c.in_err-put_teams.ensures) (record { rest = 10 ∷ []; is = sym run })

pub returns : goal.returns
returns g c =
    let s = c.args.days.now in
    let free = c.count_free-free.ensures ∙ ap (count_by is_free) (c.deref.ensures.0 ∙ c.row.ensures.row) in
    let head = head_is s.instance s.plan c.args.j c.args.first c.args.last _ _ _ c.clock-begins.ensures c.clock-ends.ensures free in
    let run = run_is s.instance s.plan c.args.j c.args.first c.args.last _ head in
    puts_same g.K.Sink _ _ _ _ _ run
    (puts_then g.K.Sink _ _ _ _ _ _ _ (puts_then g.K.Sink _ _ _ _ _ _ _ c.in_ok-put_words.ensures c.in_ok-put_teams.ensures) c.put_all.ensures.puts)
