use Rattle.std.proofs.Common.{◌≡◌, List, ℕ, length, map, ap, sym, subst, ◌∙◌}
use Rattle.std.specs.List.{flat_map}
use Rattle.std.proofs.lemmas.List.Elements.{Contains-get_or}
use Rattle.crew_io.specs.Chains.{puts_nothing, puts_same, puts_more, puts_more_front, puts_all}
use Rattle.crew_terms.specs.Words.{line_text}
use Rattle.crew_terms.specs.Instance.{Instance}
use Rattle.crew_terms.specs.Plan.{Plan}
use Rattle.crew_terms.specs.Rules.{IsInstance}
use Rattle.crew_terms.specs.Legal.{IsLegal}
use Rattle.crew_instance.specs.Turns.{AreTurns}
use Rattle.crew_instance.specs.declared.turns.Turn.{Turn}
use Rattle.roster_print.specs.Roster.{tasks_in_turn, turn_line}
use Rattle.roster_print.proofs.Texts.{text, of_mapped}
use Rattle.roster_print.proofs.Turns.{turns_are}
use Rattle.roster_print.proofs.put_turns.Goals as goal

first : Turn
first = record { start = 0; task = 0 }

-- the lines of the turns are those of the tasks in order
all_lines : (i : Instance) (p : Plan) (k : ℕ) (turns : List Turn) → IsInstance i → IsLegal i p → AreTurns p k (length p) turns
    → flat_map (λ (v : Turn). line_text (turn_line i p k v.task)) turns ≡ text (map (turn_line i p k) (tasks_in_turn p k))
all_lines i p k turns limits legal are =
    of_mapped (turn_line i p k) (λ (v : Turn). v.task) turns ∙ ap (λ js. text (map (turn_line i p k) js)) (turns_are i p k turns limits legal are)

pub put_turn-requires-clause-turn : goal.put_turn-requires-clause-turn
unfolding first
put_turn-requires-clause-turn g c =
    let turns = c.as_slice-turn-items.result.now in
    let p = c.args.plan.now in
    let are = subst (AreTurns p c.args.k (length p)) (sym c.as_slice-turn-items.ensures.value) c.fill_turns.ensures in
    (are.done _ (Contains-get_or turns c.loop-turn.turn-index first c.loop-turn-test.true)).0

-- the line of a turn
abbrev one_turn : Instance → Plan → ℕ → Turn → List ℕ
one_turn i p k v = line_text (turn_line i p k v.task)

pub loop-turn-init : goal.loop-turn-init
loop-turn-init g c = puts_nothing g.K.Sink c.args.out.now

pub loop-turn-preserved : goal.loop-turn-preserved
unfolding first
loop-turn-preserved g c =
    puts_more g.K.Sink (one_turn c.args.instance.now c.args.plan.now c.args.k) c.as_slice-turn-items.result.now c.loop-turn.turn-index first c.loop-turn-test.true _ _ _ _ _
    c.loop-turn.invariant c.in_ok-put_turn.ensures

pub returns-in_err-put_turn : goal.returns-in_err-put_turn
unfolding first
returns-in_err-put_turn g c =
    let i = c.args.instance.now in
    let p = c.args.plan.now in
    let k = c.args.k in
    let turns = c.as_slice-turn-items.result.now in
    let are = subst (AreTurns p k (length p)) (sym c.as_slice-turn-items.ensures.value) c.fill_turns.ensures in
    puts_same g.K.Sink _ _ _ _ _ (all_lines i p k turns c.requires.limits c.requires.legal are)
    (puts_more_front g.K.Sink (one_turn i p k) turns c.loop-turn.turn-index first c.loop-turn-test.true _ _ _ _ _ c.from_residual.result c.from_residual.ensures.0
    c.loop-turn.invariant c.in_err-put_turn.ensures)

pub returns : goal.returns
returns g c =
    let i = c.args.instance.now in
    let p = c.args.plan.now in
    let k = c.args.k in
    let turns = c.as_slice-turn-items.result.now in
    let are = subst (AreTurns p k (length p)) (sym c.as_slice-turn-items.ensures.value) c.fill_turns.ensures in
    puts_same g.K.Sink _ _ _ _ _ (all_lines i p k turns c.requires.limits c.requires.legal are)
    (puts_all g.K.Sink (one_turn i p k) turns c.loop-turn.turn-index _ _ _ _ c.loop-turn-test.false c.loop-turn.invariant)
