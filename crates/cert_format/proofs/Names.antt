-- lines that have a name, and numbers after it
use Rattle.std.proofs.Common.{◌≡◌, ◌≢◌, ◌<◌, ◌^◌, [], ℕ, ℤ, pos, List, get_or, ap, sym, subst, arith}
use Rattle.std.specs.Fmt.{signed_decimal}
use Rattle.std.proofs.lemmas.Int.{ints}
use Rattle.crew_terms.specs.Words.{Words}
use Rattle.crew_terms.specs.declared.TheConstants.{MOST_TEAMS_PER_TASK, LAST_MINUTE}
use Rattle.field_table.specs.declared.fields.Field.{Field}
use Rattle.cert_format.specs.declared.kinds.LineKind.{LineKind}
use Rattle.cert_format.specs.declared.kinds.LineKind.TheVariants as kinds
use Rattle.cert_format.specs.declared.kinds.Expect.{Expect}
use Rattle.line_in.specs.declared.faults.LineFault.{LineFault}
use Rattle.line_in.specs.declared.faults.LineFault.TheVariants.{Number}
use Rattle.line_in.specs.Fields.{IsIn, SpellsOne}
use Rattle.line_in.proofs.Accepted.{number_field, last_of, last_below}
use Rattle.line_in.proofs.Names.{minute_field, spells}
use Rattle.cert_format.specs.Lines.{IsTeamOf, IsTaskOf, HasShape, HasNames, IsLineOf, IsFaultOf}

-- each number of a line of a team lies in the range of its field
pub team_numbers : (places : ℕ) (ws : Words) → places < 2 ^ 32 → (kind : LineKind) → IsTeamOf places ws kind
    → SpellsOne (number_field 0 (last_of places)) (get_or ws 2 []) × SpellsOne minute_field (get_or ws 3 []) × SpellsOne minute_field (get_or ws 4 [])
team_numbers places ws small (kinds.Team name home from until skills) (ss, f, t, is) =
    let last = last_below places small in
    let a = t.home in
    let b = t.from in
    let c = t.until in (
      spells (number_field 0 (last_of places)) (get_or ws 2 []) home (omega (arith, ints)) (omega (arith, ints)) (omega arith) (ap (λ xs. get_or xs 2 []) is),
      spells minute_field (get_or ws 3 []) from (omega (arith, ints)) (omega (arith, ints)) (omega arith) (ap (λ xs. get_or xs 3 []) is),
      spells minute_field (get_or ws 4 []) until (omega (arith, ints)) (omega (arith, ints)) (omega arith) (ap (λ xs. get_or xs 4 []) is),
    )
team_numbers places ws small _ h = absurd h

-- and so does each of a line of a task
pub task_numbers : (places : ℕ) (ws : Words) → places < 2 ^ 32 → (kind : LineKind) → IsTaskOf places ws kind
    → SpellsOne (number_field 0 (last_of places)) (get_or ws 2 []) × SpellsOne minute_field (get_or ws 3 []) × SpellsOne minute_field (get_or ws 4 [])
    × SpellsOne (number_field 1 (pos LAST_MINUTE)) (get_or ws 5 []) × SpellsOne (number_field 1 (pos MOST_TEAMS_PER_TASK)) (get_or ws 6 [])
task_numbers places ws small (kinds.Task name place earliest latest minutes teams skills) (ss, f, t, is) =
    let last = last_below places small in
    let a = t.place in
    let b = t.earliest in
    let c = t.latest in
    let d = t.some_minutes in
    let g = t.minutes in
    let h = t.teams.some in
    let k = t.teams.few in (
      spells (number_field 0 (last_of places)) (get_or ws 2 []) place (omega (arith, ints)) (omega (arith, ints)) (omega arith) (ap (λ xs. get_or xs 2 []) is),
      spells minute_field (get_or ws 3 []) earliest (omega (arith, ints)) (omega (arith, ints)) (omega arith) (ap (λ xs. get_or xs 3 []) is),
      spells minute_field (get_or ws 4 []) latest (omega (arith, ints)) (omega (arith, ints)) (omega arith) (ap (λ xs. get_or xs 4 []) is),
      spells (number_field 1 (pos LAST_MINUTE)) (get_or ws 5 []) minutes (omega (arith, ints)) (omega (arith, ints)) (omega arith) (ap (λ xs. get_or xs 5 []) is),
      spells (number_field 1 (pos MOST_TEAMS_PER_TASK)) (get_or ws 6 []) teams (omega (arith, ints)) (omega (arith, ints)) (omega arith) (ap (λ xs. get_or xs 6 []) is),
    )
task_numbers places ws small _ h = absurd h

-- what is told where a number of a line that has its shape and its name is out of its field
pub number_told : (e : Expect) (ws : Words) (field : Field) (w : List ℕ) (told : LineFault) → HasShape e ws → HasNames e ws → ((kind : LineKind) → IsLineOf e ws kind → SpellsOne field w)
    → (told ≡ Number) × ((z : ℤ) → IsIn field z → w ≢ signed_decimal z) → IsFaultOf e ws told
number_told e ws field w told shape names each none =
    subst (λ (f : LineFault). IsFaultOf e ws f) (sym none.0) (shape, names, λ kind is. let s = each kind is in none.1 s.0 s.1 s.2)
