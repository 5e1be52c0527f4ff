use Rattle.std.proofs.Common.{[], ◌∷◌, pos, get_or, refl, subst, arith}
use Rattle.std.proofs.lemmas.Int.{ints}
use Rattle.std.proofs.lemmas.Result.{err_from_is_err_and}
use Rattle.std.specs.Prelude.{codes}
use Rattle.crew_terms.specs.Name.{IsName}
use Rattle.crew_terms.specs.declared.TheConstants.{MOST_TEAMS_PER_TASK, LAST_MINUTE}
use Rattle.cert_format.specs.declared.kinds.Expect.TheVariants.{Task}
use Rattle.line_in.proofs.Accepted.{number_field, last_of, last_below}
use Rattle.line_in.proofs.Fields.{number_spelled}
use Rattle.cert_format.proofs.Names.{task_numbers, number_told}
use Rattle.line_in.proofs.Names.{minute_field, named_line}
use Rattle.cert_format.proofs.head.read_task.Goals as goal

pub returns-in_err-place : goal.returns-in_err-place
returns-in_err-place c =
    let p = err_from_is_err_and c.from_residual-in_err-place.result c.from_residual-in_err-place.ensures.1 in
    rw (p.1, p.2)
    (number_told (Task c.args.places) c.args.words _ _ _ c.if-not-has_shape_from.ensures c.in_ok-name.ensures.0
    (λ kind is. (task_numbers c.args.places c.args.words (omega arith) kind is).0) c.in_err-place.ensures)

pub returns-in_err-earliest : goal.returns-in_err-earliest
returns-in_err-earliest c =
    let p = err_from_is_err_and c.from_residual-in_err-earliest.result c.from_residual-in_err-earliest.ensures.1 in
    rw (p.1, p.2)
    (number_told (Task c.args.places) c.args.words _ _ _ c.if-not-has_shape_from.ensures c.in_ok-name.ensures.0
    (λ kind is. (task_numbers c.args.places c.args.words (omega arith) kind is).1) c.in_err-earliest.ensures)

pub returns-in_err-latest : goal.returns-in_err-latest
returns-in_err-latest c =
    let p = err_from_is_err_and c.from_residual-in_err-latest.result c.from_residual-in_err-latest.ensures.1 in
    rw (p.1, p.2)
    (number_told (Task c.args.places) c.args.words _ _ _ c.if-not-has_shape_from.ensures c.in_ok-name.ensures.0
    (λ kind is. (task_numbers c.args.places c.args.words (omega arith) kind is).2) c.in_err-latest.ensures)

pub returns-in_err-minutes : goal.returns-in_err-minutes
returns-in_err-minutes c =
    let p = err_from_is_err_and c.from_residual-in_err-minutes.result c.from_residual-in_err-minutes.ensures.1 in
    rw (p.1, p.2)
    (number_told (Task c.args.places) c.args.words _ _ _ c.if-not-has_shape_from.ensures c.in_ok-name.ensures.0
    (λ kind is. (task_numbers c.args.places c.args.words (omega arith) kind is).3) c.in_err-minutes.ensures)

pub returns-in_err-teams : goal.returns-in_err-teams
returns-in_err-teams c =
    let p = err_from_is_err_and c.from_residual-in_err-teams.result c.from_residual-in_err-teams.ensures.1 in
    rw (p.1, p.2)
    (number_told (Task c.args.places) c.args.words _ _ _ c.if-not-has_shape_from.ensures c.in_ok-name.ensures.0
    (λ kind is. (task_numbers c.args.places c.args.words (omega arith) kind is).4) c.in_err-teams.ensures)

pub overflow_cast-result : goal.overflow_cast-result
overflow_cast-result c =
    let last = last_below c.args.places (omega arith) in
    let low = c.in_ok-place.ensures.0.low in
    let high = c.in_ok-place.ensures.0.high in
    omega (arith, ints)

pub overflow_cast-result-2 : goal.overflow_cast-result-2
overflow_cast-result-2 c =
    let low = c.in_ok-earliest.ensures.0.low in
    let high = c.in_ok-earliest.ensures.0.high in
    omega (arith, ints)

pub returns : goal.returns
returns c =
    let ws = c.args.words in
    let rest = c.in_ok-skills.ensures in
    let named = c.in_ok-name.ensures in
    let place = number_spelled (number_field 0 (last_of c.args.places)) (get_or ws 2 []) refl (omega (arith, ints)) (_, c.in_ok-place.ensures.0, c.in_ok-place.ensures.1) in
    let earliest = number_spelled minute_field (get_or ws 3 []) refl (omega (arith, ints)) (_, c.in_ok-earliest.ensures.0, c.in_ok-earliest.ensures.1) in
    let latest = number_spelled minute_field (get_or ws 4 []) refl (omega (arith, ints)) (_, c.in_ok-latest.ensures.0, c.in_ok-latest.ensures.1) in
    let minutes = number_spelled (number_field 1 (pos LAST_MINUTE)) (get_or ws 5 []) refl (omega (arith, ints)) (_, c.in_ok-minutes.ensures.0, c.in_ok-minutes.ensures.1) in
    let teams = number_spelled (number_field 1 (pos MOST_TEAMS_PER_TASK)) (get_or ws 6 []) refl (omega (arith, ints)) (_, c.in_ok-teams.ensures.0, c.in_ok-teams.ensures.1) in
    let places = last_below c.args.places (omega arith) in (
      rest.0,
      rest.1,
      record {
        name = subst IsName named.1 named.0;
        place = omega (arith, ints);
        earliest = omega (arith, ints);
        latest = omega (arith, ints);
        some_minutes = omega (arith, ints);
        minutes = omega (arith, ints);
        teams = record { some = omega (arith, ints); few = omega (arith, ints) };
        none = refl;
        skills = rest.2.below;
      },
      named_line (codes "task") _ (_ ∷ _ ∷ _ ∷ _ ∷ _ ∷ []) rest.0 ws c.if-not-has_shape_from.ensures named.1 (place.3, (earliest.3, (latest.3, (minutes.3, (teams.3, tt))))) rest.2.spelled,
    )
