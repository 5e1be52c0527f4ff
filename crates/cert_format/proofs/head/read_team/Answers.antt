use Rattle.std.proofs.Common.{[], ◌∷◌, get_or, refl, subst, arith}
use Rattle.std.proofs.lemmas.Int.{ints}
use Rattle.std.proofs.lemmas.Result.{err_from_is_err_and}
use Rattle.std.specs.Prelude.{codes}
use Rattle.crew_terms.specs.Name.{IsName}
use Rattle.cert_format.specs.declared.kinds.Expect.TheVariants.{Team}
use Rattle.line_in.proofs.Accepted.{number_field, last_of, last_below}
use Rattle.line_in.proofs.Fields.{number_spelled}
use Rattle.cert_format.proofs.Names.{team_numbers, number_told}
use Rattle.line_in.proofs.Names.{minute_field, named_line}
use Rattle.cert_format.proofs.head.read_team.Goals as goal

pub returns-in_err-home : goal.returns-in_err-home
returns-in_err-home c =
    let p = err_from_is_err_and c.from_residual-in_err-home.result c.from_residual-in_err-home.ensures.1 in
    rw (p.1, p.2)
    (number_told (Team c.args.places) c.args.words _ _ _ c.if-not-has_shape_from.ensures c.in_ok-name.ensures.0
    (λ kind is. (team_numbers c.args.places c.args.words (omega arith) kind is).0) c.in_err-home.ensures)

pub returns-in_err-from : goal.returns-in_err-from
returns-in_err-from c =
    let p = err_from_is_err_and c.from_residual-in_err-from.result c.from_residual-in_err-from.ensures.1 in
    rw (p.1, p.2)
    (number_told (Team c.args.places) c.args.words _ _ _ c.if-not-has_shape_from.ensures c.in_ok-name.ensures.0
    (λ kind is. (team_numbers c.args.places c.args.words (omega arith) kind is).1) c.in_err-from.ensures)

pub returns-in_err-until : goal.returns-in_err-until
returns-in_err-until c =
    let p = err_from_is_err_and c.from_residual-in_err-until.result c.from_residual-in_err-until.ensures.1 in
    rw (p.1, p.2)
    (number_told (Team c.args.places) c.args.words _ _ _ c.if-not-has_shape_from.ensures c.in_ok-name.ensures.0
    (λ kind is. (team_numbers c.args.places c.args.words (omega arith) kind is).2) c.in_err-until.ensures)

pub returns : goal.returns
returns c =
    let ws = c.args.words in
    let rest = c.in_ok-skills.ensures in
    let named = c.in_ok-name.ensures in
    let home = number_spelled (number_field 0 (last_of c.args.places)) (get_or ws 2 []) refl (omega (arith, ints)) (_, c.in_ok-home.ensures.0, c.in_ok-home.ensures.1) in
    let from = number_spelled minute_field (get_or ws 3 []) refl (omega (arith, ints)) (_, c.in_ok-from.ensures.0, c.in_ok-from.ensures.1) in
    let until = number_spelled minute_field (get_or ws 4 []) refl (omega (arith, ints)) (_, c.in_ok-until.ensures.0, c.in_ok-until.ensures.1) in
    let places = last_below c.args.places (omega arith) in (
      rest.0,
      rest.1,
      record {
        name = subst IsName named.1 named.0;
        home = omega (arith, ints);
        from = omega (arith, ints);
        until = omega (arith, ints);
        none = refl;
        skills = rest.2.below;
      },
      named_line (codes "team") _ (_ ∷ _ ∷ _ ∷ []) rest.0 ws c.if-not-has_shape_from.ensures named.1 (home.3, (from.3, (until.3, tt))) rest.2.spelled,
    )
