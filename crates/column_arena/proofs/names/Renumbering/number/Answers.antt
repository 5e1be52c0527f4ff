use Rattle.std.proofs.Common.{◌≡◌, ◌<◌, ◌∙◌, ap, sym, subst, length, None, Some}
use Rattle.std.specs.List.{position}
use Rattle.std.specs.Str.{bytes_eq}
use Rattle.std.proofs.lemmas.List.{get_or_default}
use Rattle.column_arena.specs.Carried.{TwoNames}
use Rattle.route_terms.specs.Named.{name_of}
use Rattle.column_arena.proofs.Renumbering.{renumber}
use Rattle.column_arena.proofs.names.Renumbering.number.Goals as goal

pub returns-in_err-place : goal.returns-in_err-place
returns-in_err-place c =
    let below = subst (λ (names : TwoNames). c.args.k < length names.old) (sym c.self.view_is) c.requires in
    let here : c.index-old-k.result ≡ name_of c.args.self.now.old c.args.k =
    c.index-old-k.is ∙ get_or_default c.self.inside.old.now c.args.k c.index-old-k.result _ below ∙ ap (λ (names : TwoNames). name_of names.old c.args.k) c.self.view_is in
    let at : None ≡ position (bytes_eq c.index-old-k.result) c.args.self.now.new =
    c.in_err-place.ensures.index ∙ ap (λ (names : TwoNames). position (bytes_eq c.index-old-k.result) names.new) c.self.view_is in
    rw c.from_residual.ensures (renumber c.args.self.now c.args.k c.index-old-k.result None here at)

pub returns : goal.returns
returns c =
    let below = subst (λ (names : TwoNames). c.args.k < length names.old) (sym c.self.view_is) c.requires in
    let here : c.index-old-k.result ≡ name_of c.args.self.now.old c.args.k =
    c.index-old-k.is ∙ get_or_default c.self.inside.old.now c.args.k c.index-old-k.result _ below ∙ ap (λ (names : TwoNames). name_of names.old c.args.k) c.self.view_is in
    let at : Some c.in_ok-place.place ≡ position (bytes_eq c.index-old-k.result) c.args.self.now.new =
    c.in_ok-place.ensures.index ∙ ap (λ (names : TwoNames). position (bytes_eq c.index-old-k.result) names.new) c.self.view_is in
    renumber c.args.self.now c.args.k c.index-old-k.result (Some c.in_ok-place.place) here at
