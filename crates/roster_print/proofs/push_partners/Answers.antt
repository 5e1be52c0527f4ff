use Rattle.std.proofs.Common.{◌≡◌, ◌++◌, ◌∷◌, take, map, ap, sym, ◌∙◌, append-nil, arith}
use Rattle.std.specs.Prelude.{codes}
use Rattle.std.proofs.lemmas.List.{take_all}
use Rattle.line_out.specs.Parts.{part_word}
use Rattle.roster_print.proofs.Words.{others, alone, joined}
use Rattle.roster_print.proofs.push_partners.Goals as goal

pub returns-then-teams-le1 : goal.returns-then-teams-le1
returns-then-teams-le1 c =
    sym (ap (λ ws. map part_word c.args.line.now.items ++ ws) (alone c.args.instance.now c.args.k c.args.teams.now c.if-teams-le1.true) ∙ append-nil (map part_word c.args.line.now.items))

pub returns : goal.returns
returns c =
    let all : take c.loop-g.g-index c.args.teams.now ≡ c.args.teams.now = take_all c.loop-g.g-index c.args.teams.now c.loop-g-test.false in
    c.loop-g.invariant.so_far
    ∙ ap (λ ks. map part_word c.args.line.now.items ++ codes "with" ∷ others c.args.instance.now c.args.k ks) all
    ∙ ap (λ ws. map part_word c.args.line.now.items ++ ws) (sym (joined c.args.instance.now c.args.k c.args.teams.now (let t = c.if-teams-le1.false in omega (arith, t))))
