use Rattle.std.proofs.Common.{◌≡◌, ap, true, false, refl}
use Rattle.std.specs.Prelude.{is_some}
use Rattle.crew_terms.specs.declared.Choice.TheVariants.{Window}
use Rattle.branch_choice.specs.Rules.{BetweenUses, UsedPair, WideWindow, OpenPair}
use Rattle.branch_choice.proofs.Valid.{uses_cut_is_valid, undecided, none_is_decided}
use Rattle.branch_choice.proofs.choices.choose.Goals as goal

pub returns-in-Some-clause-first : goal.returns-in-Some-clause-first
returns-in-Some-clause-first c = BetweenUses c.in-Some.task c.in-Some.cut c.in-Some.ensures refl

pub returns-in-Some-clause-valid : goal.returns-in-Some-clause-valid
returns-in-Some-clause-valid c = uses_cut_is_valid c.args.limits.now.limits c.args.uses.now c.requires c.in-Some.task c.in-Some.cut c.in-Some.ensures

pub returns-in-Some-clause-none : goal.returns-in-Some-clause-none
returns-in-Some-clause-none c =
    let valid = uses_cut_is_valid c.args.limits.now.limits c.args.uses.now c.requires c.in-Some.task c.in-Some.cut c.in-Some.ensures in
    ((λ h. absurd (let e : true ≡ false = h in cc)), (λ decided. absurd (undecided c.args.limits.now.limits (Window c.in-Some.task c.in-Some.cut) valid decided)))

pub returns-in-Some-used_pair-clause-first : goal.returns-in-Some-used_pair-clause-first
returns-in-Some-used_pair-clause-first c = UsedPair c.in_default.ensures c.in-Some-used_pair.team c.in-Some-used_pair.task c.in-Some-used_pair.ensures refl

pub returns-in-Some-window_cut-clause-first : goal.returns-in-Some-window_cut-clause-first
returns-in-Some-window_cut-clause-first c =
    WideWindow c.in_default.ensures c.in_default-used_pair.ensures c.in-Some-window_cut.task c.in-Some-window_cut.cut c.in-Some-window_cut.ensures refl

pub returns-in_err-team-clause-none : goal.returns-in_err-team-clause-none
returns-in_err-team-clause-none c = ((λ h. none_is_decided c.args.limits.now.limits c.in_default-window_cut.ensures c.in_err-team.ensures), (λ decided. ap is_some c.from_residual.ensures))

pub returns-clause-first : goal.returns-clause-first
returns-clause-first c =
    OpenPair c.in_default.ensures c.in_default-used_pair.ensures c.in_default-window_cut.ensures c.in_ok-team.team c.in_ok-team.task c.in_ok-team.ensures refl
