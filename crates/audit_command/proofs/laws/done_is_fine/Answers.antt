use Rattle.std.proofs.Common.{◌≡◌, ℕ, List, ap, sym}
use Rattle.dossier_terms.specs.Dossier.{Dossier}
use Rattle.route_terms.specs.Named.{NamedRoute}
use Rattle.day_terms.specs.Rounds.{Round}
use Rattle.dossier_commands.specs.Input.{Front}
use Rattle.day_audit.specs.declared.audit.Fit.TheVariants as fits
use Rattle.audit_command.specs.Events.{AtRound, BadLine, Belongs, Differs, IsEvent, IsFineAudit, IsMore, IsRefused, IsRoundEvent, LongDay, NoDay, NoMore}
use Rattle.audit_command.specs.Says.{end_of}
use Rattle.audit_command.specs.declared.ended.Ended.TheVariants.{Done, No, Refused}
use Rattle.audit_command.specs.declared.event.Event.{Event}
use Rattle.audit_command.specs.declared.event.Event.TheVariants as events
use Rattle.audit_command.proofs.laws.done_is_fine.Goals as goal

-- no event at a round ends an audit as done
round_not_done : (handed : List NamedRoute) (round : Round) (number : ℕ) (front : Front) (input : List ℕ) (done : List Dossier) (event : Event)
    → IsRoundEvent handed round number front input done event → end_of event ≡ Done → ⊥
round_not_done handed round number front input done event (BadLine line reason refusal is) e = let f : end_of event ≡ No = ap end_of is in cc
round_not_done handed round number front input done event (NoMore accepted is) e = let f : end_of event ≡ No = ap end_of is in cc
round_not_done handed round number front input done event (Differs d rest read fits.Fits told is) e = cc
round_not_done handed round number front input done event (Differs d rest read fits.Instance told is) e =
    let g : events.Instance number ≡ event = cc in
    let f : No ≡ end_of event = ap end_of g in
    cc
round_not_done handed round number front input done event (Differs d rest read fits.Nodes told is) e =
    let g : events.Nodes number ≡ event = cc in
    let f : No ≡ end_of event = ap end_of g in
    cc
round_not_done handed round number front input done event (Differs d rest read fits.Kept told is) e =
    let g : events.Kept number ≡ event = cc in
    let f : No ≡ end_of event = ap end_of g in
    cc

-- the one event that does is that of dossiers that belong to their day
fine_of : (input : List ℕ) (event : Event) → IsEvent input event → end_of event ≡ Done → IsFineAudit input
fine_of input event (NoDay why none is) e = absurd (let f : end_of event ≡ No = ap end_of is in cc)
fine_of input event (LongDay long is) e = absurd (let f : end_of event ≡ Refused = ap end_of is in cc)
fine_of input event (IsRefused text done rest audited stop stopped is) e = absurd (let f : end_of event ≡ Refused = ap end_of is in cc)
fine_of input event (AtRound text done rest audited round next at) e = absurd (round_not_done _ _ _ _ input done event at e)
fine_of input event (IsMore text done rest audited some belong is) e = absurd (let f : end_of event ≡ No = ap end_of is in cc)
fine_of input event (Belongs text done audited belong is) e = record { text = text; dossiers = done; audited = audited; belong = belong }

pub returns : goal.returns
returns c = λ input written says. fine_of input says.event says.is (sym says.end)
