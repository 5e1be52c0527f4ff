use Rattle.std.proofs.Common.{[], ap, sym, refl, ◌∙◌}
use Rattle.std.proofs.lemmas.Bool.{false≢true}
use Rattle.crew_io.specs.Appends.{appended_none}
use Rattle.crew_io.specs.Chains.{writes_none, writes_then}
use Rattle.day_terms.specs.Refusal.{refusal_of}
use Rattle.day_terms.specs.State.{DayState}
use Rattle.day_commands.specs.Instances.{rounds_text}
use Rattle.replan.specs.Entries.{refusal_known, no_round}
use Rattle.day_commands.proofs.Applied.{refused_so, plan_applied, plans_kept, state_after_none, stop_of_none}
use Rattle.day_commands.proofs.entries.apply_entry.Goals as goal

pub returns-in-Err-clause-taken : goal.returns-in-Err-clause-taken
returns-in-Err-clause-taken g c =
    refused_so c.args.desk.now c.apply.new.self c.args.entry.now c.in-Err.fault (g.K.Sink.got c.args.out.now)
    (refusal_known (refusal_of c.args.desk.now c.args.entry.now) c.in-Err.fault c.in-Err.ensures.told (λ e. false≢true (sym c.if-wants_memory.false ∙ c.wants_memory.ensures.1 e)))

pub returns-in_default-entry : goal.returns-in_default-entry
returns-in_default-entry g c =
    let none = c.in_default.ensures.taken in
    let got = g.K.Sink.got c.args.out.now in
    let none_begins = no_round c.args.desk.now c.args.entry.now c.in_default-entry.not-Plan in
    record {
      taken = (
        stop_of_none c.args.desk.now c.args.entry.now none,
        refl,
        (
          [],
          [],
          state_after_none c.args.desk.now c.apply.new.self c.args.entry.now c.requires.unknown c.in_default.ensures.ok
              (ap (λ (x : DayState). x.plans) c.in_default.ensures.ok ∙ plans_kept c.args.desk.now c.args.entry.now none_begins ∙ c.requires.unknown),
          ((refl, sym (ap rounds_text none_begins)), refl),
          appended_none got,
          tt,
        ),
      );
      nothing = tt;
      tells = writes_then g.K.Sink _ _ _ (λ fault. fault) (writes_none g.K.Sink c.args.out.now) (writes_none g.K.Sink c.args.out.now) (λ e. absurd (cc)) (λ fault. absurd fault);
    }

pub returns-clause-taken : goal.returns-clause-taken
returns-clause-taken g c =
    let none = c.in_default.ensures.taken in
    plan_applied c.put_round.result c.args.desk.now c.apply.new.self c.args.entry.now c.in-Plan.nodes c.in-Ok.instance (g.K.Sink.got c.args.out.now) (g.K.Sink.got c.put_round.new.out)
    c.in-Plan.is none c.in_default.ensures.ok c.requires.unknown c.in-Ok.ensures.ok c.put_round.ensures.taken c.put_round.ensures.part c.put_round.ensures.others
