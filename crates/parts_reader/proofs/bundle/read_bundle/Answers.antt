use Rattle.std.proofs.Common.{◌≡◌, ◌+◌, Result, Ok, Err, refl, rules, ap, subst, sym, ◌∙◌}
use Rattle.std.specs.Prelude.{max}
use Rattle.crew_io.specs.Draws.{reads_then}
use Rattle.parts_reader.specs.Input.{InDay, IsPlace, PastDay}
use Rattle.parts_reader.specs.declared.halt.Halt.{Halt}
use Rattle.parts_reader.specs.declared.halt.Halt.TheVariants as halts
use Rattle.parts_reader.proofs.Added.{starts, whole_bundle}
use Rattle.parts_reader.proofs.Dossiers.{past_day}
use Rattle.parts_reader.proofs.bundle.read_bundle.Goals as goal

no_fault : {T : Type 0} (x : T) → ◌≡◌ {A = Result T Halt} (Ok x) (Err halts.ReadFault) → ⊥
no_fault x e = cc

pub returns-in_err-day-clause-says : goal.returns-in_err-day-clause-says
returns-in_err-day-clause-says g c = λ input done p.
    let h = c.in_err-day.ensures.says input done InDay tt p in
    search (rules, h)

pub returns-in_err-parts-clause-says : goal.returns-in_err-parts-clause-says
returns-in_err-parts-clause-says g c = λ input done p.
    let left = g.S.Source.left c.args.src.now in
    let mid = g.S.Source.left c.read_dossier.new.src in
    let reader = c.read_dossier.new.reader in
    let r = c.in_ok-day.ensures.says input done InDay tt p in
    let q = past_day input done c.args.reader.now reader left mid c.args.lines c.in_ok-day.day p r in
    let h = c.in_err-parts.ensures.says input done r.dossier (subst (IsPlace input done (PastDay r.dossier) reader mid) (sym c.lines-behind.ensures.count) q) in
    search (rules, h)

pub returns-in_err-add_parts-clause-says : goal.returns-in_err-add_parts-clause-says
returns-in_err-add_parts-clause-says g c = λ input done p.
    let left = g.S.Source.left c.args.src.now in
    let mid = g.S.Source.left c.read_dossier.new.src in
    let reader = c.read_dossier.new.reader in
    let r = c.in_ok-day.ensures.says input done InDay tt p in
    let q = past_day input done c.args.reader.now reader left mid c.args.lines c.in_ok-day.day p r in
    let k = c.in_ok-parts.ensures.says input done r.dossier (subst (IsPlace input done (PastDay r.dossier) reader mid) (sym c.lines-behind.ensures.count) q) in
    let t = starts input done r.dossier c.in_ok-parts.parts c.count_parts.new.reader (g.S.Source.left c.count_parts.new.src)
    (record { taken = c.new.result; bounds = 0; lines = c.lines-behind.result + 1 }) k c.new.ensures refl in
    let h = c.in_err-add_parts.ensures.says input done r.dossier (sym (c.instance.ensures r.dossier r.has)) t in
    search (rules, h)

pub returns-in_err-add_parts-clause-tells : goal.returns-in_err-add_parts-clause-tells
returns-in_err-add_parts-clause-tells g c =
    reads_then g.S.Source _ _ _ (λ h. no_fault _ h)
    (reads_then g.S.Source _ _ _ (λ h. no_fault _ h) c.in_ok-day.ensures.tells c.in_ok-parts.ensures.tells (λ h. h) (λ h. h))
    c.in_err-add_parts.ensures.tells (λ e. search (rules, e)) (λ e. search (rules, e))

pub returns-clause-says : goal.returns-clause-says
returns-clause-says g c = λ input done p.
    let left = g.S.Source.left c.args.src.now in
    let mid = g.S.Source.left c.read_dossier.new.src in
    let reader = c.read_dossier.new.reader in
    let r = c.in_ok-day.ensures.says input done InDay tt p in
    let q = past_day input done c.args.reader.now reader left mid c.args.lines c.in_ok-day.day p r in
    let k = c.in_ok-parts.ensures.says input done r.dossier (subst (IsPlace input done (PastDay r.dossier) reader mid) (sym c.lines-behind.ensures.count) q) in
    let t = starts input done r.dossier c.in_ok-parts.parts c.count_parts.new.reader (g.S.Source.left c.count_parts.new.src)
    (record { taken = c.new.result; bounds = 0; lines = c.lines-behind.result + 1 }) k c.new.ensures refl in
    let m = c.in_ok-add_parts.ensures.says input done r.dossier (sym (c.instance.ensures r.dossier r.has)) t in
    let bounds = c.add_parts.new.tally.bounds in
    whole_bundle c.good_bundles_are_true.ensures input done r.dossier c.in_ok-parts.parts m.0 c.add_parts.new.reader (g.S.Source.left c.add_parts.new.src) c.add_parts.new.tally m.1 m.2
    (record { unassigned = c.in_ok-day.day.verdict.unassigned; bound = c.larger.result; parts = c.in_ok-parts.parts })
    (ap (λ v. v.unassigned) r.says) (c.larger.ensures ∙ ap (λ v. max v.bound bounds) r.says) refl
