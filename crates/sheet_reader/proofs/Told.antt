-- what is told of a line, and the rows of the table for its faults
use Rattle.std.proofs.Common.{◌≡◌, ℕ, List, refl, subst, sym}
use Rattle.std.specs.Prelude.{Result, Ok, Err}
use Rattle.std.specs.Result.{IsErrAnd}
use Rattle.std.specs.List.{flat_map}
use Rattle.std.proofs.lemmas.Result.{err_from_is_err_and}
use Rattle.crew_terms.specs.Words.{Words}
use Rattle.crew_terms.specs.Instance.{Instance}
use Rattle.dossier_terms.specs.declared.Reason.TheVariants as reasons
use Rattle.dossier_terms.specs.Dossier.{Potentials}
use Rattle.line_in.specs.Fields.{run_numbers}
use Rattle.line_in.specs.Faults.{reason_for}
use Rattle.line_in.specs.declared.faults.LineFault.{LineFault}
use Rattle.line_in.specs.declared.faults.LineFault.TheVariants as faults
use Rattle.line_in.specs.declared.refusals.Refusal.{Refusal}
use Rattle.line_in.specs.declared.refusals.Refusal.TheVariants.{No, OutOfMemory}
use Rattle.cert_format.specs.Lines.{IsFaultOf}
use Rattle.cert_format.specs.declared.kinds.Expect.TheVariants as expected
use Rattle.cert_format.specs.declared.kinds.LineKind.TheVariants as kinds
use Rattle.sheet_lines.specs.Spelled.{ReadsSpelling}
use Rattle.sheet_terms.specs.Rules.{Must, Holds, Fails, MustSpell, Unspelled}
use Rattle.sheet_terms.specs.Sheet.{Sheet}
use Rattle.sheet_terms.specs.Reading.{SheetAnswer, More as Goes, Whole as Done, No as Refuses}
use Rattle.sheet_terms.specs.Table.{worth_row, steps_row, end_row}
use Rattle.sheet_reader.specs.Reader.{SheetTells}
use Rattle.sheet_reader.specs.declared.reader.SheetReader.{SheetReader}
use Rattle.sheet_reader.specs.declared.reader.SheetStep.{SheetStep}
use Rattle.sheet_reader.specs.declared.reader.SheetStep.TheVariants.{More, Whole}

-- what some rules tell is told by the rules that they are the rest of
pub tells_rest : (i : Instance) (budget : ℕ) (Rest Rules : SheetAnswer → Type 0) (step : Result SheetStep Refusal) (new : SheetReader) → ((said : SheetAnswer) → Rest said → Rules said)
    → SheetTells i budget Rest step new → SheetTells i budget Rules step new
tells_rest i budget Rest Rules (Ok More) new f t = (t.0, f (Goes t.0) t.1, t.2)
tells_rest i budget Rest Rules (Ok Whole) new f t = (t.0, f (Done t.0) t.1, t.2)
tells_rest i budget Rest Rules (Err (No reason)) new f t = f (Refuses reason) t
tells_rest i budget Rest Rules (Err OutOfMemory) new f t = tt

-- a fault is told by its reason
pub tells_fault : (i : Instance) (budget : ℕ) (Rules : SheetAnswer → Type 0) (fault : LineFault) (step : Result SheetStep Refusal) (new : SheetReader)
    → IsErrAnd step (λ refusal. refusal ≡ No (reason_for fault)) → Rules (Refuses (reason_for fault)) → SheetTells i budget Rules step new
tells_fault i budget Rules fault step new is told =
    let p = err_from_is_err_and step is in
    subst (λ s. SheetTells i budget Rules s new) (sym p.1) (subst (λ e. SheetTells i budget Rules (Err e) new) (sym p.2) told)

-- ---- the faults of each kind of line

pub spelling_fault : {V : Type 0} (Shaped : Type 0) (spell : V → Words) (In : V → Type 0) (ws : Words) (fault : LineFault) (rest : V → SheetAnswer → Type 0) → ReadsSpelling Shaped spell In ws (Err fault)
    → Must Shaped (Refuses reasons.Shape) (MustSpell spell In ws (Refuses reasons.Number) rest) (Refuses (reason_for fault))
spelling_fault Shaped spell In ws faults.Shape rest h = Fails h refl
spelling_fault Shaped spell In ws faults.Number rest h = Holds h.0 (Unspelled h.1 refl)
spelling_fault Shaped spell In ws faults.Name rest h = absurd h

pub worth_fault : (s : Sheet) (left : ℕ) (ws : Words) (fault : LineFault) → IsFaultOf expected.Worth ws fault → worth_row s left ws (Refuses (reason_for fault))
worth_fault s left ws faults.Shape h = Fails h refl
worth_fault s left ws faults.Number h = Holds h.0 (Unspelled (λ v fits is. h.2 (kinds.Worth v) (fits, is)) refl)
worth_fault s left ws faults.Name h = absurd (h.1 tt)

pub steps_fault : (s : Sheet) (left : ℕ) (table : Potentials) (j : ℕ) (js : List ℕ) (ws : Words) (fault : LineFault) → IsFaultOf (expected.Steps j) ws fault
    → steps_row s left table j js ws (Refuses (reason_for fault))
steps_fault s left table j js ws faults.Shape h = Fails h refl
steps_fault s left table j js ws faults.Number h = Holds h.0 (Unspelled (λ runs fits is. h.2 (kinds.Steps j (flat_map run_numbers runs)) (runs, refl, refl, fits, is)) refl)
steps_fault s left table j js ws faults.Name h = absurd (h.1 tt)

pub end_fault : (s : Sheet) (ws : Words) (fault : LineFault) → IsFaultOf expected.End ws fault → end_row s ws (Refuses (reason_for fault))
end_fault s ws faults.Shape h = Fails h refl
end_fault s ws faults.Number h = absurd (h.2 kinds.End h.0)
end_fault s ws faults.Name h = absurd (h.1 tt)
