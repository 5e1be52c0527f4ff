use Rattle.std.proofs.Common.{◌≡◌, ◌+◌, [], length, take, drop, get_or, ap, sym, ◌∙◌, subst, arith, rules, length-drop, to_z, of_z, Ok, Err}
use Rattle.std.specs.Prelude.{FitsSigned}
use Rattle.std.specs.Int.{w64}
use Rattle.std.proofs.lemmas.List.{take_all, get_or-drop, length-set}
use Rattle.std.proofs.lemmas.Option.{slice_get-get_or}
use Rattle.std.proofs.lemmas.Result.{err_from_is_err_and}
use Rattle.std.proofs.lemmas.Int.{to_z-of_z}
use Rattle.field_table.specs.Fields.{AllAccept, AreValues, IsFirstFault}
use Rattle.field_table.specs.declared.fields.Cause.TheVariants.{Count}
use Rattle.field_table.specs.declared.fields.FieldFault.{FieldFault}
use Rattle.field_table.specs.Fields.IsFirstFault.{TooFew, Refused}
use Rattle.field_table.proofs.Accepts.{accept_more}
use Rattle.field_table.proofs.Once.{row_back}
use Rattle.field_table.proofs.fields.Row.read.Goals as goal

pub returns-then-count : goal.returns-then-count
returns-then-count g c =
    let fields = c.args.self.now.fields in
    let words = g.W.Words.words c.args.words.now in
    let counted = c.count-count.ensures in
    let fault : FieldFault = record { place = c.count-count.result; cause = Count } in
    let few : IsFirstFault fields words fault = TooFew (omega arith) (ap (λ n. record fault { place = n }) counted) in
    record { exact = few; back = row_back fields words (Err fault) few }

pub returns-in_err-values : goal.returns-in_err-values
returns-in_err-values g c =
    let fields = c.args.self.now.fields in
    let words = g.W.Words.words c.args.words.now in
    let i = c.loop-i.i in
    let p = err_from_is_err_and c.from_residual.result c.from_residual.ensures.1 in
    let at = c.in_err-values.ensures.exact in
    let first : IsFirstFault fields words c.in_err-values.field-0.0 =
    Refused (omega arith) i at.0 _ (slice_get-get_or fields i _ (omega arith)) at.1 (take i c.loop-i.values) c.loop-i.invariant.accepted in
    rw (p.1, p.2) (record { exact = first; back = row_back fields words (Err c.in_err-values.field-0.0) first })

pub loop-i-preserved : goal.loop-i-preserved
loop-i-preserved g c =
    let fields = c.args.self.now.fields in
    let words = g.W.Words.words c.args.words.now in
    let values = c.loop-i.values in
    let i = c.loop-i.i in
    let z = c.in_ok-values.field-0 in
    let fit : FitsSigned w64 z = search rules in
    let word : get_or words (i + 1) [] ≡ get_or (drop 1 words) i [] = ap (λ n. get_or words n []) (let e : i + 1 ≡ 1 + i = omega arith in e) ∙ sym (get_or-drop 1 words i []) in
    let same = to_z-of_z w64 z fit in
    record {
      whole = let e = length-set values i (to_z w64 (of_z w64 z)) in omega arith;
      accepted = rw same (accept_more fields (drop 1 words) values i _ z (omega arith) (omega (arith, length-drop 1 words)) (omega arith) c.loop-i.invariant.accepted
          (rw word at c.in_ok-values.ensures.exact));
    }

pub returns : goal.returns
returns g c =
    let fields = c.args.self.now.fields in
    let words = g.W.Words.words c.args.words.now in
    let values = c.loop-i.values in
    let all : c.loop-i.i ≡ length fields = omega arith in
    let each = subst (λ n. AllAccept (take n fields) (take n (drop 1 words)) (take n values)) all c.loop-i.invariant.accepted in
    let own : take (length fields) fields ≡ fields = take_all (length fields) fields (omega arith) in
    let read : take (length fields) values ≡ values = take_all (length fields) values (omega arith) in
    let are : AreValues fields words values = record { enough = omega arith; accepted = rw read at rw own at each } in
    record { exact = are; back = row_back fields words (Ok values) are }
