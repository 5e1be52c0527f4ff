use Rattle.std.proofs.Common.{List, Option, pos, ◌≡◌, ◌<◌, None, Some, length, arith, subst, sym, ap, ◌∙◌, take, get_or, set, length-set, ◌++◌, ◌∷◌, []}
use Rattle.std.proofs.lemmas.List.{take_more, take_all, get_or-replicate, length-replicate}
use Rattle.branch_choice.specs.Ends.{AreEndsAt}
use Rattle.branch_choice.specs.declared.uses.Use.{Use}
use Rattle.branch_choice.specs.declared.ends.Ends.{Ends}
use Rattle.branch_choice.proofs.More.{none_in, ends_more}
use Rattle.branch_choice.proofs.ends.ends_by_task.Goals as goal

pub loop-u-init : goal.loop-u-init
loop-u-init c = record {
  whole = ap length c.no_ends-ends.ensures ∙ length-replicate {A = Option Ends} 400 None;
  ends = λ j l. subst (AreEndsAt [] j) (sym (ap (λ (xs : List (Option Ends)). get_or xs j None) c.no_ends-ends.ensures ∙ get_or-replicate 400 j None None l)) (λ t b. none_in b.0 b.1);
}

pub loop-u-preserved : goal.loop-u-preserved
loop-u-preserved c =
    let uses = c.args.uses.now in
    let i = c.loop-u.u-index in
    let u : Use = get_or uses i (record { team = 0; task = 0; start = 0; num = pos 0 }) in
    let below : u.task < 400 = c.requires i (record { team = 0; task = 0; start = 0; num = pos 0 }) c.loop-u-test.true in
    let whole : length c.loop-u.ends ≡ 400 = c.loop-u.invariant.whole in
    let more = take_more uses i (record { team = 0; task = 0; start = 0; num = pos 0 }) c.loop-u-test.true in
    record {
      whole = length-set c.loop-u.ends u.task (Some c.widened.result) ∙ whole;
      ends = λ j l. subst (λ (xs : List Use). AreEndsAt xs j (get_or (set c.loop-u.ends u.task (Some c.widened.result)) j None)) (sym more)
          (subst (λ (e : Ends). AreEndsAt (take i uses ++ u ∷ []) j (get_or (set c.loop-u.ends u.task (Some e)) j None)) (sym c.widened.ensures)
          (ends_more (take i uses) u c.loop-u.ends 400 (omega arith) c.loop-u.invariant.ends below j l));
    }

pub returns : goal.returns
returns c = λ j l. let e = take_all c.loop-u.u-index c.args.uses.now c.loop-u-test.false in subst (λ xs. AreEndsAt xs j (get_or c.loop-u.ends j None)) e (c.loop-u.invariant.ends j l)
