use Rattle.std.proofs.Common.{◌≡◌, ◌++◌, ◌∷◌, [], ◌+◌, get_or, pos, cond, ap, ◌∙◌, refl, arith, rules, w64, to_z, of_z}
use Rattle.std.specs.Prelude.{FitsSigned, is_ok}
use Rattle.std.proofs.lemmas.Int.{to_z-of_z}
use Rattle.potentials.specs.declared.records.Record.{Record}
use Rattle.potentials.proofs.Fallen.{no_fall, one_fall}
use Rattle.potentials.proofs.falls.find.Goals as goal

pub loop-a-preserved-then-is_reached : goal.loop-a-preserved-then-is_reached
loop-a-preserved-then-is_reached c =
    let fits : FitsSigned w64 (get_or c.args.potentials.now c.loop-a.a (pos 0)) = search rules in
    let is = c.loop-a.invariant in
    let at = simp to_z-of_z at (c.is_reached.ensures c.if-is_reached.true) in
    record {
      room = is.room;
      few = let f = is.few in omega arith;
      falls = no_fall c.args.potentials.now c.args.opens c.loop-a.a c.loop-a.list.items is.falls at.0 at.1 at.2;
    }

pub loop-a-preserved : goal.loop-a-preserved
loop-a-preserved c =
    let is = c.loop-a.invariant in
    let list = c.loop-a.list.items in
    let potential = get_or c.args.potentials.now c.loop-a.a (pos 0) in
    let fits : FitsSigned w64 potential = search rules in
    let same = to_z-of_z w64 potential fits in
    let f : Record = record { minute = c.args.opens + c.loop-a.a; potential = to_z w64 (of_z w64 potential) } in
    let items : c.push.new.self.items ≡ list ++ f ∷ [] = c.push.ensures.items ∙ ap (λ o. cond (is_ok o) (list ++ f ∷ []) list) c.unwrap.ensures in
    record {
      room = let a = is.room in let b = c.push.ensures.capacity in omega arith;
      few = let f = is.few in let l = c.push.ensures.len in let u = c.unwrap.ensures in search rules;
      falls = rw items (one_fall c.args.potentials.now c.args.opens c.loop-a.a list is.falls f refl same);
    }

pub returns : goal.returns
returns c =
    let is = c.loop-a.invariant in
    let end = c.loop-a-test.false in
    record { falls = λ a l. is.falls.all a (omega arith); room = is.room }
