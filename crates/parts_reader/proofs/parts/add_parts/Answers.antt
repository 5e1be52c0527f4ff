use Rattle.std.proofs.Common.{◌≡◌, ◌++◌, ◌∷◌, [], refl, rules, arith, length-append, Result, Ok, Err}
use Rattle.crew_io.specs.Draws.{reads_none, reads_then}
use Rattle.parts_reader.specs.declared.halt.Halt.{Halt}
use Rattle.parts_reader.specs.declared.halt.Halt.TheVariants as halts
use Rattle.parts_reader.proofs.parts.add_parts.Goals as goal

no_fault : (x : Unit {0}) → ◌≡◌ {A = Result (Unit {0}) Halt} (Ok x) (Err halts.ReadFault) → ⊥
no_fault x e = cc

pub parts-init : goal.parts-init
parts-init g c = record {
  going = c.requires.going;
  more = omega arith;
  room = (let n = c.requires.none in omega arith);
  says = λ input done day same t. ([], refl, t);
  tells = reads_none g.S.Source c.args.src.now;
}

pub add_part-requires-clause-going : goal.add_part-requires-clause-going
add_part-requires-clause-going g c = c.parts.invariant.going

pub add_part-requires-clause-room : goal.add_part-requires-clause-room
add_part-requires-clause-room g c = let r = c.parts.invariant.room in let l = c.parts-test.true in let f = c.requires.few in omega arith

pub returns-in_err-add_part-clause-says : goal.returns-in_err-add_part-clause-says
returns-in_err-add_part-clause-says g c = λ input done day same t.
    let i = c.parts.invariant.says input done day same t in
    let n = i.1 in
    let l = c.parts-test.true in
    let h = c.in_err-add_part.ensures.says input done day c.args.k i.0 same (omega (arith, n, l)) i.2 in
    search (rules, h)

pub returns-in_err-add_part-clause-tells : goal.returns-in_err-add_part-clause-tells
returns-in_err-add_part-clause-tells g c =
    reads_then g.S.Source _ _ _ (λ fault. fault) c.parts.invariant.tells c.in_err-add_part.ensures.tells (λ e. search (rules, e)) (λ e. search (rules, e))

pub parts-preserved : goal.parts-preserved
parts-preserved g c =
    let i = c.parts.invariant in
    let e = c.in_ok-add_part.ensures in
    record {
      going = e.going;
      more = (let a = i.more in let b = e.more in omega arith);
      room = (let a = i.room in let b = e.room in omega arith);
      says = λ input done day same t.
          let s = i.says input done day same t in
          let n = s.1 in
          let l = c.parts-test.true in
          let m = e.says input done day c.args.k s.0 same (omega (arith, n, l)) s.2 in
          (s.0 ++ m.0 ∷ [], (let a = length-append s.0 (m.0 ∷ []) in omega (arith, a, n)), m.1);
      tells = reads_then g.S.Source _ _ _ (λ fault. fault) i.tells e.tells (λ fault. absurd fault) (λ h. no_fault _ h);
    }

pub returns-clause-going : goal.returns-clause-going
returns-clause-going g c = c.parts.invariant.going

pub returns-clause-more : goal.returns-clause-more
returns-clause-more g c = c.parts.invariant.more

pub returns-clause-says : goal.returns-clause-says
returns-clause-says g c = λ input done day same t.
    let s = c.parts.invariant.says input done day same t in
    let n = s.1 in
    let l = c.parts-test.false in
    let m = c.parts.auto.counter-end in
    (s.0, omega (arith, n, l, m), s.2)

pub returns-clause-tells : goal.returns-clause-tells
returns-clause-tells g c =
    reads_then g.S.Source _ _ _ (λ fault. fault) c.parts.invariant.tells (reads_none g.S.Source c.parts.src) (λ h. no_fault _ h) (λ fault. absurd fault)
