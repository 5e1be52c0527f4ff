use Rattle.std.proofs.Common.{◌≡◌, ◌<◌, ℕ, List, [], Vec, Global, length, get_or, take, ap, subst, sym, refl, ◌∙◌, arith}
use Rattle.std.proofs.lemmas.List.{get_or-map, length-map}
use Rattle.crew_instance.specs.Draft.{rows_of}
use Rattle.part_texts.specs.Bundle.{ArePartsOf}
use Rattle.bundle_join.specs.Tallies.{IsTally}
use Rattle.bundle_join.proofs.Parts.{all_told, begins, good_at, is_none, take_next, text_at, too_many}
use Rattle.bundle_join.proofs.tally.tally_of.Goals as goal

-- the items of the list with this number
row_at : (lists : List (Vec ℕ Global)) (k : ℕ) (row : Vec ℕ Global) (items : List ℕ) → k < length lists → row ≡ get_or lists k row → items ≡ row.items → get_or (rows_of lists) k [] ≡ items
row_at lists k row items l is e = get_or-map (λ (r : Vec ℕ Global). r.items) lists k row [] l ∙ ap (λ (r : Vec ℕ Global). r.items) (sym is) ∙ sym e

within : (lists : List (Vec ℕ Global)) (k : ℕ) → k < length lists → k < length (rows_of lists)
within lists k l = subst (λ n. k < n) (sym (length-map lists (λ (r : Vec ℕ Global). r.items))) l

pub loop-k-init : goal.loop-k-init
loop-k-init c = record { says = λ day parts good same are. begins day parts _ c.new.ensures refl; room = omega arith; few = omega arith }

pub loop-k-preserved : goal.loop-k-preserved
loop-k-preserved c =
    let k = c.loop-k.k in
    let texts = c.args.texts.now in
    let l = within texts k c.loop-k-test.true in
    let row = row_at texts k c.index-texts-k.result c.deref.result.now c.loop-k-test.true c.index-texts-k.is c.deref.ensures.value in
    record {
      says = λ day parts good same are.
          let says = c.in_ok-add_part.ensures.says day (take k parts) (get_or parts k day) good same (good_at day parts (rows_of texts) k are l) (sym row ∙ text_at day parts (rows_of texts) k are l)
          (c.loop-k.invariant.says day parts good same are) in
          subst (λ ds. IsTally day ds c.add_part.new.tally) (sym (take_next day parts (rows_of texts) k are l)) (says.0 c.if-not-branch.false);
      room = (let a = c.in_ok-add_part.ensures.room in let b = c.loop-k.invariant.room in omega arith);
      few = (let a = c.if-k-ge-MOST_TASKS.false in omega (arith, a));
    }

pub returns-then-k-ge-MOST_TASKS-clause-says : goal.returns-then-k-ge-MOST_TASKS-clause-says
returns-then-k-ge-MOST_TASKS-clause-says c = λ day parts good same are. too_many day parts (rows_of c.args.texts.now) c.loop-k.k are (within c.args.texts.now c.loop-k.k c.loop-k-test.true) c.if-k-ge-MOST_TASKS.true

pub returns-then-not-branch-clause-says : goal.returns-then-not-branch-clause-says
returns-then-not-branch-clause-says c = λ day parts good same are.
    let k = c.loop-k.k in
    let texts = c.args.texts.now in
    let l = within texts k c.loop-k-test.true in
    let row = row_at texts k c.index-texts-k.result c.deref.result.now c.loop-k-test.true c.index-texts-k.is c.deref.ensures.value in
    let says = c.in_ok-add_part.ensures.says day (take k parts) (get_or parts k day) good same (good_at day parts (rows_of texts) k are l) (sym row ∙ text_at day parts (rows_of texts) k are l)
    (c.loop-k.invariant.says day parts good same are) in
    is_none day parts k (subst (λ ds. ArePartsOf day.instance ds → ⊥) (sym (take_next day parts (rows_of texts) k are l)) (says.1 c.if-not-branch.true))

pub returns-clause-says : goal.returns-clause-says
returns-clause-says c = λ day parts good same are.
    let past = c.loop-k-test.false in
    let n = length-map c.args.texts.now (λ (r : Vec ℕ Global). r.items) in
    all_told day parts (rows_of c.args.texts.now) c.loop-k.k c.loop-k.tally are (omega (arith, past, n)) c.loop-k.invariant.few (c.loop-k.invariant.says day parts good same are)
