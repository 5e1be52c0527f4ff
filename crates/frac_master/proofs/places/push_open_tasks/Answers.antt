use Rattle.std.proofs.Common.{◌≡◌, ◌++◌, ◌∷◌, [], ◌∙◌, ℕ, Bool, true, false, cond, refl, ◌+◌, ap, sym, arith, map, filter, not, append-nil}
use Rattle.std.specs.List.{range_with_len}
use Rattle.std.proofs.lemmas.List.{map-append}
use Rattle.crew_terms.specs.Limits.{has_required}
use Rattle.search_terms.specs.declared.Place.TheVariants.{Unassigned}
use Rattle.frac_master.proofs.Ranges.{closed_from, filter_range_more, grown, longer_by_one, open_from}
use Rattle.frac_master.proofs.places.push_open_tasks.Goals as goal
use Rattle.frac_master.proofs.places.push_open_tasks.Goals.{then-required-eq0+in_ok-push, else-required-eq0}

open_more : (test : ℕ → Bool) (j : ℕ) (b : Bool) → test j ≡ b
    → map Unassigned (filter test (range_with_len 0 (j + 1))) ≡ map Unassigned (filter test (range_with_len 0 j)) ++ cond b (Unassigned j ∷ []) []
open_more test j b e =
    ap (map Unassigned) (filter_range_more test j) ∙ map-append Unassigned (filter test (range_with_len 0 j)) (cond (test j) (j ∷ []) [])
    ∙ ap (λ l. map Unassigned (filter test (range_with_len 0 j)) ++ l) (ap (λ t. map Unassigned (cond t (j ∷ []) [])) e ∙ by_case b)
  where
    by_case : (b : Bool) → map Unassigned (cond b (j ∷ []) []) ≡ cond b (Unassigned j ∷ []) []
    by_case true = refl
    by_case false = refl

pub loop-j-preserved : goal.loop-j-preserved
loop-j-preserved c =
    let j = c.loop-j.j in
    let n = c.args.limits.now.limits in
    let test : ℕ → Bool = λ j. not (has_required n j) in
    let old = c.args.places.now.items in
    let front = c.loop-j.places.items in
    let all = map Unassigned (filter test (range_with_len 0 j)) in
    let few = c.loop-j.invariant.few in
    elim c.if-required-eq0.branch [
      | then-required-eq0+in_ok-push w ↦
          let e = w.in_ok-push.ensures.items in
          let t = open_from (has_required n j) c.required.result c.required.ensures.some w.if-required-eq0.true in
          let l = longer_by_one front w.push.new.self.items (Unassigned j) e in
          rw w.places-is (record {
            places = grown old front w.push.new.self.items (Unassigned j) all c.loop-j.invariant.places e ∙ ap (λ l. old ++ l) (sym (open_more test j true t));
            few = omega arith;
          })
      | else-required-eq0 w ↦
          let t = closed_from (has_required n j) c.required.result c.required.ensures.some w.if-required-eq0.false in
          rw w.places-is (record {
            places = c.loop-j.invariant.places ∙ ap (λ l. old ++ l) (sym (open_more test j false t ∙ append-nil all));
            few = omega arith;
          })
    ]
