use Rattle.std.proofs.Common.{rules, ◌≡◌, ◌≢◌, ◌<◌, ◌+◌, ◌++◌, ◌∷◌, [], ℕ, pos, cond, ◌⊎◌, inl, inr, ap, sym, subst, ◌∙◌, arith, to_z, of_z, w64, length}
use Rattle.std.specs.Prelude.{FitsSigned, is_ok}
use Rattle.std.proofs.lemmas.Bool.{cases_eq}
use Rattle.std.proofs.lemmas.Int.{to_z-of_z}
use Rattle.std.proofs.lemmas.List.{get_or_append_left}
use Rattle.std.proofs.Math.Seq.{get_or-append_seam}
use Rattle.crew_terms.specs.Leaf.{IsWorth, worth_of, earned}
use Rattle.label_pricing.proofs.proved.find_worths.Goals as goal

pub worth_after-worth-requires-clause-worths : goal.worth_after-worth-requires-clause-worths
worth_after-worth-requires-clause-worths c h l = subst (λ xs. IsWorth c.args.limits.now.limits h (earned c.args.prices.now h) (worth_of xs h)) (sym c.deref.ensures.value) (c.loop-k.invariant.each h l)

pub loop-k-preserved : goal.loop-k-preserved
loop-k-preserved c = record {
  each = λ h l. by h l (cases_eq h c.loop-k.k);
  count = let a = c.push.ensures.len in let b = c.loop-k.invariant.count in search rules;
  work = c.worth_after-worth.ensures.work;
  room = let a = c.push.ensures.capacity in let b = c.loop-k.invariant.room in omega arith;
}
  where
    items : c.push.new.self.items ≡ c.loop-k.worths.items ++ c.worth_after-worth.result ∷ []
    items =
        let fits : FitsSigned w64 c.worth_after-worth.result = search rules in
        c.push.ensures.items
        ∙ ap (λ o. cond (is_ok o) (c.loop-k.worths.items ++ to_z w64 (of_z w64 c.worth_after-worth.result) ∷ []) c.loop-k.worths.items) c.unwrap.ensures
        ∙ ap (λ v. c.loop-k.worths.items ++ v ∷ []) (to_z-of_z w64 c.worth_after-worth.result fits)

    by : (h : ℕ) → h < c.loop-k.k + 1 → (h ≡ c.loop-k.k) ⊎ (h ≡ c.loop-k.k → ⊥) → IsWorth c.args.limits.now.limits h (earned c.args.prices.now h) (worth_of c.push.new.self.items h)
    by h l (inl e) =
        let count = c.loop-k.invariant.count in
        let at : worth_of c.push.new.self.items h ≡ c.worth_after-worth.result =
        ap (worth_of c.push.new.self.items) (e ∙ sym count) ∙ ap (λ xs. worth_of xs (length c.loop-k.worths.items)) items
        ∙ get_or-append_seam c.loop-k.worths.items c.worth_after-worth.result [] (pos 0) in
        subst (λ j. IsWorth c.args.limits.now.limits j (earned c.args.prices.now j) (worth_of c.push.new.self.items h)) (sym e)
        (subst (IsWorth c.args.limits.now.limits c.loop-k.k (earned c.args.prices.now c.loop-k.k)) (sym at) c.worth_after-worth.ensures.worth)
    by h l (inr ne) =
        let d : h ≢ c.loop-k.k = ne in
        let count = c.loop-k.invariant.count in
        let before : h < length c.loop-k.worths.items = omega arith in
        let at : worth_of c.push.new.self.items h ≡ worth_of c.loop-k.worths.items h =
        ap (λ xs. worth_of xs h) items ∙ get_or_append_left c.loop-k.worths.items (c.worth_after-worth.result ∷ []) (pos 0) h before in
        subst (IsWorth c.args.limits.now.limits h (earned c.args.prices.now h)) (sym at) (c.loop-k.invariant.each h (omega arith))

pub returns-clause-worths : goal.returns-clause-worths
returns-clause-worths c =
    let a = c.teams-k-end.ensures.count in
    let b = ap (λ i. length i.teams) c.instance.ensures.instance in
    let d = c.loop-k-test.false in
    let e = c.loop-k.auto.k-end in
    let count = c.loop-k.invariant.count in
    record { count = omega arith; each = λ k l. c.loop-k.invariant.each k (omega arith) }
