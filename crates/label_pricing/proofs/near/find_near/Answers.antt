use Rattle.std.proofs.Common.{◌≡◌, ◌≤◌, ◌<◌, ◌+◌, ◌++◌, ◌∷◌, [], cond, ℕ, List, length, ◌⊎◌, inl, inr, ap, sym, ◌∙◌, subst, arith, length-append}
use Rattle.std.specs.Prelude.{is_ok}
use Rattle.std.proofs.lemmas.Bool.{cases_lt}
use Rattle.label_pricing.specs.Near.{IsBetween, IsIdle, near_at}
use Rattle.label_pricing.specs.Turns.{turn_of}
use Rattle.label_pricing.proofs.Nearby.{pushed_known, pushed_rising, between_before}
use Rattle.label_pricing.proofs.near.find_near.Goals.{then-turn-to+then-from-turn, else-turn-to, else-turn-to-via-then-turn-to+else-from-turn, else-turn-to-via-else-turn-to}
use Rattle.label_pricing.proofs.near.find_near.Goals as goal

pub loop-j-init : goal.loop-j-init
loop-j-init c =
    let none : length c.clear.new.self.items ≡ 0 = ap length c.clear.ensures.items in
    let a = c.clear.ensures.capacity in
    let b = c.requires.room in
    record {
      count = omega arith;
      room = omega arith;
      known = λ i l. absurd (omega arith);
      rising = λ h i lt l. absurd (omega arith);
      all = λ i h t l lt. absurd (omega arith);
    }

pub loop-j-preserved : goal.loop-j-preserved
loop-j-preserved c =
    let is = c.loop-j.invariant in
    let j = c.loop-j.j in
    let old = c.loop-j.near.items in
    let from = c.args.from in
    let to = c.args.to in
    let turns = c.args.turns.now in
    elim c.if-turn-to.branch [
      | then-turn-to+then-from-turn w ↦
          let items : w.push.new.self.items ≡ old ++ j ∷ [] = w.push.ensures.items ∙ ap (λ o. cond (is_ok o) (old ++ j ∷ []) old) w.unwrap.ensures in
          let count : length w.push.new.self.items ≡ length old + 1 = ap length items ∙ length-append old (j ∷ []) in
          let known = pushed_known old j is.known in
          let rising = pushed_rising old j is.known is.rising in
          let between = between_before old j is.known in
          let room = w.push.ensures.capacity in
          let P = λ (now : List ℕ). record {
            known : (i : ℕ) → i < length old + 1 → near_at now i < j + 1;
            rising : (h i : ℕ) → h < i → i < length old + 1 → near_at now h < near_at now i;
            all : (i h t : ℕ) → i ≤ length old + 1 → h < j + 1 → IsBetween now i h → from ≤ t → t ≤ to → IsIdle (turn_of turns h) t;
          } in
          let more = subst P (sym items) (record {
            known = known;
            rising = rising;
            all = λ i h t l lt at. let before = between i h l lt at in is.all i h t before.1 before.0 before.2;
          }) in
          rw w.near-is (record {
            count = let a = is.count in omega arith;
            room = let a = is.room in omega arith;
            known = λ i l. more.known i (omega arith);
            rising = λ h i lt l. more.rising h i lt (omega arith);
            all = λ i h t l lt at. more.all i h t (omega arith) lt at;
          })
      | else-turn-to w ↦
          let idle : (t : ℕ) → from ≤ t → t ≤ to → IsIdle (turn_of turns j) t = (λ t low high first end.
          elim w.else-turn-to.branch [
            | else-turn-to-via-then-turn-to+else-from-turn v ↦ (let a = v.if-from-turn.false in omega arith)
            | else-turn-to-via-else-turn-to v ↦ (let a = v.if-turn-to.false in omega arith)
          ]) in
          let last : (h t : ℕ) → h ≡ j → from ≤ t → t ≤ to → IsIdle (turn_of turns h) t = (λ h t e low high. subst (λ g. IsIdle (turn_of turns g) t) (sym e) (idle t low high)) in
          let all : (i h t : ℕ) → (h < j) ⊎ (j ≤ h) → i ≤ length old → h < j + 1 → IsBetween old i h → from ≤ t → t ≤ to → IsIdle (turn_of turns h) t =
          (λ i h t which l lt at low high. elim which [ inl before ↦ is.all i h t l before at low high | inr ge ↦ last h t (omega arith) low high ]) in
          rw w.near-is (record {
            count = let a = is.count in omega arith;
            room = is.room;
            known = λ i l. let a = is.known i l in omega arith;
            rising = is.rising;
            all = λ i h t l lt at. all i h t (cases_lt h j) l lt at;
          })
    ]

pub returns-clause-near : goal.returns-clause-near
returns-clause-near c t from to =
    let is = c.loop-j.invariant in
    let e = c.loop-j-test.false in
    let f = c.loop-j.auto.j-end in
    record {
      known = λ i l. let a = is.known i l in omega arith;
      rising = is.rising;
      all = λ i h l known between. is.all i h t l (omega arith) between from to;
    }
